-- What a history holds where a command is refused, said without the order in which the farm looks at things: the cause
-- of each refusal.
use Rattle.std.specs.Prelude.{◌≡◌, ℕ, ◌<◌, ◌≤◌, ◌⊎◌, true, false, List, length, slice_get, Contains, Option, Some, None, Ok, Err}
use Rattle.farm_rules.specs.Orders.{Ordered, orders_of}
use Rattle.farm_types.specs.Moment.{moment_ms}
use Rattle.farm_types.specs.declared.commit_id.CommitId.{CommitId}
use Rattle.farm_types.specs.declared.key.Key.{Key}
use Rattle.farm_types.specs.declared.moment.Moment.{Moment}
use Rattle.farm_entry.specs.Ask.{opening_of}
use Rattle.farm_entry.specs.Decision.{is_show, key_of, moment_used}
use Rattle.farm_entry.specs.Due.{due}
use Rattle.farm_entry.specs.History.{daily_limit, is_closed, key_in, lease_of, opening_numbered, openings, place_of_key, place_of_report}
use Rattle.farm_entry.specs.Legal.{command_of}
use Rattle.farm_entry.specs.Orders.{day_in, orders}
use Rattle.farm_entry.specs.Setup.{commit_of}
use Rattle.farm_entry.specs.Standing.{is_active, standing}
use Rattle.farm_entry.specs.declared.command.Command.{Command}
use Rattle.farm_entry.specs.declared.command.Command.TheVariants.{Open, Lease, Report, Skip, Cancel, TakeRevert, ShowSearch, ShowRuns}
use Rattle.farm_entry.specs.declared.command.OpenAsk.{OpenAsk}
use Rattle.farm_entry.specs.declared.entry.Entry.{Entry}
use Rattle.farm_entry.specs.declared.limits.TheConstants.{MAX_ENTRIES, MAX_SEARCHES}
use Rattle.farm_entry.specs.declared.opening.Opening.{Opening}
use Rattle.farm_entry.specs.declared.refusal.OpenFault.{OpenFault}
use Rattle.farm_entry.specs.declared.refusal.Refusal.{Refusal}
use Rattle.farm_entry.specs.declared.refusal.Refusal.TheVariants.{BadOpen, KeyClash, Full, Closed, TooManySearches, NoRun, UnknownRun, UnknownSearch, SearchEnded, NoRevert, DailyLimit}
use Rattle.farm_entry.specs.declared.standing.Standing.{Standing}
use Rattle.farm_entry.specs.declared.standing.Standing.TheVariants.{Confirmed}

-- a search can be opened as it is asked for
abbrev pub IsWithinLimits : OpenAsk → Type 0
IsWithinLimits ask = (o : Opening) × (opening_of ask 0 ≡ Ok o)

-- an open is within the limits; every other command is
abbrev pub IsWellFormed : Command → Type 0
IsWellFormed q = (ask : OpenAsk) → q ≡ Open ask → IsWithinLimits ask

-- the run that a command reports, with a verdict or as one whose tree can't be tested
abbrev pub run_told : Command → Option ℕ
run_told (Report run verdict) = Some run
run_told (Skip run) = Some run
run_told _ = None

-- a command is new to a history: no entry holds its key, and its run has no report
pub record IsNew (H : List Entry) (q : Command) : Type 0 where
  pub formed : IsWellFormed q
  pub key : (key : Key) → key_of q ≡ Some key → place_of_key H key ≡ None
  pub run : (run : ℕ) → run_told q ≡ Some run → place_of_report H run ≡ None

-- a command that is new comes to its own case: there is room for an entry and the farm isn't closed, or it only shows
pub record IsTaken (H : List Entry) (q : Command) : Type 0 where
  pub new : IsNew H q
  pub room : ((length H < MAX_ENTRIES) × (is_closed H ≡ false)) ⊎ (is_show q ≡ true)

-- The causes, one for each refusal.

-- an open asks for a search outside the limits
pub record IsOutside (q : Command) (fault : OpenFault) : Type 0 where
  pub ask : OpenAsk
  pub opens : q ≡ Open ask
  pub outside : opening_of ask 0 ≡ Err fault

-- two commands ask for the same: two opens for the same search, however its rates are spelled; two reports for the
-- same run, whatever they say of it; and else they are equal
abbrev pub AsksTheSame : Command → Command → Type 0
AsksTheSame (Open ask) q =
    (other : OpenAsk) × (q ≡ Open other) × (o : Opening) × (opening_of ask 0 ≡ Ok o) × (opening_of other 0 ≡ Ok o)
AsksTheSame (Report run verdict) q = run_told q ≡ Some run
AsksTheSame (Skip run) q = run_told q ≡ Some run
AsksTheSame p q = p ≡ q

-- an entry is what a command asks for
abbrev pub IsWhat : Entry → Command → Type 0
IsWhat e q = (p : Command) × (command_of e.what ≡ Some p) × AsksTheSame p q

-- the entry at a place holds the command's key, and isn't what the command asks for
pub record IsClash (H : List Entry) (q : Command) (place : ℕ) : Type 0 where
  pub formed : IsWellFormed q
  pub key : Key
  pub keyed : key_of q ≡ Some key
  pub entry : Entry
  pub there : slice_get H place ≡ Some entry
  pub holds : key_in entry.what ≡ Some key
  pub other : ¬ IsWhat entry q

-- a command that would add an entry finds no room for one
pub record IsFull (H : List Entry) (q : Command) : Type 0 where
  pub new : IsNew H q
  pub no_room : MAX_ENTRIES ≤ length H
  pub adds : is_show q ≡ false

-- a command that would add an entry finds the farm closed, with room for one
pub record IsRefusedClosed (H : List Entry) (q : Command) : Type 0 where
  pub new : IsNew H q
  pub room : length H < MAX_ENTRIES
  pub closed : is_closed H ≡ true
  pub adds : is_show q ≡ false

-- an open finds the most searches
pub record HasManySearches (H : List Entry) (q : Command) : Type 0 where
  pub taken : IsTaken H q
  pub ask : OpenAsk
  pub opens : q ≡ Open ask
  pub many : MAX_SEARCHES ≤ length (openings H)

-- no search has a run that is due at the moment used
pub record HasNoRun (H : List Entry) (q : Command) (m : Moment) : Type 0 where
  pub taken : IsTaken H q
  pub key : Key
  pub worker : List ℕ
  pub leases : q ≡ Lease key worker
  pub none : (o : Opening) → Contains (openings H) o → due H o (moment_ms (moment_used H m)) ≡ None

-- a report is of a run that was never handed out
pub record IsOfNoLease (H : List Entry) (q : Command) (run : ℕ) : Type 0 where
  pub taken : IsTaken H q
  pub reports : run_told q ≡ Some run
  pub unknown : lease_of H run ≡ None

-- a search that was never opened is to be cancelled, or it or its runs are to be shown
pub record IsOfNoSearch (H : List Entry) (q : Command) (search : ℕ) : Type 0 where
  pub taken : IsTaken H q
  pub names : ((key : Key) × (q ≡ Cancel key search))
      ⊎ ((q ≡ ShowSearch search) ⊎ ((from : ℕ) × (q ≡ ShowRuns search from)))
  pub unknown : opening_numbered H search ≡ None

-- a search is to be cancelled that has ended
pub record HasEnded (H : List Entry) (q : Command) (s : Standing) : Type 0 where
  pub taken : IsTaken H q
  pub key : Key
  pub search : ℕ
  pub cancels : q ≡ Cancel key search
  pub opening : Opening
  pub known : opening_numbered H search ≡ Some opening
  pub stands : standing H opening ≡ s
  pub ended : is_active s ≡ false

-- a commit has an order, of this farm or of one before it
abbrev pub IsOrdered : List Entry → CommitId → Type 0
IsOrdered H commit = (x : Ordered) × Contains (orders H) x × (x.commit ≡ commit)

-- each commit that was confirmed as a culprit has an order
pub record HasNoRevert (H : List Entry) (q : Command) : Type 0 where
  pub taken : IsTaken H q
  pub key : Key
  pub agent : List ℕ
  pub takes : q ≡ TakeRevert key agent
  pub all : (o : Opening) (culprit : ℕ) → Contains (openings H) o → standing H o ≡ Confirmed culprit →
      IsOrdered H (commit_of o culprit)

-- a commit that was confirmed as a culprit has no order, but the day of the moment used has as many as it may
pub record IsOverDay (H : List Entry) (q : Command) (m : Moment) (day count : ℕ) : Type 0 where
  pub taken : IsTaken H q
  pub key : Key
  pub agent : List ℕ
  pub takes : q ≡ TakeRevert key agent
  pub opening : Opening
  pub culprit : ℕ
  pub there : Contains (openings H) opening
  pub confirmed : standing H opening ≡ Confirmed culprit
  pub unordered : ¬ IsOrdered H (commit_of opening culprit)
  pub today : day ≡ day_in H (moment_ms (moment_used H m))
  pub counted : count ≡ orders_of day (orders H)
  pub limited : daily_limit H ≤ count

-- the cause of a refusal
abbrev pub CauseOf : Refusal → List Entry → Command → Moment → Type 0
CauseOf (BadOpen fault) H q m = IsOutside q fault
CauseOf (KeyClash place) H q m = IsClash H q place
CauseOf Full H q m = IsFull H q
CauseOf Closed H q m = IsRefusedClosed H q
CauseOf TooManySearches H q m = HasManySearches H q
CauseOf NoRun H q m = HasNoRun H q m
CauseOf (UnknownRun run) H q m = IsOfNoLease H q run
CauseOf (UnknownSearch search) H q m = IsOfNoSearch H q search
CauseOf (SearchEnded s) H q m = HasEnded H q s
CauseOf NoRevert H q m = HasNoRevert H q
CauseOf (DailyLimit day count) H q m = IsOverDay H q m day count
