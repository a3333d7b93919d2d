-- The one decision on a command, at a history and a moment.
use Rattle.std.specs.Prelude.{ℕ, ◌+◌, ◌==◌, nat_le, nat_lt, Bool, true, false, not, ◌&&◌, List, [], ◌∷◌, ◌++◌, length, slice_get, if◌then◌else◌, Option, Some, None, Result, Ok, Err}
use Rattle.std.specs.Option.{option_map}
use Rattle.std.specs.Str.{bytes_eq}
use Rattle.weight_exact.specs.Load.{load}
use Rattle.weight_exact.specs.declared.run.Run.{Run}
use Rattle.weight_exact.specs.declared.run.Verdict.{Verdict}
use Rattle.farm_rules.specs.Reruns.{reruns_at}
use Rattle.farm_rules.specs.declared.orders.Draft.{Draft}
use Rattle.farm_rules.specs.declared.orders.NoOrder.{NoOrder}
use Rattle.farm_rules.specs.declared.orders.NoOrder.TheVariants as none
use Rattle.farm_types.specs.Moment.{moment_ms}
use Rattle.farm_types.specs.declared.key.Key.{Key}
use Rattle.farm_types.specs.declared.moment.Moment.{Moment}
use Rattle.farm_types.specs.declared.stage.Stage.TheVariants.{Search, Verify}
use Rattle.farm_entry.specs.Ask.{opening_of}
use Rattle.farm_entry.specs.Due.{next_run}
use Rattle.farm_entry.specs.History.{all_leases, is_closed, lease_ms, lease_of, opening_numbered, openings, order_lines, place_of_key, place_of_report, reruns, runs, same_stage}
use Rattle.farm_entry.specs.Orders.{next_order_at}
use Rattle.farm_entry.specs.Pages.{page_of, totals}
use Rattle.farm_entry.specs.RunPages.{runs_page}
use Rattle.farm_entry.specs.SearchLines.{search_list}
use Rattle.farm_entry.specs.Setup.{budget_of_search, setup_of}
use Rattle.farm_entry.specs.Standing.{is_active, standing}
use Rattle.farm_entry.specs.declared.decision.Decision.{Decision}
use Rattle.farm_entry.specs.declared.decision.Decision.TheVariants.{New, Refuse, Repeat, Show}
use Rattle.farm_entry.specs.declared.command.Command.{Command}
use Rattle.farm_entry.specs.declared.command.Command.TheVariants.{Open, Lease as LeaseRun, Report as ReportRun, Skip as SkipRun, Cancel, TakeRevert, ShowSearch, ShowFarm, ShowOrders, ShowRuns, ShowSearches}
use Rattle.farm_entry.specs.declared.command.OpenAsk.{OpenAsk}
use Rattle.farm_entry.specs.declared.entry.Entry.{Entry}
use Rattle.farm_entry.specs.declared.entry.Fate.{Fate}
use Rattle.farm_entry.specs.declared.entry.Fate.TheVariants.{Counted, Late, Over}
use Rattle.farm_entry.specs.declared.entry.SkipFate.{SkipFate}
use Rattle.farm_entry.specs.declared.entry.SkipFate.TheVariants as skip
use Rattle.farm_entry.specs.declared.entry.What.{What}
use Rattle.farm_entry.specs.declared.entry.What.TheVariants.{Opened, Leased, Reported, Skipped, Cancelled, Ordered}
use Rattle.farm_entry.specs.declared.lease.DueRun.{DueRun}
use Rattle.farm_entry.specs.declared.lease.LeasedRun.{LeasedRun}
use Rattle.farm_entry.specs.declared.limits.TheConstants.{MAX_ENTRIES, MAX_SEARCHES}
use Rattle.farm_entry.specs.declared.opening.Opening.{Opening}
use Rattle.farm_entry.specs.declared.refusal.OpenFault.{OpenFault}
use Rattle.farm_entry.specs.declared.refusal.Refusal.TheVariants.{BadOpen, KeyClash, Full, Closed, TooManySearches, NoRun, UnknownRun, UnknownSearch, SearchEnded, NoRevert, DailyLimit}
use Rattle.farm_entry.specs.declared.reply.Reply.TheVariants as reply
use Rattle.farm_entry.specs.declared.standing.Standing.{Standing}
use Rattle.farm_entry.specs.declared.standing.Standing.TheVariants.{Searching, Verifying}
use Rattle.farm_entry.specs.contracts.opening.OpeningPartialEq.TheImpl as opening_eq

-- the later of two moments
abbrev pub later : Moment → Moment → Moment
later a b = if nat_le (moment_ms a) (moment_ms b) then b else a

-- the moment of the last entry, or this one where there is none
abbrev pub last_moment : Moment → List Entry → Moment
last_moment m [] = m
last_moment m (e ∷ H) = last_moment e.at H

-- the moment at which a command is decided: moments never fall
abbrev pub moment_used : List Entry → Moment → Moment
moment_used H m = later (last_moment m H) m

-- First the shape of an open, which needs no history.

abbrev pub refuse_opening : Result Opening OpenFault → Option Decision
refuse_opening (Ok o) = None
refuse_opening (Err f) = Some (Refuse (BadOpen f))

abbrev pub shape_decision : Command → Option Decision
shape_decision (Open ask) = refuse_opening (opening_of ask 0)
shape_decision _ = None

-- Then the key, or for a report, with a verdict or not, the run: a command that was done before gets its first reply
-- again.

abbrev pub key_of : Command → Option Key
key_of (Open ask) = Some ask.key
key_of (LeaseRun key worker) = Some key
key_of (ReportRun run verdict) = None
key_of (SkipRun run) = None
key_of (Cancel key search) = Some key
key_of (TakeRevert key agent) = Some key
key_of (ShowSearch search) = None
key_of (ShowRuns search from) = None
key_of (ShowSearches from) = None
key_of ShowFarm = None
key_of ShowOrders = None

-- whether an open makes this very opening: its rates are compared in lowest terms, its bar as given
abbrev pub makes_opening : Opening → Result Opening OpenFault → Bool
makes_opening o (Ok made) = opening_eq.ghosts.eq made o
makes_opening o (Err f) = false

-- whether what an entry records is what a command asks for. The keys are compared before, and agree
abbrev pub asks_for : What → Command → Bool
asks_for (Opened o) (Open ask) = makes_opening o (opening_of ask o.search)
asks_for (Leased key worker run search stage position deadline) (LeaseRun key' worker') = bytes_eq worker worker'
asks_for (Cancelled key search) (Cancel key' search') = search == search'
asks_for (Ordered key agent order commit search day) (TakeRevert key' agent') = bytes_eq agent agent'
asks_for what q = false

abbrev pub asked_before : Option Entry → Command → Bool
asked_before None q = false
asked_before (Some e) q = asks_for e.what q

-- the decision on a command whose key stands at a place: its first reply again where that entry is the command's, and
-- else a refusal, since the key belongs to another command
abbrev pub repeat_or_clash : List Entry → Command → (place : ℕ) → Decision
repeat_or_clash H q place = if asked_before (slice_get H place) q then Repeat place else Refuse (KeyClash place)

abbrev pub keyed_decision : List Entry → Command → Option Key → Option Decision
keyed_decision H q None = None
keyed_decision H q (Some key) = option_map (repeat_or_clash H q) (place_of_key H key)

abbrev pub known_decision : List Entry → Command → Option Decision
known_decision H (ReportRun run verdict) = option_map Repeat (place_of_report H run)
known_decision H (SkipRun run) = option_map Repeat (place_of_report H run)
known_decision H q = keyed_decision H q (key_of q)

-- Then a history that takes no more, which still shows: a full one, or else a closed one.

abbrev pub is_show : Command → Bool
is_show (ShowSearch search) = true
is_show ShowFarm = true
is_show ShowOrders = true
is_show (ShowRuns search from) = true
is_show (ShowSearches from) = true
is_show q = false

abbrev pub closed_decision : List Entry → Command → Option Decision
closed_decision H q = if is_closed H && not (is_show q) then Some (Refuse Closed) else None

abbrev pub full_decision : List Entry → Command → Option Decision
full_decision H q =
    if nat_le MAX_ENTRIES (length H) && not (is_show q) then Some (Refuse Full) else closed_decision H q

-- Then what each command is for, at the moment used.

abbrev pub add_at : Moment → What → Decision
add_at m what = New (record { at = m; what = what })

abbrev pub add_opening : Moment → Result Opening OpenFault → Decision
add_opening m (Ok o) = add_at m (Opened o)
add_opening m (Err f) = Refuse (BadOpen f)

abbrev pub open_decision : List Entry → OpenAsk → Moment → Decision
open_decision H ask m =
    if nat_le MAX_SEARCHES (length (openings H)) then Refuse TooManySearches
    else add_opening m (opening_of ask (length (openings H) + 1))

abbrev pub lease_decision : List Entry → Key → List ℕ → Moment → Option DueRun → Decision
lease_decision H key worker m None = Refuse NoRun
lease_decision H key worker m (Some d) =
    add_at m (Leased key worker (length (all_leases H) + 1) d.search d.stage d.position (moment_ms m + lease_ms H))

-- a run of a lease, with its verdict
abbrev pub run_with : LeasedRun → Verdict → Run
run_with l verdict = record { position = l.position; verdict = verdict }

-- whether one run more takes a search past its budget
abbrev pub is_past_budget : List Entry → Opening → Run → Bool
is_past_budget H o r = nat_lt (budget_of_search o) (load (setup_of o).factors (runs H o.search ++ r ∷ []))

-- what becomes of the first report of a run, by where its search stands: late, unless it is of the stage at which the
-- search stands; a search run over the budget is over; a rerun beyond the count of its side is late
abbrev pub fate_at : Standing → List Entry → Opening → LeasedRun → Verdict → Fate
fate_at Searching H o l verdict =
    if same_stage l.stage Search then (if is_past_budget H o (run_with l verdict) then Over else Counted)
    else Late
fate_at (Verifying culprit) H o l verdict =
    if same_stage l.stage Verify && nat_lt (reruns_at l.position (reruns H o.search)) o.reruns then Counted else Late
fate_at _ H o l verdict = Late

abbrev pub fate_of : List Entry → LeasedRun → Verdict → Option Opening → Fate
fate_of H l verdict None = Late
fate_of H l verdict (Some o) = fate_at (standing H o) H o l verdict

abbrev pub report_decision : List Entry → (run : ℕ) → Verdict → Moment → Option LeasedRun → Decision
report_decision H run verdict m None = Refuse (UnknownRun run)
report_decision H run verdict m (Some l) =
    add_at m (Reported run verdict (fate_of H l verdict (opening_numbered H l.search)))

-- what becomes of the first report of a run whose tree can't be tested: it is taken where the search stands at the
-- run's stage, and else late
abbrev pub skip_fate_at : Standing → LeasedRun → SkipFate
skip_fate_at Searching l = if same_stage l.stage Search then skip.Taken else skip.Late
skip_fate_at (Verifying culprit) l = if same_stage l.stage Verify then skip.Taken else skip.Late
skip_fate_at _ l = skip.Late

abbrev pub skip_fate_of : List Entry → LeasedRun → Option Opening → SkipFate
skip_fate_of H l None = skip.Late
skip_fate_of H l (Some o) = skip_fate_at (standing H o) l

abbrev pub skip_decision : List Entry → (run : ℕ) → Moment → Option LeasedRun → Decision
skip_decision H run m None = Refuse (UnknownRun run)
skip_decision H run m (Some l) = add_at m (Skipped run (skip_fate_of H l (opening_numbered H l.search)))

abbrev pub cancel_decision : List Entry → Key → (search : ℕ) → Moment → Option Opening → Decision
cancel_decision H key search m None = Refuse (UnknownSearch search)
cancel_decision H key search m (Some o) =
    if is_active (standing H o) then add_at m (Cancelled key search) else Refuse (SearchEnded (standing H o))

abbrev pub revert_decision : Key → List ℕ → Moment → Result Draft NoOrder → Decision
revert_decision key agent m (Ok d) = add_at m (Ordered key agent d.order d.commit d.search d.day)
revert_decision key agent m (Err none.NoRevert) = Refuse NoRevert
revert_decision key agent m (Err (none.DailyLimit day count)) = Refuse (DailyLimit day count)

abbrev pub page_decision : List Entry → (search : ℕ) → Option Opening → Decision
page_decision H search None = Refuse (UnknownSearch search)
page_decision H search (Some o) = Show (reply.Search (page_of H o))

abbrev pub runs_decision : List Entry → (search from : ℕ) → Option Opening → Decision
runs_decision H search from None = Refuse (UnknownSearch search)
runs_decision H search from (Some o) = Show (reply.Runs (runs_page H from o))

abbrev pub own_decision : List Entry → Command → Moment → Decision
own_decision H (Open ask) m = open_decision H ask m
own_decision H (LeaseRun key worker) m = lease_decision H key worker m (next_run H (moment_ms m))
own_decision H (ReportRun run verdict) m = report_decision H run verdict m (lease_of H run)
own_decision H (SkipRun run) m = skip_decision H run m (lease_of H run)
own_decision H (Cancel key search) m = cancel_decision H key search m (opening_numbered H search)
own_decision H (TakeRevert key agent) m = revert_decision key agent m (next_order_at H (moment_ms m))
own_decision H (ShowSearch search) m = page_decision H search (opening_numbered H search)
own_decision H ShowFarm m = Show (reply.Farm (totals H))
own_decision H ShowOrders m = Show (reply.Orders (order_lines H))
own_decision H (ShowRuns search from) m = runs_decision H search from (opening_numbered H search)
own_decision H (ShowSearches from) m = Show (reply.Searches (search_list H from))

-- the decision that is there, or else another
abbrev pub or_else : Option Decision → Decision → Decision
or_else (Some a) other = a
or_else None other = other

-- the decision on a command at a history and a moment: the first that is there
abbrev pub decide : List Entry → Command → Moment → Decision
decide H q m =
    or_else (shape_decision q)
    (or_else (known_decision H q)
    (or_else (full_decision H q)
    (own_decision H q (moment_used H m))))
