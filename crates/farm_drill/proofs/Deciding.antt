-- What the decision on a command that goes by the plan adds to a history.
use Rattle.std.proofs.Common.{◌≡◌, ◌≤◌, ◌<◌, ◌+◌, ◌++◌, ◌∷◌, [], ℕ, nat_le, Bool, true, false, not, ◌&&◌, List, length, slice_get, Option, Some, None, IfSome, Contains, Result, Ok, Err, refl, sym, subst, option_map, if◌then◌else◌, append-nil, length-append, arith}
use Rattle.std.specs.Bool.{⊤}
use Rattle.weight_exact.specs.declared.run.Verdict.{Verdict}
use Rattle.farm_rules.specs.declared.orders.Draft.{Draft}
use Rattle.farm_rules.specs.declared.orders.NoOrder.{NoOrder}
use Rattle.farm_rules.specs.declared.orders.NoOrder.TheVariants as none
use Rattle.farm_types.specs.Moment.{moment_ms}
use Rattle.farm_types.specs.declared.key.Key.{Key}
use Rattle.farm_types.specs.declared.moment.Moment.{Moment}
use Rattle.common_types.specs.Prefix.{IsPrefix}
use Rattle.farm_entry.specs.Ask.{opening_of}
use Rattle.farm_entry.specs.Decision.{add_at, add_opening, asked_before, cancel_decision, decide, full_decision, is_show, key_of, keyed_decision, known_decision, lease_decision, moment_used, or_else, own_decision, page_decision, refuse_opening, repeat_or_clash, report_decision, revert_decision, runs_decision, shape_decision}
use Rattle.farm_entry.specs.Due.{next_run}
use Rattle.farm_entry.specs.History.{all_leases, is_closed, lease_in, lease_of, opening_numbered, openings, place_of_key, place_of_report}
use Rattle.farm_entry.specs.Orders.{next_order_at}
use Rattle.farm_entry.specs.Legal.{IsLegal}
use Rattle.farm_entry.specs.Playing.{after}
use Rattle.farm_entry.specs.Standing.{is_active, standing}
use Rattle.farm_entry.specs.declared.command.Command.{Command}
use Rattle.farm_entry.specs.declared.command.Command.TheVariants.{Open, Lease, Report, Skip, Cancel, TakeRevert, ShowSearch, ShowFarm, ShowOrders, ShowRuns, ShowSearches}
use Rattle.farm_entry.specs.declared.decision.Decision.{Decision}
use Rattle.farm_entry.specs.declared.decision.Decision.TheVariants as decision
use Rattle.farm_entry.specs.declared.entry.Entry.{Entry}
use Rattle.farm_entry.specs.declared.entry.What.{What}
use Rattle.farm_entry.specs.declared.entry.What.TheVariants.{Cancelled, Reported, Skipped}
use Rattle.farm_entry.specs.declared.lease.DueRun.{DueRun}
use Rattle.farm_entry.specs.declared.lease.LeasedRun.{LeasedRun}
use Rattle.farm_entry.specs.declared.limits.TheConstants.{MAX_ENTRIES, MAX_SEARCHES}
use Rattle.farm_entry.specs.declared.opening.Opening.{Opening}
use Rattle.farm_entry.specs.declared.refusal.OpenFault.{OpenFault}
use Rattle.farm_entry.specs.declared.refusal.Refusal.TheVariants.{Closed, Full, KeyClash, SearchEnded, TooManySearches}
use Rattle.farm_core.specs.Outcome.{handed_out}
use Rattle.farm_laws.proofs.Numbered.{lease-found}
use Rattle.drill_plan.specs.Plan.{planned_verdict}
use Rattle.farm_drill.specs.Planned.{AsksByPlan, GoesByPlan, IsPlanned, IsPlannedAt, SaysPlan}
use Rattle.farm_drill.specs.Steps.{HandsOut}
use Rattle.farm_drill.proofs.Planned.{asks-on, last-planned, one-more}

-- what a decision adds says what the plan does, and what it shows hands out no run
abbrev pub Decides : List Entry → Decision → Type 0
Decides G (decision.New e) = SaysPlan G e.what
Decides G (decision.Show page) = handed_out page ≡ None
Decides G (decision.Repeat place) = ⊤
Decides G (decision.Refuse cause) = ⊤

-- Decisions that are there or not.

or-decides : (G : List Entry) (o : Option Decision) (d : Decision) → IfSome o (Decides G) → Decides G d
    → Decides G (or_else o d)
or-decides G None d first second = second
or-decides G (Some x) d first second = first

opening-shape : (G : List Entry) (made : Result Opening OpenFault) → IfSome (refuse_opening made) (Decides G)
opening-shape G (Ok o) = tt
opening-shape G (Err f) = tt

shape : (G : List Entry) (q : Command) → IfSome (shape_decision q) (Decides G)
shape G (Open ask) = opening-shape G (opening_of ask 0)
shape G q = tt

clash : (G : List Entry) (place : ℕ) (b : Bool)
    → Decides G (if b then decision.Repeat place else decision.Refuse (KeyClash place))
clash G place true = tt
clash G place false = tt

mapped : (G H : List Entry) (q : Command) (o : Option ℕ) → IfSome (option_map (repeat_or_clash H q) o) (Decides G)
mapped G H q None = tt
mapped G H q (Some place) = clash G place (asked_before (slice_get H place) q)

keyed : (G H : List Entry) (q : Command) (k : Option Key) → IfSome (keyed_decision H q k) (Decides G)
keyed G H q None = tt
keyed G H q (Some key) = mapped G H q (place_of_key H key)

repeated : (G : List Entry) (o : Option ℕ) → IfSome (option_map decision.Repeat o) (Decides G)
repeated G None = tt
repeated G (Some place) = tt

known : (G H : List Entry) (q : Command) → IfSome (known_decision H q) (Decides G)
known G H (Report run verdict) = repeated G (place_of_report H run)
known G H (Skip run) = repeated G (place_of_report H run)
known G H q = keyed G H q (key_of q)

full-by : (G : List Entry) (full shut : Bool)
    → IfSome (if full then Some (decision.Refuse Full) else (if shut then Some (decision.Refuse Closed) else None))
    (Decides G)
full-by G true shut = tt
full-by G false true = tt
full-by G false false = tt

full : (G H : List Entry) (q : Command) → IfSome (full_decision H q) (Decides G)
full G H q = full-by G (nat_le MAX_ENTRIES (length H) && not (is_show q)) (is_closed H && not (is_show q))

-- The command's own decision.

opened : (G : List Entry) (m : Moment) (made : Result Opening OpenFault) → Decides G (add_opening m made)
opened G m (Ok o) = tt
opened G m (Err f) = tt

open-by : (G : List Entry) (m : Moment) (made : Result Opening OpenFault) (b : Bool)
    → Decides G (if b then decision.Refuse TooManySearches else add_opening m made)
open-by G m made true = tt
open-by G m made false = opened G m made

leased : (G H : List Entry) (key : Key) (worker : List ℕ) (m : Moment) (d : Option DueRun)
    → Decides G (lease_decision H key worker m d)
leased G H key worker m None = tt
leased G H key worker m (Some d) = tt

reported : (G H : List Entry) (run : ℕ) (verdict : Verdict) (m : Moment) (l : Option LeasedRun)
    → IsPlanned G run verdict → Decides G (report_decision H run verdict m l)
reported G H run verdict m None is = tt
reported G H run verdict m (Some l) is = is

active : (G H : List Entry) (key : Key) (search : ℕ) (m : Moment) (o : Opening) (b : Bool)
    → Decides G (if b then add_at m (Cancelled key search) else decision.Refuse (SearchEnded (standing H o)))
active G H key search m o true = tt
active G H key search m o false = tt

cancelled : (G H : List Entry) (key : Key) (search : ℕ) (m : Moment) (o : Option Opening)
    → Decides G (cancel_decision H key search m o)
cancelled G H key search m None = tt
cancelled G H key search m (Some o) = active G H key search m o (is_active (standing H o))

reverted : (G : List Entry) (key : Key) (agent : List ℕ) (m : Moment) (n : Result Draft NoOrder)
    → Decides G (revert_decision key agent m n)
reverted G key agent m (Ok d) = tt
reverted G key agent m (Err none.NoRevert) = tt
reverted G key agent m (Err (none.DailyLimit day count)) = tt

shown : (G H : List Entry) (search : ℕ) (o : Option Opening) → Decides G (page_decision H search o)
shown G H search None = tt
shown G H search (Some o) = refl

runs-shown : (G H : List Entry) (search from : ℕ) (o : Option Opening) → Decides G (runs_decision H search from o)
runs-shown G H search from None = tt
runs-shown G H search from (Some o) = refl

own : (G H : List Entry) (q : Command) (m : Moment) → AsksByPlan G q → Decides G (own_decision H q m)
own G H (Open ask) m asks =
    open-by G m (opening_of ask (length (openings H) + 1)) (nat_le MAX_SEARCHES (length (openings H)))
own G H (Lease key worker) m asks = leased G H key worker m (next_run H (moment_ms m))
own G H (Report run verdict) m asks = reported G H run verdict m (lease_of H run) asks
own G H (Skip run) m asks = absurd asks
own G H (Cancel key search) m asks = cancelled G H key search m (opening_numbered H search)
own G H (TakeRevert key agent) m asks = reverted G key agent m (next_order_at H (moment_ms m))
own G H (ShowSearch search) m asks = shown G H search (opening_numbered H search)
own G H ShowFarm m asks = refl
own G H ShowOrders m asks = refl
own G H (ShowRuns search from) m asks = runs-shown G H search from (opening_numbered H search)
own G H (ShowSearches from) m asks = refl

pub decide-planned : (G H : List Entry) (q : Command) (m : Moment) → AsksByPlan G q → Decides G (decide H q m)
decide-planned G H q m asks =
    let last : Decision = own_decision H q (moment_used H m) in
    or-decides G (shape_decision q) (or_else (known_decision H q) (or_else (full_decision H q) last)) (shape G q)
    (or-decides G (known_decision H q) (or_else (full_decision H q) last) (known G H q)
    (or-decides G (full_decision H q) last (full G H q) (own G H q (moment_used H m) asks)))

-- The history after a decision.

pub begins-after : (H : List Entry) (d : Decision) → IsPrefix H (after H d)
begins-after H (decision.New e) = (e ∷ [], refl)
begins-after H (decision.Show page) = ([], sym (append-nil H))
begins-after H (decision.Repeat place) = ([], sym (append-nil H))
begins-after H (decision.Refuse cause) = ([], sym (append-nil H))

-- what a command that goes by the plan comes to, at the history that there is then
pub after-decides : (H : List Entry) (q : Command) (m : Moment) → AsksByPlan H q
    → Decides (after H (decide H q m)) (decide H q m)
after-decides H q m asks =
    let G : List Entry = after H (decide H q m) in
    decide-planned G H q m (asks-on H G q (begins-after H (decide H q m)) asks)

goes-after : (H : List Entry) (d : Decision) → GoesByPlan H → Decides (after H d) d → GoesByPlan (after H d)
goes-after H (decision.New e) goes says = one-more H e goes says
goes-after H (decision.Show page) goes says = goes
goes-after H (decision.Repeat place) goes says = goes
goes-after H (decision.Refuse cause) goes says = goes

-- a history goes on by the plan as such a command is decided
pub asked-goes : (H new : List Entry) (q : Command) (m : Moment) → new ≡ after H (decide H q m) → GoesByPlan H
    → AsksByPlan H q → GoesByPlan new
asked-goes H new q m is goes asks =
    subst GoesByPlan (sym is) (goes-after H (decide H q m) goes (after-decides H q m asks))

-- the entry that a decision adds
pub new-planned : (H : List Entry) (d : Decision) (place : ℕ) → length H ≤ place → place < length (after H d)
    → Decides (after H d) d → IsPlannedAt (after H d) place
new-planned H (decision.New e) place from below says =
    let low : place < length (H ++ e ∷ []) = below in
    let one : length (H ++ e ∷ []) ≡ length H + 1 = length-append H (e ∷ []) in
    last-planned H e place (omega arith) says
new-planned H (decision.Show page) place from below says =
    let low : place < length H = below in absurd (omega arith)
new-planned H (decision.Repeat at) place from below says =
    let low : place < length H = below in absurd (omega arith)
new-planned H (decision.Refuse cause) place from below says =
    let low : place < length H = below in absurd (omega arith)

-- What the caller adds once the workers have ended.

leased-says : (G : List Entry) (what : What) (l : LeasedRun) → lease_in what ≡ Some l → SaysPlan G what
leased-says G (Reported run verdict _) l is = cc is
leased-says G (Skipped run _) l is = cc is
leased-says G what l is = tt

-- a run that is handed out
pub handed-goes : (H new : List Entry) (key : Key) (l : LeasedRun) → HandsOut H key l new → GoesByPlan H
    → GoesByPlan new
handed-goes H new key l handed goes =
    let e : Entry = handed.more.entry in
    subst GoesByPlan (sym handed.more.is)
    (one-more H e goes (leased-says (H ++ e ∷ []) e.what l handed.handed))

-- and its report
pub reported-goes : (H new : List Entry) (l : LeasedRun) (m : Moment) → IsLegal H → Contains (all_leases H) l
    → new ≡ after H (decide H (Report l.run (planned_verdict l.search l.position)) m) → GoesByPlan H → GoesByPlan new
reported-goes H new l m legal there is goes =
    asked-goes H new (Report l.run (planned_verdict l.search l.position)) m is goes
    (record { lease = l; leased = lease-found H l legal there; says = refl })
