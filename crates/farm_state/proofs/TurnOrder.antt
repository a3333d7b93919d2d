-- The soonest of the due runs comes before each other.
use Rattle.std.proofs.Common.{◌≡◌, ℕ, ◌+◌, ◌<◌, ◌≤◌, ◌⊎◌, Bool, true, false, nat_le, if◌then◌else◌, List, [], ◌∷◌, length, map, Contains, Option, Some, None, Result, Ok, Err, refl, sym, ap, subst, inl, inr, ◌∙◌, ⊎_elim, arith}
use Rattle.std.specs.List.{cons_option, filter_map, range_with_len}
use Rattle.std.proofs.lemmas.Bool.{cases_lt}
use Rattle.std.proofs.lemmas.Bool.Decides.{nat_tests}
use Rattle.std.proofs.lemmas.Option.{none-some}
use Rattle.farm_types.specs.Moment.{moment_ms}
use Rattle.farm_types.specs.declared.moment.Moment.{Moment}
use Rattle.farm_rules.specs.declared.orders.Draft.{Draft}
use Rattle.farm_rules.specs.declared.orders.NoOrder.{NoOrder}
use Rattle.farm_rules.specs.declared.orders.NoOrder.TheVariants as none
use Rattle.farm_types.specs.declared.key.Key.{Key}
use Rattle.weight_exact.specs.declared.run.Verdict.{Verdict}
use Rattle.farm_entry.specs.Ask.{opening_of}
use Rattle.farm_entry.specs.Decision.{add_opening, cancel_decision, decide, lease_decision, moment_used, own_decision, page_decision, report_decision, revert_decision, runs_decision, skip_decision}
use Rattle.farm_entry.specs.Due.{due, due_runs, next_run, sooner, soonest}
use Rattle.farm_entry.specs.History.{last_lease, lease_in, lease_of, opening_numbered, openings}
use Rattle.farm_entry.specs.Legal.{IsLegal}
use Rattle.farm_entry.specs.Orders.{next_order_at}
use Rattle.farm_entry.specs.Standing.{is_active, standing}
use Rattle.farm_entry.specs.declared.command.Command.{Command}
use Rattle.farm_entry.specs.declared.command.Command.TheVariants as command
use Rattle.farm_entry.specs.declared.decision.Decision.{Decision}
use Rattle.farm_entry.specs.declared.decision.Decision.TheVariants.{New, Refuse, Repeat, Show}
use Rattle.farm_entry.specs.declared.entry.Entry.{Entry}
use Rattle.farm_entry.specs.declared.entry.What.{What}
use Rattle.farm_entry.specs.declared.lease.DueRun.{DueRun}
use Rattle.farm_entry.specs.declared.lease.LeasedRun.{LeasedRun}
use Rattle.farm_entry.specs.declared.limits.TheConstants.{MAX_SEARCHES}
use Rattle.farm_entry.specs.declared.opening.Opening.{Opening}
use Rattle.farm_entry.specs.declared.refusal.OpenFault.{OpenFault}
use Rattle.farm_entry.specs.declared.refusal.Refusal.{Refusal}
use Rattle.farm_entry.specs.declared.refusal.Refusal.TheVariants.{SearchEnded, TooManySearches}
use Rattle.farm_laws.proofs.EntryParts.{leased-facts}
use Rattle.farm_laws.proofs.Known.{due_at-search, made-from, next_run-due}
use Rattle.farm_laws.proofs.Lists.{contains-cons, contains-nil, filter_map-there}
use Rattle.farm_laws.proofs.Numbered.{number-at, number-at-least, openings-numbered, tail_of}
use Rattle.farm_laws.proofs.Recorded.{recorded}
use Rattle.farm_laws.proofs.Stepped.{passed, stepped}
use Rattle.farm_state.specs.WhoseTurn.{ComesBefore, HasTheTurn}

-- Runs in the order of their searches.
abbrev AreOrdered : List DueRun → Type 0
AreOrdered [] = Unit {0}
AreOrdered (d ∷ ds) = ((y : DueRun) → Contains ds y → d.search ≤ y.search) × AreOrdered ds

-- a run comes before each of a list
abbrev IsFirstOf : List Entry → DueRun → List DueRun → Type 0
IsFirstOf H x ds = (y : DueRun) → Contains ds y → ComesBefore H x.search y.search

ordered-same : (d y : DueRun) → d ≡ y → d.search ≤ y.search
ordered-same d y same = subst (λ (z : DueRun). d.search ≤ z.search) same (omega arith)

-- what comes no later than a run that comes before another comes before that one
before-all : (H : List Entry) (d r y : DueRun) → last_lease H d.search ≤ last_lease H r.search → d.search ≤ y.search →
    ComesBefore H r.search y.search → ComesBefore H d.search y.search
before-all H d r y low ordered before =
    let at_most : last_lease H d.search ≤ last_lease H y.search =
    ⊎_elim (λ (less : last_lease H r.search < last_lease H y.search). omega arith)
    (λ (same : (last_lease H r.search ≡ last_lease H y.search) × (r.search ≤ y.search)). omega (
      arith,
      same.0,
    )) before in
    ⊎_elim (λ (less : last_lease H d.search < last_lease H y.search). inl less)
    (λ (not_less : last_lease H y.search ≤ last_lease H d.search). inr (omega arith, ordered))
    (cases_lt (last_lease H d.search) (last_lease H y.search))

-- of two runs, the one whose search comes first
first-if : (H : List Entry) (d r x : DueRun) (rest : List DueRun) (b : Bool) →
    nat_le (last_lease H d.search) (last_lease H r.search) ≡ b →
    ((y : DueRun) → Contains rest y → d.search ≤ y.search) → IsFirstOf H r rest → (if b then d else r) ≡ x →
    IsFirstOf H x (d ∷ rest)
first-if H d r x rest true e before later is y there =
    let low : last_lease H d.search ≤ last_lease H r.search = grind (arith, nat_tests) in
    subst (λ (z : DueRun). ComesBefore H z.search y.search) is
    (contains-cons d rest y (ComesBefore H d.search y.search)
    (λ (same : d ≡ y). inr (ap (λ (z : DueRun). last_lease H z.search) same, ordered-same d y same))
    (λ (in_rest : Contains rest y). before-all H d r y low (before y in_rest) (later y in_rest)) there)
first-if H d r x rest false e before later is y there =
    let high : last_lease H r.search < last_lease H d.search = grind (arith, nat_tests) in
    subst (λ (z : DueRun). ComesBefore H z.search y.search) is
    (contains-cons d rest y (ComesBefore H r.search y.search)
    (λ (same : d ≡ y). inl (subst (λ (z : DueRun). last_lease H r.search < last_lease H z.search) same high))
    (λ (in_rest : Contains rest y). later y in_rest) there)

rest-nil : (H : List Entry) (ds : List DueRun) → soonest H ds ≡ None → ds ≡ []
rest-nil H [] h = refl
rest-nil H (d ∷ ds) h = absurd (none-some _ (sym h))

first-of : (H : List Entry) (d : DueRun) (rest : List DueRun) (o : Option DueRun) (x : DueRun) →
    ((y : DueRun) → Contains rest y → d.search ≤ y.search) → soonest H rest ≡ o → ((r : DueRun) → o ≡ Some r →
    IsFirstOf H r rest) →
    sooner H d o ≡ x → IsFirstOf H x (d ∷ rest)
first-of H d rest None x before e later is y there =
    contains-cons d rest y (ComesBefore H x.search y.search)
    (λ (same : d ≡ y). inr (
      ap (λ (z : DueRun). last_lease H z.search) (sym is ∙ same),
      ordered-same x y (sym is
          ∙ same),
    ))
    (λ (in_rest : Contains rest y). absurd (contains-nil y (subst (λ (l : List DueRun).
    Contains l y) (rest-nil H rest e) in_rest))) there
first-of H d rest (Some r) x before e later is y there =
    first-if H d r x rest (nat_le (last_lease H d.search) (last_lease H r.search)) refl before (later r refl) is y there

soonest-first : (H : List Entry) (ds : List DueRun) (x : DueRun) → AreOrdered ds → soonest H ds ≡ Some x →
    IsFirstOf H x ds
soonest-first H [] x ordered h = absurd (none-some x h)
soonest-first H (d ∷ rest) x ordered h =
    let is : sooner H d (soonest H rest) ≡ x = cc in
    first-of H d rest (soonest H rest) x ordered.0 refl (λ r e. soonest-first H rest r ordered.1 e) is

-- The due runs are in the order of their searches.

from-option : (H : List Entry) (a : ℕ) (ds : List DueRun) (o : Option DueRun) → ((d : DueRun) → o ≡ Some d →
    d.search ≡ a) →
    ((y : DueRun) → Contains ds y → a + 1 ≤ y.search) → AreOrdered ds → AreOrdered (cons_option o ds)
from-option H a ds None number later ordered = ordered
from-option H a ds (Some d) number later ordered = (
  λ y there. let n : d.search ≡ a = number d refl in let more : a + 1 ≤ y.search = later y there in omega arith,
  ordered,
)

at-first : (o : Opening) (os : List Opening) (a : ℕ) → map (λ (x : Opening).
    x.search) (o ∷ os) ≡ range_with_len a (length (o ∷ os)) → o.search ≡ a
at-first o os a all = omega (arith, number-at (λ (x : Opening). x.search) a (o ∷ os) all 0 o (omega arith))

made-ordered : (H : List Entry) (f : Opening → Option DueRun) → ((o : Opening) (d : DueRun) → f o ≡ Some d →
    d.search ≡ o.search) → (a : ℕ) (os : List Opening) →
    map (λ (o : Opening). o.search) os ≡ range_with_len a (length os) → AreOrdered (filter_map f os)
made-ordered H f numbers a [] all = tt
made-ordered H f numbers a (o ∷ os) all =
    let rest : map (λ (x : Opening). x.search) os ≡ range_with_len (a + 1) (length os) = ap tail_of all in
    let first : o.search ≡ a = at-first o os a all in
    from-option H a (filter_map f os) (f o) (λ d e. numbers o d e ∙ first)
    (λ y there. let m = made-from f os y there in
    subst (λ (n : ℕ). a + 1 ≤ n) (sym (numbers m.from y m.makes)) (number-at-least (λ (x : Opening).
    x.search) (a + 1) os rest m.from m.there))
    (made-ordered H f numbers (a + 1) os rest)

due-ordered : (H : List Entry) (moment : ℕ) → IsLegal H → AreOrdered (due_runs H moment)
due-ordered H moment legal =
    made-ordered H (λ (o : Opening). due H o moment) (λ o d e. due_at-search (standing H o) H o moment d e) 1
    (openings H) (openings-numbered H legal)

-- The run that is handed out.

pub the_turn : (H : List Entry) (moment : ℕ) (l : LeasedRun) → IsLegal H →
    next_run H moment ≡ Some (record { search = l.search; stage = l.stage; position = l.position }) →
    HasTheTurn H moment l
the_turn H moment l legal h =
    let in_it = next_run-due H moment _ h in
    record {
      opening = in_it.opening;
      there = in_it.there;
      of_search = in_it.of_search;
      is_due = in_it.is_due;
      first = λ other d there is.
          let before = soonest-first H (due_runs H moment) _ (due-ordered H moment legal) h d
          (filter_map-there (λ (o : Opening). due H o moment) (openings H) other d there is) in
          subst (λ (n : ℕ). ComesBefore H l.search n) (due_at-search (standing H other) H other moment d is) before;
    }

-- what a command adds it adds at the moment used

abbrev time_of : Decision → Option Moment
time_of (New e) = Some e.at
time_of (Refuse r) = None
time_of (Repeat place) = None
time_of (Show r) = None

abbrev IsTimed : Decision → Moment → Type 0
IsTimed d M = (time_of d ≡ None) ⊎ (time_of d ≡ Some M)

add_opening-timed : (M : Moment) (made : Result Opening OpenFault) → IsTimed (add_opening M made) M
add_opening-timed M (Ok o) = inr refl
add_opening-timed M (Err f) = inl refl

open-timed : (M : Moment) (made : Result Opening OpenFault) (b : Bool) →
    IsTimed (if b then Refuse TooManySearches else add_opening M made) M
open-timed M made true = inl refl
open-timed M made false = add_opening-timed M made

lease-timed : (H : List Entry) (key : Key) (worker : List ℕ) (M : Moment) (d : Option DueRun) →
    IsTimed (lease_decision H key worker M d) M
lease-timed H key worker M None = inl refl
lease-timed H key worker M (Some d) = inr refl

report-timed : (H : List Entry) (run : ℕ) (verdict : Verdict) (M : Moment) (l : Option LeasedRun) →
    IsTimed (report_decision H run verdict M l) M
report-timed H run verdict M None = inl refl
report-timed H run verdict M (Some l) = inr refl

skip-timed : (H : List Entry) (run : ℕ) (M : Moment) (l : Option LeasedRun) → IsTimed (skip_decision H run M l) M
skip-timed H run M None = inl refl
skip-timed H run M (Some l) = inr refl

cancel-if_timed : (M : Moment) (what : What) (r : Refusal) (b : Bool) →
    IsTimed (if b then New (record { at = M; what = what }) else Refuse r) M
cancel-if_timed M what r true = inr refl
cancel-if_timed M what r false = inl refl

cancel-timed : (H : List Entry) (key : Key) (search : ℕ) (M : Moment) (o : Option Opening) →
    IsTimed (cancel_decision H key search M o) M
cancel-timed H key search M None = inl refl
cancel-timed H key search M (Some o) = cancel-if_timed M _ (SearchEnded (standing H o)) (is_active (standing H o))

revert-timed : (key : Key) (agent : List ℕ) (M : Moment) (n : Result Draft NoOrder) →
    IsTimed (revert_decision key agent M n) M
revert-timed key agent M (Err none.NoRevert) = inl refl
revert-timed key agent M (Err (none.DailyLimit day count)) = inl refl
revert-timed key agent M (Ok d) = inr refl

page-timed : (H : List Entry) (search : ℕ) (M : Moment) (o : Option Opening) → IsTimed (page_decision H search o) M
page-timed H search M None = inl refl
page-timed H search M (Some o) = inl refl

runs-timed : (H : List Entry) (search from : ℕ) (M : Moment) (o : Option Opening) →
    IsTimed (runs_decision H search from o) M
runs-timed H search from M None = inl refl
runs-timed H search from M (Some o) = inl refl

own-timed : (H : List Entry) (q : Command) (M : Moment) → IsTimed (own_decision H q M) M
own-timed H (command.Open ask) M =
    open-timed M (opening_of ask (length (openings H) + 1)) (nat_le MAX_SEARCHES (length (openings H)))
own-timed H (command.Lease key worker) M = lease-timed H key worker M (next_run H (moment_ms M))
own-timed H (command.Report run verdict) M = report-timed H run verdict M (lease_of H run)
own-timed H (command.Skip run) M = skip-timed H run M (lease_of H run)
own-timed H (command.Cancel key search) M = cancel-timed H key search M (opening_numbered H search)
own-timed H (command.TakeRevert key agent) M = revert-timed key agent M (next_order_at H (moment_ms M))
own-timed H (command.ShowSearch search) M = page-timed H search M (opening_numbered H search)
own-timed H command.ShowFarm M = inl refl
own-timed H command.ShowOrders M = inl refl
own-timed H (command.ShowRuns search from) M = runs-timed H search from M (opening_numbered H search)
own-timed H (command.ShowSearches from) M = inl refl

timed-at : (d : Decision) (M : Moment) (e : Entry) → d ≡ New e → IsTimed d M → M ≡ e.at
timed-at d M e is timed =
    ⊎_elim
    (λ (none : time_of d ≡ None). absurd (none-some e.at (sym none ∙ ap time_of is)))
    (λ (some : time_of d ≡ Some M). let both : Some M ≡ Some e.at = sym some ∙ ap time_of is in cc) timed

pub used-at : (H : List Entry) (q : Command) (m : Moment) (e : Entry) → decide H q m ≡ New e → moment_used H m ≡ e.at
used-at H q m e h =
    let own = (passed H q m e h).own in
    timed-at (own_decision H q (moment_used H m)) (moment_used H m) e own (own-timed H q (moment_used H m))

pub handed_out : (H : List Entry) (q : Command) (m : Moment) (e : Entry) (l : LeasedRun) → IsLegal H →
    decide H q m ≡ New e → lease_in e.what ≡ Some l →
    HasTheTurn H (moment_ms (moment_used H m)) l
handed_out H q m e l legal h is =
    let next = recorded H q m e h in
    let s = stepped H e next in
    let facts = leased-facts H e.at e.what l is s in
    let used : moment_used H m ≡ e.at = used-at H q m e h in
    the_turn H (moment_ms (moment_used H m)) l legal (ap (λ (x : Moment). next_run H (moment_ms x)) used ∙ facts.due)
