-- A run is due only while fewer are out: fewer than the width of its search, or fewer at its position than the reruns
-- asked for.
use Rattle.std.proofs.Common.{◌≡◌, ℕ, ◌+◌, ◌-◌, ◌<◌, ◌==◌, Bool, true, false, nat_lt, List, length, Option, Some, None, if◌then◌else◌, refl, sym, ap, subst, ◌∙◌, arith, ltb-true, true≢false}
use Rattle.std.specs.Option.{option_map}
use Rattle.std.proofs.lemmas.Bool.{eqb-true}
use Rattle.std.proofs.lemmas.List.{length-map}
use Rattle.std.proofs.lemmas.Option.{none-some}
use Rattle.farm_types.specs.declared.stage.Stage.{Stage}
use Rattle.farm_types.specs.declared.stage.Stage.TheVariants.{Search, Verify}
use Rattle.farm_rules.specs.Due.{due_search, due_verify, first_entry, struck, times_at}
use Rattle.farm_rules.specs.Reruns.{reruns_at}
use Rattle.threshold_pick.specs.Open.{open_plan}
use Rattle.farm_entry.specs.Due.{due_at, due_searching, due_verifying, open_leases, outstanding_positions}
use Rattle.farm_entry.specs.History.{reruns, runs, same_stage, skipped}
use Rattle.farm_entry.specs.Setup.{setup_of}
use Rattle.farm_entry.specs.Standing.{standing}
use Rattle.farm_entry.specs.declared.entry.Entry.{Entry}
use Rattle.farm_entry.specs.declared.lease.DueRun.{DueRun}
use Rattle.farm_entry.specs.declared.lease.LeasedRun.{LeasedRun}
use Rattle.farm_entry.specs.declared.opening.Opening.{Opening}
use Rattle.farm_entry.specs.declared.standing.Standing.{Standing}
use Rattle.farm_entry.specs.declared.standing.Standing.TheVariants.{Searching, Verifying, Confirmed, Vindicated, NoCulprit, Inconclusive, Cancelled}
use Rattle.farm_laws.proofs.Counts.{count_by-all, count_by-map}
use Rattle.farm_laws.proofs.FewOut.{IsRoomed}
use Rattle.farm_laws.proofs.OpenPlans.{length-open_plan}

-- The tests of the rules.

-- whatever is there passed its test
passed-test : {X : Type 0} (b : Bool) (o : Option X) (x : X) → (if b then o else None) ≡ Some x → b ≡ true
passed-test true o x h = refl
passed-test false o x h = absurd (none-some x h)

-- a search's next position is there only while fewer runs are out than its plan has entries
pub room_to_search : (plan out : List ℕ) (k : ℕ) → due_search plan out ≡ Some k → length out < length plan
room_to_search plan out k h =
    ltb-true (length out) (length plan) (passed-test (nat_lt (length out) (length plan)) (first_entry (struck plan out)) k h)

verify_second : (c b v k : ℕ) (out : List ℕ) (second : Bool) → nat_lt (b + times_at c out) v ≡ second →
    (if second then Some c else None) ≡ Some k → times_at k out < v
verify_second c b v k out true tests h =
    let same : c ≡ k = cc in
    let few : b + times_at c out < v = ltb-true (b + times_at c out) v tests in
    subst (λ (p : ℕ). times_at p out < v) same (omega arith)
verify_second c b v k out false tests h = absurd (none-some k h)

verify_first : (c a b v k : ℕ) (out : List ℕ) (first : Bool) → nat_lt (a + times_at c out) v ≡ first →
    (if first then Some c else (if nat_lt (b + times_at (c - 1) out) v then Some (c - 1) else None)) ≡ Some k → times_at k out < v
verify_first c a b v k out true tests h =
    let same : c ≡ k = cc in
    let few : a + times_at c out < v = ltb-true (a + times_at c out) v tests in
    subst (λ (p : ℕ). times_at p out < v) same (omega arith)
verify_first c a b v k out false tests h = verify_second (c - 1) b v k out (nat_lt (b + times_at (c - 1) out) v) refl h

-- the next position to verify is one where fewer runs are out than the reruns asked for
pub room_to_verify : (c a b v k : ℕ) (out : List ℕ) → due_verify c a b out v ≡ Some k → times_at k out < v
room_to_verify c a b v k out h = verify_first c a b v k out (nat_lt (a + times_at c out) v) refl h

-- The due runs of a search.

-- what is made of an option that is there
record IsMadeOf {X : Type 0} (make : ℕ → X) (o : Option ℕ) (x : X) : Type 0 where
  from : ℕ
  there : o ≡ Some from
  makes : make from ≡ x

made_of : {X : Type 0} (make : ℕ → X) (o : Option ℕ) (x : X) → option_map make o ≡ Some x → IsMadeOf make o x
made_of make None x h = absurd (none-some x h)
made_of make (Some k) x h = record { from = k; there = refl; makes = cc }

other_stage : (make : ℕ → DueRun) (own stage : Stage) → ((k : ℕ) → (make k).stage ≡ own) → same_stage own stage ≡ false →
    (o : Option ℕ) (d : DueRun) → option_map make o ≡ Some d → same_stage d.stage stage ≡ true → ⊥
other_stage make own stage is differs o d h same =
    let m = made_of make o d h in
    let at : d.stage ≡ own = sym (ap (λ (x : DueRun). x.stage) m.makes) ∙ is m.from in
    let test : same_stage own stage ≡ true = subst (λ (x : Stage). same_stage x stage ≡ true) at same in
    true≢false (sym test ∙ differs)

search-room : (st : Standing) (H : List Entry) (o : Opening) (m : ℕ) (d : DueRun) → due_at st H o m ≡ Some d →
    same_stage d.stage Search ≡ true → length (open_leases H o.search Search m) < o.width
search-room Searching H o m d h same =
    let made = made_of (λ k. record { search = o.search; stage = Search; position = k }) (due_searching H o m) d h in
    let planned : List ℕ = open_plan (setup_of o) (runs H o.search) (skipped H o.search) o.width in
    let few : length (outstanding_positions H o.search Search m) < length planned =
    room_to_search planned (outstanding_positions H o.search Search m) made.from made.there in
    omega (
      arith,
      few,
      length-open_plan (setup_of o) (runs H o.search) (skipped H o.search) o.width,
      length-map (open_leases H o.search Search m) (λ (l : LeasedRun). l.position),
    )
search-room (Verifying c) H o m d h same =
    absurd
    (other_stage (λ k. record { search = o.search; stage = Verify; position = k }) Verify Search (λ k. refl) refl
    (due_verifying H o c m) d h same)
search-room (Confirmed c) H o m d h same = absurd (none-some d h)
search-room (Vindicated c) H o m d h same = absurd (none-some d h)
search-room NoCulprit H o m d h same = absurd (none-some d h)
search-room Inconclusive H o m d h same = absurd (none-some d h)
search-room Cancelled H o m d h same = absurd (none-some d h)

verify-room : (st : Standing) (H : List Entry) (o : Opening) (m : ℕ) (d : DueRun) → due_at st H o m ≡ Some d →
    same_stage d.stage Verify ≡ true → times_at d.position (outstanding_positions H o.search Verify m) < o.reruns
verify-room (Verifying c) H o m d h same =
    let made = made_of (λ k. record { search = o.search; stage = Verify; position = k }) (due_verifying H o c m) d h in
    let there : made.from ≡ d.position = ap (λ (x : DueRun). x.position) made.makes in
    let few : times_at made.from (outstanding_positions H o.search Verify m) < o.reruns =
    room_to_verify c (reruns_at c (reruns H o.search)) (reruns_at (c - 1) (reruns H o.search)) o.reruns made.from
    (outstanding_positions H o.search Verify m) made.there in
    subst (λ (p : ℕ). times_at p (outstanding_positions H o.search Verify m) < o.reruns) there few
verify-room Searching H o m d h same =
    absurd
    (other_stage (λ k. record { search = o.search; stage = Search; position = k }) Search Verify (λ k. refl) refl
    (due_searching H o m) d h same)
verify-room (Confirmed c) H o m d h same = absurd (none-some d h)
verify-room (Vindicated c) H o m d h same = absurd (none-some d h)
verify-room NoCulprit H o m d h same = absurd (none-some d h)
verify-room Inconclusive H o m d h same = absurd (none-some d h)
verify-room Cancelled H o m d h same = absurd (none-some d h)

-- a run of a searching search is due only while fewer of its leases are open than its width
pub search-roomed : IsRoomed Search (λ (l : LeasedRun). true) (λ (o : Opening). o.width)
search-roomed = λ H o m l h same tested.
    let few : length (open_leases H o.search Search m) < o.width = search-room (standing H o) H o m _ h same in
    omega (arith, few, count_by-all (open_leases H o.search Search m))

-- a run that verifies is due at a position only while fewer leases are open there than the reruns asked for
pub verify-roomed : (p : ℕ) → IsRoomed Verify (λ (l : LeasedRun). l.position == p) (λ (o : Opening). o.reruns)
verify-roomed p = λ H o m l h same tested.
    let here : l.position ≡ p = eqb-true l.position p tested in
    let few : times_at l.position (outstanding_positions H o.search Verify m) < o.reruns = verify-room (standing H o) H o m _ h same in
    let at : times_at p (outstanding_positions H o.search Verify m) < o.reruns =
    subst (λ (q : ℕ). times_at q (outstanding_positions H o.search Verify m) < o.reruns) here few in
    omega (arith, at, count_by-map (λ (q : ℕ). q == p) (λ (l : LeasedRun). l.position) (open_leases H o.search Verify m))
