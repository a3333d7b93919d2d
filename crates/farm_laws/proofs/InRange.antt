-- Where runs are: those that search at a suspect's position, and those that verify at the named suspect or just below
-- it.
use Rattle.std.proofs.Common.{◌≡◌, ◌⊎◌, inl, inr, ℕ, ◌+◌, ◌-◌, ◌<◌, ◌≤◌, ◌==◌, Bool, true, false, ◌&&◌, nat_lt, if◌then◌else◌, cond, List, [], ◌∷◌, ◌++◌, length, get_or, All, Contains, Option, Some, None, refl, sym, ap, subst, ◌∙◌, arith, true≢false}
use Rattle.std.specs.Option.{option_map}
use Rattle.std.proofs.lemmas.Bool.Decides.{nat_tests}
use Rattle.std.proofs.lemmas.List.Elements.{All-contains, All-cons, All-head, All-tail, All-weaker, Contains-get_or}
use Rattle.std.proofs.lemmas.Option.{none-some}
use Rattle.farm_rules.specs.Due.{due_search, due_verify, first_entry, strike, struck, times_at}
use Rattle.farm_types.specs.Moment.{moment_ms}
use Rattle.farm_types.specs.declared.stage.Stage.{Stage}
use Rattle.farm_types.specs.declared.stage.Stage.TheVariants.{Search, Verify}
use Rattle.weight_exact.specs.Load.{floor}
use Rattle.threshold_pick.specs.Open.{is_skipped, open_plan}
use Rattle.weight_exact.specs.Share.{IsReached}
use Rattle.weight_exact.specs.Weights.{AreInRange, Setup, hypotheses, suspects, total}
use Rattle.weight_exact.specs.declared.run.Run.{Run}
use Rattle.weight_exact.proofs.Shares.{IsReached_once, total_positive}
use Rattle.farm_entry.specs.Decision.{run_with}
use Rattle.farm_entry.specs.Due.{due_at, due_searching, due_verifying, outstanding_positions}
use Rattle.farm_entry.specs.History.{all_leases, counted_run, is_counted, lease_in, leases, opening_numbered, openings, reports, runs, same_stage, skipped}
use Rattle.farm_entry.specs.Legal.{IsLegal}
use Rattle.farm_entry.specs.Setup.{setup_of}
use Rattle.farm_laws.specs.Laws.{culprit_of}
use Rattle.farm_entry.specs.Standing.{at_bar, standing}
use Rattle.farm_entry.specs.declared.entry.Entry.{Entry}
use Rattle.farm_entry.specs.declared.lease.DueRun.{DueRun}
use Rattle.farm_entry.specs.declared.lease.LeasedRun.{LeasedRun}
use Rattle.farm_entry.specs.declared.lease.ReportedRun.{ReportedRun}
use Rattle.farm_entry.specs.declared.opening.Opening.{Opening}
use Rattle.farm_entry.specs.declared.standing.Standing.{Standing}
use Rattle.farm_entry.specs.declared.standing.Standing.TheVariants.{Searching, Verifying, Confirmed, Vindicated, NoCulprit, Inconclusive, Cancelled}
use Rattle.farm_laws.proofs.Ends.{at_bar-stays}
use Rattle.farm_laws.proofs.EntryParts.{each_part, leased-facts}
use Rattle.farm_laws.proofs.Filters.{HasLease, opening_numbered-stays}
use Rattle.farm_laws.proofs.Known.{made-from, next_run-due, reports-known}
use Rattle.farm_laws.proofs.Lists.{there-filter}
use Rattle.farm_laws.proofs.Numbered.{lease-there, no_lease, opening-found, opening-there}
use Rattle.farm_laws.proofs.OpenLimits.{open_within, setup_facts}
use Rattle.farm_laws.proofs.OpenPlans.{IsOpenAbove, open_plan-open}
use Rattle.farm_laws.proofs.RunSteps.{chosen_run, counted_run-is}
use Rattle.farm_laws.proofs.Standings.{culprit-at_bar}
use Rattle.farm_laws.proofs.Stepped.{Stepped}

-- The entry of a plan that is due is one of the plan's.

strike-all : (P : ℕ → Type 0) (p : ℕ) (entries : List ℕ) → All P entries → All P (strike p entries)
strike-all P p [] h = h
strike-all P p (x ∷ entries) h =
    elim (x == p) as (λ b. All P (cond b entries (x ∷ strike p entries))) [
      | true ↦ All-tail P x entries h
      | false ↦ All-cons P x (strike p entries) (All-head P x entries h) (strike-all P p entries (All-tail P x entries h))
    ]

struck-all : (P : ℕ → Type 0) (entries out : List ℕ) → All P entries → All P (struck entries out)
struck-all P entries [] h = h
struck-all P entries (p ∷ out) h = struck-all P (strike p entries) out (strike-all P p entries h)

first-all : (P : ℕ → Type 0) (entries : List ℕ) (k : ℕ) → All P entries → first_entry entries ≡ Some k → P k
first-all P [] k h is = absurd (none-some k is)
first-all P (x ∷ entries) k h is = let same : x ≡ k = cc in subst P same (All-head P x entries h)

due-if : (P : ℕ → Type 0) (b : Bool) (entries : List ℕ) (k : ℕ) → All P entries → (if b then first_entry entries else None) ≡ Some k → P k
due-if P true entries k h is = first-all P entries k h is
due-if P false entries k h is = absurd (none-some k is)

due_search-all : (P : ℕ → Type 0) (entries out : List ℕ) (k : ℕ) → All P entries → due_search entries out ≡ Some k → P k
due_search-all P entries out k h is = due-if P (nat_lt (length out) (length entries)) (struck entries out) k (struck-all P entries out h) is

-- a suspect's position
abbrev pub InRange : Setup → ℕ → Type 0
InRange s k = (1 ≤ k) × (k ≤ suspects s)

-- a position of a plan is that of a suspect, and isn't skipped
abbrev pub IsPlanned : Setup → (skipped : List ℕ) → ℕ → Type 0
IsPlanned s skips k = InRange s k × (is_skipped skips k ≡ false)

plan-planned : (s : Setup) (past : List Run) (skips : List ℕ) (k : ℕ) → All (IsPlanned s skips) (open_plan s past skips k)
plan-planned s past skips k =
    All-weaker (IsOpenAbove skips (floor s.factors past) (suspects s)) (IsPlanned s skips)
    (λ i is. ((omega (arith, is.above), is.within), is.kept))
    (open_plan s past skips k) (open_plan-open s past skips k)

-- a rerun is due at the culprit or just below it
one-of-two : (first second : Bool) (c k : ℕ) → 1 ≤ c → (if first then Some c else (if second then Some (c - 1) else None)) ≡ Some k →
    (k ≡ c) ⊎ (k + 1 ≡ c)
one-of-two true second c k some is = let same : c ≡ k = cc in inl (sym same)
one-of-two false true c k some is = let same : c - 1 ≡ k = cc in inr (omega (arith, same, some))
one-of-two false false c k some is = absurd (none-some k is)

due_verify-at : (c a b v k : ℕ) (out : List ℕ) → 1 ≤ c → due_verify c a b out v ≡ Some k → (k ≡ c) ⊎ (k + 1 ≡ c)
due_verify-at c a b v k out some is =
    one-of-two (nat_lt (a + times_at c out) v) (nat_lt (b + times_at (c - 1) out) v) c k some is

-- a position at which a search verifies: that of the suspect that it names, or the one just below
abbrev pub VerifiesAt : List Entry → Opening → ℕ → Type 0
VerifiesAt H o k = (c : ℕ) × (at_bar H o ≡ Some c) × (1 ≤ c) × (c ≤ suspects (setup_of o)) × ((k ≡ c) ⊎ (k + 1 ≡ c))

-- what a stage asks of a position
pub record FitsStage (H : List Entry) (o : Opening) (stage : Stage) (position : ℕ) : Type 0 where
  pub searching : stage ≡ Search → InRange (setup_of o) position
  pub verifying : stage ≡ Verify → VerifiesAt H o position

search-verify : {X : Type 0} → Search ≡ Verify → X
search-verify h = let b : true ≡ false = ap (λ (s : Stage). same_stage s Search) h in absurd (true≢false b)

-- the value that a value was made of
mapped : {X Y : Type 0} (make : X → Y) (o : Option X) (y : Y) → option_map make o ≡ Some y → (x : X) × (o ≡ Some x) × (make x ≡ y)
mapped make None y h = absurd (none-some y h)
mapped make (Some x) y h = (x, refl, cc)

-- where a search that is searching is to run next
pub due_searching-planned : (H : List Entry) (o : Opening) (m k : ℕ) → due_searching H o m ≡ Some k →
    IsPlanned (setup_of o) (skipped H o.search) k
due_searching-planned H o m k is =
    due_search-all (IsPlanned (setup_of o) (skipped H o.search)) (open_plan (setup_of o) (runs H o.search) (skipped H o.search) o.width)
    (outstanding_positions H o.search Search m) k (plan-planned (setup_of o) (runs H o.search) (skipped H o.search) o.width) is

-- the run that is due fits the stage
due-fits : (H : List Entry) (o : Opening) (m : ℕ) (d : DueRun) → IsLegal H → Contains (openings H) o → (st : Standing) → standing H o ≡ st →
    due_at st H o m ≡ Some d → FitsStage H o d.stage d.position
due-fits H o m d legal there Searching stands is =
    let made = mapped (λ k. record { search = o.search; stage = Search; position = k }) (due_searching H o m) d is in
    let fits : InRange (setup_of o) made.0 = (due_searching-planned H o m made.0 made.1).0 in
    subst (λ (x : DueRun). FitsStage H o x.stage x.position) made.2
    (record { searching = λ h. fits; verifying = λ h. search-verify h })
due-fits H o m d legal there (Verifying c) stands is =
    let made = mapped (λ k. record { search = o.search; stage = Verify; position = k }) (due_verifying H o c m) d is in
    let culprit = culprit-at_bar H o c (ap culprit_of stands) in
    let side = due_verify-at c _ _ o.reruns made.0 (outstanding_positions H o.search Verify m) culprit.1 made.1 in
    subst (λ (x : DueRun). FitsStage H o x.stage x.position) made.2
    (record { searching = λ h. search-verify (sym h); verifying = λ h. (c, culprit.0, culprit.1, culprit.2, side) })
due-fits H o m d legal there (Confirmed c) stands is = absurd (none-some d is)
due-fits H o m d legal there (Vindicated c) stands is = absurd (none-some d is)
due-fits H o m d legal there NoCulprit stands is = absurd (none-some d is)
due-fits H o m d legal there Inconclusive stands is = absurd (none-some d is)
due-fits H o m d legal there Cancelled stands is = absurd (none-some d is)

-- each lease is of an opened search, at a position that fits its stage
pub record FitsSearch (H : List Entry) (l : LeasedRun) : Type 0 where
  pub opening : Opening
  pub found : opening_numbered H l.search ≡ Some opening
  pub fits : FitsStage H opening l.stage l.position

fits-stays : (H : List Entry) (e : Entry) (l : LeasedRun) → IsLegal H → Stepped H e.at e.what → FitsSearch H l → FitsSearch (H ++ e ∷ []) l
fits-stays H e l legal s f =
    let there = (opening-there H l.search f.opening f.found).0 in
    record {
      opening = f.opening;
      found = opening_numbered-stays H e l.search f.opening f.found;
      fits = record {
        searching = f.fits.searching;
        verifying = λ h.
            let at = f.fits.verifying h in (at.0, at_bar-stays H e f.opening at.0 legal there s at.1, at.2, at.3, at.4);
      };
    }

pub leases-fit : (H : List Entry) → IsLegal H → All (λ (l : LeasedRun). FitsSearch H l) (all_leases H)
leases-fit =
    each_part lease_in (λ (H : List Entry) (l : LeasedRun). FitsSearch H l) no_lease
    (λ H e l legal s f. fits-stays H e l legal s f)
    (λ H e l legal s is.
    let due_in = next_run-due H (moment_ms e.at) _ (leased-facts H e.at e.what l is s).due in
    let o = due_in.opening in
    fits-stays H e l legal s (record {
      opening = o;
      found = ap (opening_numbered H) due_in.of_search ∙ opening-found H o legal due_in.there;
      fits = due-fits H o (moment_ms e.at) _ legal due_in.there (standing H o) refl due_in.is_due;
    }))

-- a lease of an opened search fits that search
pub lease-fits : (H : List Entry) (o : Opening) (l : LeasedRun) → IsLegal H → Contains (openings H) o → Contains (all_leases H) l →
    l.search ≡ o.search → FitsStage H o l.stage l.position
lease-fits H o l legal there known same =
    let f = All-contains (λ (x : LeasedRun). FitsSearch H x) (all_leases H) l (leases-fit H legal) known in
    let found : Some f.opening ≡ Some o = sym f.found ∙ ap (opening_numbered H) same ∙ opening-found H o legal there in
    let it : f.opening ≡ o = cc in
    subst (λ (x : Opening). FitsStage H x l.stage l.position) it f.fits

-- the leases of a search are among all
lease-of_search : (H : List Entry) (s : ℕ) (l : LeasedRun) → Contains (leases H s) l → Contains (all_leases H) l × (l.search ≡ s)
lease-of_search H s l h =
    let there = there-filter (λ (x : LeasedRun). x.search == s) (all_leases H) l h in
    (there.0, grind (arith, nat_tests, there.1))

pub leases-fit_search : (H : List Entry) (o : Opening) (l : LeasedRun) → IsLegal H → Contains (openings H) o → Contains (leases H o.search) l →
    FitsStage H o l.stage l.position
leases-fit_search H o l legal there h =
    let of_it = lease-of_search H o.search l h in lease-fits H o l legal there of_it.0 of_it.1

pub verify-leases-at : (H : List Entry) → IsLegal H → (o : Opening) → Contains (openings H) o → (l : LeasedRun) → Contains (leases H o.search) l →
    l.stage ≡ Verify → (c : ℕ) × (at_bar H o ≡ Some c) × (1 ≤ c) × ((l.position ≡ c) ⊎ (l.position + 1 ≡ c))
verify-leases-at H legal o there l h at_stage =
    let at = (leases-fit_search H o l legal there h).verifying at_stage in (at.0, at.1, at.2, at.4)

-- The counted runs are at suspects' positions.

stage-is : (a b : Stage) → same_stage a b ≡ true → a ≡ b
stage-is Search Search h = refl
stage-is Verify Verify h = refl
stage-is Search Verify h = absurd (true≢false (sym h))
stage-is Verify Search h = absurd (true≢false (sym h))

chosen-parts : (counts here at_stage : Bool) (r x : Run) → chosen_run counts (here && at_stage) r ≡ Some x →
    (here ≡ true) × (at_stage ≡ true) × (r ≡ x)
chosen-parts true true true r x h = (refl, refl, cc)
chosen-parts true true false r x h = absurd (none-some x h)
chosen-parts true false at_stage r x h = absurd (none-some x h)
chosen-parts false here at_stage r x h = absurd (none-some x h)

in-range-of : (n k : ℕ) → 1 ≤ n → (1 ≤ k) × (k ≤ n - 1) → (1 ≤ k) × (k < n)
in-range-of n k some h = (h.0, omega (arith, h.1, some))

run-in_range : (H : List Entry) (o : Opening) (r : ReportedRun) (x : Run) → IsLegal H → Contains (openings H) o → HasLease H r.run →
    counted_run H o.search Search r ≡ Some x → (1 ≤ x.position) × (x.position < hypotheses (setup_of o))
run-in_range H o r x legal there has is =
    let l = has.0 in
    let parts = chosen-parts (is_counted r.fate) (l.search == o.search) (same_stage l.stage Search) (run_with l r.verdict) x
    (sym (counted_run-is H o.search Search r l has.1) ∙ is) in
    let same : l.search ≡ o.search = grind (arith, nat_tests, parts.0) in
    let at : InRange (setup_of o) l.position =
    (lease-fits H o l legal there (lease-there H r.run l has.1).0 same).searching (stage-is l.stage Search parts.1) in
    let some : 1 ≤ hypotheses (setup_of o) = omega (arith, (setup_facts o (open_within H o legal there)).some) in
    subst (λ (y : Run). (1 ≤ y.position) × (y.position < hypotheses (setup_of o))) parts.2
    (in-range-of (hypotheses (setup_of o)) l.position some at)

pub runs-in_range : (H : List Entry) (o : Opening) → IsLegal H → Contains (openings H) o → AreInRange (setup_of o) (runs H o.search)
runs-in_range H o legal there =
    λ k d below.
    let x : Run = get_or (runs H o.search) k d in
    let from = made-from (counted_run H o.search Search) (reports H) x (Contains-get_or (runs H o.search) k d below) in
    run-in_range H o from.from x legal there
    (All-contains (λ (r : ReportedRun). HasLease H r.run) (reports H) from.from (reports-known H legal) from.there) from.makes

-- So the total weight is positive, and what reaches the bar is what is named.

pub total-some : (H : List Entry) (o : Opening) → IsLegal H → Contains (openings H) o → 1 ≤ total (setup_of o) (runs H o.search)
total-some H o legal there =
    let facts = setup_facts o (open_within H o legal there) in
    total_positive (setup_of o) (runs H o.search) facts.calm facts.fail_out facts.pass_out (runs-in_range H o legal there)

pub one-at_bar : (H : List Entry) (o : Opening) (i j : ℕ) → IsLegal H → Contains (openings H) o →
    IsReached (setup_of o) (runs H o.search) i → IsReached (setup_of o) (runs H o.search) j → i ≡ j
one-at_bar H o i j legal there a b =
    IsReached_once (setup_of o) (runs H o.search) i j (setup_facts o (open_within H o legal there)).above_half (total-some H o legal there) a b
