-- A belief whose sums are multiplied in place.
use Rattle.std.proofs.Common.{◌≡◌, ℕ, ◌+◌, ◌-◌, ◌*◌, ◌^◌, ◌<◌, ◌≤◌, Bool, true, false, if◌then◌else◌, nat_le, List, length, set, Option, ◌⊎◌, sum, sym, ap, ◌∙◌, arith, le-leb, ⊎_elim}
use Rattle.std.proofs.lemmas.List.{length-set}
use Rattle.weight_exact.specs.Weights.{hypotheses, sum_to}
use Rattle.weight_exact.specs.Factors.{verdict_factor}
use Rattle.weight_exact.specs.Load.{is_fail}
use Rattle.weight_exact.specs.declared.run.Verdict.{Verdict}
use Rattle.weight_exact.specs.declared.run.Verdict.TheVariants.{Fail}
use Rattle.weight_exact.specs.Budget.{Fits, run_budget}
use Rattle.weight_exact.specs.Cumulative.{AreSumsOf, AreRising, reweighed, reweighed_total}
use Rattle.weight_exact.proofs.Budgets.{Fits-fewer}
use Rattle.weight_exact.proofs.Reweighed.{rising, reweighed_total-is}
use Rattle.weight_exact.proofs.SumTo.{sum_to-same, sum_to-zero}
use Rattle.posterior.specs.Kept.{Kept, at}
use Rattle.posterior.specs.Counted.{AreCleared, counted}
use Rattle.posterior.specs.Middle.{HasMiddle, last_of, reaching}
use Rattle.posterior.specs.KeptWeight.{kept_weight}
use Rattle.posterior.specs.BeliefFacts.{IsKept, weight_in}
use Rattle.posterior.specs.BeliefInside.{kept_of, IsBelief}
use Rattle.posterior.specs.declared.belief.Belief.TheInside.{Inside}
use Rattle.posterior.specs.declared.tallies.Tallies.{Tallies}
use Rattle.posterior.proofs.Bounds.{sum_to-kept_weight_fits}
use Rattle.posterior.proofs.Factored.{kept_weight-counted}
use Rattle.posterior.proofs.Struck.{AreStruck, dropped_one, kept_weight-struck}
use Rattle.posterior.proofs.Readers.{whole_fits}
use Rattle.posterior.proofs.Reclosed.{recounted, recounted_kept, reclosed, never_passed}
use Rattle.posterior.proofs.Stands.{whole_positive}

-- the kept sums are those of the kept weights
pub are_sums : (k : Kept) → IsKept k → AreSumsOf (weight_in k) k.sums
are_sums k kept i low high = kept.sums_are i low (omega (arith, kept.as_many_sums))

-- up to the floor they are 0
pub none_below : (k : Kept) → IsKept k → (i : ℕ) → 1 ≤ i → i ≤ k.floor → at k.sums i ≡ 0
none_below k kept i low under =
    kept.sums_are i low (omega (arith, kept.floor_low))
    ∙ sum_to-zero (weight_in k) i (λ j first last. let test : nat_le j k.floor ≡ true = le-leb j k.floor (omega arith) in rw test)

-- and they rise
pub kept-rising : (k : Kept) → IsKept k → AreRising k.sums
kept-rising k kept = rising (weight_in k) k.sums (are_sums k kept)

-- so the middle of the total can be looked for
pub has_middle : (k : Kept) → IsKept k → HasMiddle k.floor k.sums
has_middle k kept =
    let same : last_of k.sums ≡ at k.sums (hypotheses k.setup) = ap (at k.sums) kept.as_many_sums in
    record {
      low = omega (arith, kept.floor_low, kept.as_many_sums);
      few = omega (arith, kept.few_suspects, kept.as_many_sums);
      none = none_below k kept;
      rising = kept-rising k kept;
      some = omega (arith, same, whole_positive k kept);
      room = omega (arith, same, whole_fits k kept);
    }

-- weights that are the kept ones multiplied at a position have the sums that the multiplication gives
pub sums_reweighed : (k : Kept) (w : ℕ → ℕ) (p a b : ℕ) (sums : List ℕ) → length sums ≡ hypotheses k.setup
    → ((i : ℕ) → 1 ≤ i → i ≤ hypotheses k.setup → w i ≡ reweighed (weight_in k) p a b i)
    → AreSumsOf (reweighed (weight_in k) p a b) sums → AreSumsOf w sums
sums_reweighed k w p a b sums long same are i low high =
    are i low high ∙ sym (sum_to-same w (reweighed (weight_in k) p a b) i (λ j first last. same j first (omega arith)))

-- and all of them fit 128 bits where the new load is within the budget
pub reweighed_fits : (k : Kept) → IsKept k → (floor : ℕ) (fails passes : List ℕ) (p a b : ℕ) → 1 ≤ p → p ≤ hypotheses k.setup
    → length fails ≡ length k.fails → length passes ≡ length k.passes → counted fails + counted passes ≤ run_budget k.setup
    → ((i : ℕ) → 1 ≤ i → i ≤ hypotheses k.setup → weight_in (record k { floor = floor; fails = fails; passes = passes }) i ≡ reweighed (weight_in k) p a b i)
    → reweighed_total k.sums p a b < 2 ^ 128
reweighed_fits k kept floor fails passes p a b some within long also few same =
    let n : ℕ = hypotheses k.setup - 1 in
    let w = weight_in (record k { floor = floor; fails = fails; passes = passes }) in
    let two = kept.some_suspect in
    let positive = kept.some_fail in
    let size : hypotheses k.setup ≡ n + 1 = omega arith in
    let fits : Fits (sum k.setup.priors) k.setup.factors (counted fails + counted passes) =
    Fits-fewer (sum k.setup.priors) k.setup.factors (run_budget k.setup) (counted fails + counted passes) (omega arith) few kept.fits in
    let room : sum_to w (hypotheses k.setup) * 10000 < 2 ^ 128 =
    sum_to-kept_weight_fits k.setup.priors k.setup.factors floor fails passes n (hypotheses k.setup) (omega (arith, kept.as_many_fails)) (omega (arith, kept.as_many_passes)) size (omega arith) fits in
    let total : reweighed_total k.sums p a b ≡ sum_to (reweighed (weight_in k) p a b) (length k.sums) =
    reweighed_total-is (weight_in k) k.sums p a b (are_sums k kept) some (omega (arith, kept.as_many_sums)) in
    let upto : sum_to (reweighed (weight_in k) p a b) (length k.sums) ≡ sum_to w (hypotheses k.setup) =
    ap (sum_to (reweighed (weight_in k) p a b)) kept.as_many_sums ∙ sym (sum_to-same w (reweighed (weight_in k) p a b) (hypotheses k.setup) same) in
    omega (arith, total, upto, room)

-- a belief with new tallies, whose sums are multiplied in place, keeps what it has to
pub multiplied_kept : (b : Inside) → IsBelief b → (t : Tallies) (sums : List ℕ) (reached : Option ℕ) (p x y : ℕ)
    → length t.fails.items ≡ length b.tallies.fails.items
    → t.floor < hypotheses (kept_of b).setup → (1 ≤ b.factors.pass_in → t.floor ≡ 0) → (b.factors.pass_in ≡ 0 → t.passed ≡ 0)
    → t.failed + t.passed ≤ run_budget (kept_of b).setup
    → length sums ≡ length b.sums
    → ((i : ℕ) → 1 ≤ i → i ≤ hypotheses (kept_of b).setup → weight_in (kept_of (recounted b t sums reached)) i ≡ reweighed (weight_in (kept_of b)) p x y i)
    → ((w : ℕ → ℕ) → AreSumsOf w b.sums → AreSumsOf (reweighed w p x y) sums)
    → IsKept (kept_of (recounted b t sums reached))
multiplied_kept b h t sums r p x y long low missed none within sums_long same are =
    recounted_kept b h t sums r long low missed none within sums_long
    (sums_reweighed (kept_of b) (weight_in (kept_of (recounted b t sums r))) p x y sums (sums_long ∙ h.kept.as_many_sums) same (are (weight_in (kept_of b)) (are_sums (kept_of b) h.kept)))

-- and with the hypothesis at the bar of these sums it is a belief again
pub multiplied : (b : Inside) → IsBelief b → (t : Tallies) (sums : List ℕ) (reached : Option ℕ)
    → IsKept (kept_of (recounted b t sums reached))
    → ((w : ℕ → ℕ) → AreSumsOf w sums → reached ≡ reaching b.bar w sums) → IsBelief (recounted b t sums reached)
multiplied b h t sums r kept bar =
    reclosed b h t sums r kept (bar (weight_in (kept_of (recounted b t sums r))) (are_sums (kept_of (recounted b t sums r)) kept))

-- new tallies by a pass at a position that clears suspects and drops no factor
pub record IsStruck (b : Inside) (t : Tallies) (p : ℕ) : Type 0 where
  pub never : b.factors.pass_in ≡ 0
  pub above : b.tallies.floor < p
  pub last : p < hypotheses (kept_of b).setup
  pub keeps : (b.factors.fail_out ≡ 1) ⊎ AreCleared p b.tallies.fails.items
  pub raised : t.floor ≡ p
  pub fails : (q : ℕ) → p < q → at t.fails.items q ≡ at b.tallies.fails.items q
  pub long : length t.fails.items ≡ length b.tallies.fails.items
  pub fewer_fails : t.failed ≤ b.tallies.failed
  pub fewer_passes : t.passed ≤ b.tallies.passed

-- the weights that such a pass leaves
pub struck_weights : (b : Inside) → IsBelief b → (t : Tallies) (sums : List ℕ) (reached : Option ℕ) (p : ℕ) → IsStruck b t p
    → (i : ℕ) → 1 ≤ i → i ≤ hypotheses (kept_of b).setup → weight_in (kept_of (recounted b t sums reached)) i ≡ reweighed (weight_in (kept_of b)) p 0 1 i
struck_weights b h t sums r p s i low upto =
    let fs = b.tallies.fails.items in
    let ps = b.tallies.passes.items in
    let cleared : AreCleared t.floor t.fails.items = t.fails_cleared in
    let struck : AreStruck fs t.fails.items p = record { long = s.long; cleared = λ q some under. cleared q some (omega (arith, s.raised)); above = s.fails } in
    let all_passes : t.passed ≡ counted t.passes.items = t.all_passes in
    let none : counted ps ≡ 0 = h.kept.no_passes s.never in
    let was = never_passed b h s.never in
    let same_length : t.passes.len ≡ t.fails.len = t.same_length in
    let was_same : b.tallies.passes.len ≡ b.tallies.fails.len = b.tallies.same_length in
    let many = h.kept.as_many_fails in
    ap (λ (f : ℕ). kept_weight b.priors.items b.factors f t.fails.items t.passes.items i) s.raised
    ∙ kept_weight-struck b.priors.items b.factors b.tallies.floor fs ps t.fails.items t.passes.items p i s.above (omega (arith, s.last)) struck
    (dropped_one b.factors.fail_out fs p s.keeps) none (omega (arith, s.fewer_passes)) (omega arith) (omega arith) (omega (arith, s.long))

-- and what the belief then keeps
pub struck_kept : (b : Inside) → IsBelief b → (t : Tallies) (sums : List ℕ) (reached : Option ℕ) (p : ℕ) → IsStruck b t p
    → length sums ≡ length b.sums → ((w : ℕ → ℕ) → AreSumsOf w b.sums → AreSumsOf (reweighed w p 0 1) sums)
    → IsKept (kept_of (recounted b t sums reached))
struck_kept b h t sums r p s long are =
    let was = never_passed b h s.never in
    multiplied_kept b h t sums r p 0 1 s.long (omega (arith, s.raised, s.last)) (λ may. absurd (omega (arith, s.never, may))) (λ _. omega (arith, s.fewer_passes))
    (omega (arith, s.fewer_fails, s.fewer_passes, h.kept.within)) long (struck_weights b h t sums r p s) are

-- new tallies by a run that is counted at its position, and the two numbers of the run
pub record IsTallied (b : Inside) (t : Tallies) (v : Verdict) (p x y : ℕ) : Type 0 where
  pub live : (1 ≤ b.factors.pass_in) ⊎ (v ≡ Fail)
  pub first : 1 ≤ p
  pub last : p < hypotheses (kept_of b).setup
  pub room : b.tallies.failed + b.tallies.passed < run_budget (kept_of b).setup
  pub floor : t.floor ≡ b.tallies.floor
  pub fails : t.fails.items ≡ (if is_fail v then set b.tallies.fails.items (p - 1) (at b.tallies.fails.items p + 1) else b.tallies.fails.items)
  pub passes : t.passes.items ≡ (if is_fail v then b.tallies.passes.items else set b.tallies.passes.items (p - 1) (at b.tallies.passes.items p + 1))
  pub one : t.failed + t.passed ≡ b.tallies.failed + b.tallies.passed + 1
  pub inside : x ≡ verdict_factor b.factors v true
  pub outside : y ≡ verdict_factor b.factors v false

-- the weights that such a run leaves
pub tallied_weights : (b : Inside) → IsBelief b → (t : Tallies) (sums : List ℕ) (reached : Option ℕ) (v : Verdict) (p x y : ℕ) → IsTallied b t v p x y
    → (i : ℕ) → 1 ≤ i → i ≤ hypotheses (kept_of b).setup
    → weight_in (kept_of (recounted b t sums reached)) i
    ≡ reweighed (weight_in (kept_of b)) p x y i
tallied_weights b h t sums r v p x y s i some upto =
    let many = h.kept.as_many_fails in
    let also = h.kept.as_many_passes in
    let last = s.last in
    ap (λ (f : ℕ). kept_weight b.priors.items b.factors f t.fails.items t.passes.items i) s.floor
    ∙ kept_weight-counted b.priors.items b.factors b.tallies.floor b.tallies.fails.items b.tallies.passes.items t.fails.items t.passes.items v p i
    s.first (omega arith) (omega arith) some (omega arith) (omega arith) s.fails s.passes
    ∙ (ap (λ (n : ℕ). reweighed (weight_in (kept_of b)) p n (verdict_factor b.factors v false) i) (sym s.inside)
    ∙ ap (λ (n : ℕ). reweighed (weight_in (kept_of b)) p x n i) (sym s.outside))

-- a write under a choice keeps the length
set_long : (xs ys : List ℕ) (b : Bool) (i v : ℕ) → ys ≡ (if b then set xs i v else xs) → length ys ≡ length xs
set_long xs ys true i v e = ap length e ∙ length-set xs i v
set_long xs ys false i v e = ap length e

pub tallied_long : (b : Inside) (t : Tallies) (v : Verdict) (p x y : ℕ) → IsTallied b t v p x y → length t.fails.items ≡ length b.tallies.fails.items
tallied_long b t v p x y s = set_long b.tallies.fails.items t.fails.items (is_fail v) (p - 1) (at b.tallies.fails.items p + 1) s.fails

-- no pass is counted where a broken test never passes
tallied_passed : (b : Inside) → IsBelief b → (t : Tallies) (v : Verdict) (p x y : ℕ) → IsTallied b t v p x y → b.factors.pass_in ≡ 0 → t.passed ≡ 0
tallied_passed b h t v p x y s never =
    let all_passes : t.passed ≡ counted t.passes.items = t.all_passes in
    let fail : v ≡ Fail = ⊎_elim (λ (may : 1 ≤ b.factors.pass_in). absurd (omega arith)) (λ (is : v ≡ Fail). is) s.live in
    let C : Verdict → List ℕ = λ v. if is_fail v then b.tallies.passes.items else set b.tallies.passes.items (p - 1) (at b.tallies.passes.items p + 1) in
    let same : t.passes.items ≡ b.tallies.passes.items = s.passes ∙ ap C fail in
    all_passes ∙ (ap counted same ∙ h.kept.no_passes never)

-- and what the belief then keeps
pub tallied_kept : (b : Inside) → IsBelief b → (t : Tallies) (sums : List ℕ) (reached : Option ℕ) (v : Verdict) (p x y : ℕ) → IsTallied b t v p x y
    → length sums ≡ length b.sums → ((w : ℕ → ℕ) → AreSumsOf w b.sums → AreSumsOf (reweighed w p x y) sums)
    → IsKept (kept_of (recounted b t sums reached))
tallied_kept b h t sums r v p x y s long are =
    multiplied_kept b h t sums r p x y (tallied_long b t v p x y s)
    (omega (arith, s.floor, h.kept.floor_low)) (λ may. s.floor ∙ h.kept.floor_if_missed may) (tallied_passed b h t v p x y s)
    (omega (arith, s.one, s.room)) long (tallied_weights b h t sums r v p x y s) are

-- these weights fit 128 bits where the new load is within the budget
pub multiplied_fits : (b : Inside) → IsBelief b → (t : Tallies) (p x y : ℕ) → 1 ≤ p → p < hypotheses (kept_of b).setup
    → length t.fails.items ≡ length b.tallies.fails.items → t.failed + t.passed ≤ run_budget (kept_of b).setup
    → ((i : ℕ) → 1 ≤ i → i ≤ hypotheses (kept_of b).setup → weight_in (kept_of (recounted b t b.sums b.reached)) i ≡ reweighed (weight_in (kept_of b)) p x y i)
    → reweighed_total b.sums p x y < 2 ^ 128
multiplied_fits b h t p x y low high long within same =
    let all_fails : t.failed ≡ counted t.fails.items = t.all_fails in
    let all_passes : t.passed ≡ counted t.passes.items = t.all_passes in
    let same_length : t.passes.len ≡ t.fails.len = t.same_length in
    let was_same : b.tallies.passes.len ≡ b.tallies.fails.len = b.tallies.same_length in
    reweighed_fits (kept_of b) h.kept t.floor t.fails.items t.passes.items p x y low (omega arith) long (omega arith) (omega arith) same
