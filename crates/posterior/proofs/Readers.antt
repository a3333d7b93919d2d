-- What the kept numbers say of a list of runs that a belief stands for.
use Rattle.std.proofs.Common.{◌≡◌, ℕ, ◌-◌, ◌*◌, ◌^◌, ◌<◌, ◌≤◌, List, sym, ap, ◌∙◌, arith, ⊎_elim}
use Rattle.std.proofs.lemmas.Bool.{cases_lt}
use Rattle.weight_exact.specs.Weights.{hypotheses, weight, total, sum_to}
use Rattle.weight_exact.specs.Share.{is_at_bar, reached, share, basis_points}
use Rattle.weight_exact.specs.Common.{common}
use Rattle.weight_exact.specs.declared.run.Run.{Run}
use Rattle.weight_exact.proofs.SumTo.{sum_to_last, sum_to_more, member-le-sum_to}
use Rattle.weight_exact.proofs.Shares.{is_at_bar-mul_left, last_to-same, share-mul_left}
use Rattle.weight_exact.proofs.Cancels.{common_positive}
use Rattle.posterior.specs.Kept.{Kept, at, whole}
use Rattle.posterior.specs.StandsFor.{StandsFor}
use Rattle.posterior.specs.BeliefFacts.{IsKept, weight_in}
use Rattle.posterior.specs.BeliefInside.{reached_in}
use Rattle.posterior.proofs.Stands.{matches, weight-in, total-in, whole-is, sum_fits}

-- the hypothesis at the bar by the kept weights is the one by Bayes' rule
pub reached_in-is : (k : Kept) (runs : List Run) → IsKept k → StandsFor k runs → reached_in k ≡ reached k.setup runs
reached_in-is k runs kept s =
    let m = matches k runs s in
    let c = common k.setup.factors runs in
    let t = k.setup.bar_numerator in
    let u = k.setup.bar_denominator in
    let some : 1 ≤ c = common_positive k.setup.factors runs kept.some_fail kept.some_pass in
    last_to-same (λ i. is_at_bar t u (whole k) (weight_in k i)) (λ i. is_at_bar t u (total k.setup runs) (weight k.setup runs i)) (hypotheses k.setup) (λ i low high.
    rw (total-in k runs kept m, weight-in k runs kept m i low high) (sym (is_at_bar-mul_left c t u (whole k) (weight_in k i) some)))

-- a sum of one member
sum_to_first : (w : ℕ → ℕ) → sum_to w 1 ≡ w 1
sum_to_first w = omega arith

-- a kept weight is the difference of two sums that follow each other
pub weight_in-is : (k : Kept) → IsKept k → (i w : ℕ) → 1 ≤ i → i ≤ hypotheses k.setup → (i ≡ 1 → w ≡ at k.sums 1) → (2 ≤ i → w ≡ at k.sums i - at k.sums (i - 1)) → w ≡ weight_in k i
weight_in-is k kept i w low high first next =
    ⊎_elim
    (λ (one : i < 2).
    let e : i ≡ 1 = omega arith in
    let here : at k.sums 1 ≡ sum_to (weight_in k) 1 = kept.sums_are 1 (omega arith) (omega arith) in
    let alone : sum_to (weight_in k) 1 ≡ weight_in k 1 = sum_to_first (weight_in k) in
    first e ∙ (here ∙ (alone ∙ ap (weight_in k) (sym e))))
    (λ (more : 2 ≤ i).
    omega (arith, next more, kept.sums_are i low high, kept.sums_are (i - 1) (omega arith) (omega arith), sum_to_last (weight_in k) i low))
    (cases_lt i 2)

-- sums rise
pub sums-rise : (k : Kept) → IsKept k → (i : ℕ) → 1 ≤ i → i ≤ hypotheses k.setup → at k.sums (i - 1) ≤ at k.sums i
sums-rise k kept i low high =
    ⊎_elim
    (λ (one : i < 2). let e : i ≡ 1 = omega arith in rw e (omega arith))
    (λ (more : 2 ≤ i). omega (arith, kept.sums_are i low high, kept.sums_are (i - 1) (omega arith) (omega arith), sum_to_more (weight_in k) (i - 1) i (omega arith)))
    (cases_lt i 2)

-- a kept weight is at most the whole, and has room for basis points
pub weight_in-le-whole : (k : Kept) → IsKept k → (i : ℕ) → 1 ≤ i → i ≤ hypotheses k.setup → weight_in k i ≤ whole k
weight_in-le-whole k kept i low high = omega (arith, whole-is k kept, member-le-sum_to (weight_in k) (hypotheses k.setup) i low high)

pub whole_fits : (k : Kept) → IsKept k → whole k * 10000 < 2 ^ 128
whole_fits k kept = omega (arith, whole-is k kept, sum_fits k kept (hypotheses k.setup) (omega arith))

-- the share of a kept weight in the whole is the posterior probability
pub share-in : (k : Kept) (runs : List Run) → IsKept k → StandsFor k runs → (i : ℕ) → 1 ≤ i → i ≤ hypotheses k.setup → share (weight_in k i) (whole k) ≡ basis_points k.setup runs i
share-in k runs kept s i low high =
    let m = matches k runs s in
    let c = common k.setup.factors runs in
    let some : 1 ≤ c = common_positive k.setup.factors runs kept.some_fail kept.some_pass in
    rw (total-in k runs kept m, weight-in k runs kept m i low high) (sym (share-mul_left c (weight_in k i) (whole k) some))
