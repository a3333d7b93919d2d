-- A belief whose counts are those of a list of runs stands for it.
use Rattle.std.proofs.Common.{◌≡◌, ℕ, ◌+◌, ◌-◌, ◌*◌, ◌^◌, ◌<◌, ◌≤◌, not, List, [], ◌∷◌, sum, count_by, All, sym, ap, ◌∙◌, arith}
use Rattle.std.proofs.lemmas.List.Elements.{All-head, All-tail, All-cons, All-nil}
use Rattle.weight_exact.specs.Weights.{Setup, hypotheses, weight, sum_to, cumulative, total, AreInRange}
use Rattle.weight_exact.specs.Load.{is_fail, floor, live, load}
use Rattle.weight_exact.specs.Budget.{Fits, run_budget}
use Rattle.weight_exact.specs.Common.{common}
use Rattle.weight_exact.specs.declared.run.Run.{Run}
use Rattle.weight_exact.proofs.SumTo.{sum_to-same, sum_to-mul_left, member-le-sum_to}
use Rattle.weight_exact.proofs.Budgets.{Fits-fewer}
use Rattle.posterior.specs.Kept.{Kept, at, whole}
use Rattle.posterior.specs.Counted.{counted}
use Rattle.posterior.specs.StandsFor.{StandsFor}
use Rattle.weight_exact.specs.Counts.{is_fail_at, is_pass_at}
use Rattle.posterior.specs.BeliefFacts.{IsKept, weight_in}
use Rattle.posterior.proofs.CountLemmas.{Within, count_by-either}
use Rattle.posterior.proofs.LiveCounts.{AreCounts, within_live, fails_are_live, passes_are_live}
use Rattle.posterior.proofs.KeptWeights.{weight-kept, counted_whole}
use Rattle.posterior.proofs.Bounds.{kept_weight_last, sum_to-kept_weight_fits}

-- positions below n + 1 are within n
pub within_from_range : (n : ℕ) (s : Setup) (runs : List Run) → hypotheses s ≡ n + 1 → AreInRange s runs → All (Within n) runs
within_from_range n s [] size all = All-nil (Within n)
within_from_range n s (r ∷ rs) size all =
    let P : Run → Type 0 = λ r. (1 ≤ r.position) × (r.position < hypotheses s) in
    let here = All-head P r rs all in
    All-cons (Within n) r rs (here.0, omega arith) (within_from_range n s rs size (All-tail P r rs all))

-- what is known of a belief and a list of runs from the floor and the counts alone
pub record Matches (k : Kept) (runs : List Run) : Type 0 where
  pub in_range : AreInRange k.setup runs
  pub floor_is : k.floor ≡ floor k.setup.factors runs
  pub fails_are : (p : ℕ) → k.floor < p → p < hypotheses k.setup → at k.fails p ≡ count_by (is_fail_at p) runs
  pub passes_are : (p : ℕ) → k.floor < p → p < hypotheses k.setup → at k.passes p ≡ count_by (is_pass_at p) runs

-- the counts of fails are those of the live runs
live_fails : (k : Kept) (runs : List Run) (n : ℕ) → IsKept k → Matches k runs → hypotheses k.setup ≡ n + 1 → AreCounts n k.fails (λ (r : Run). is_fail r.verdict) (live k.setup.factors runs)
live_fails k runs n kept m size =
    fails_are_live k.setup.factors n runs k.fails (omega (arith, kept.as_many_fails)) (λ p low high. kept.fails_cleared p low (omega (arith, m.floor_is)))
    (λ p low high. m.fails_are p (omega (arith, m.floor_is)) (omega arith))

live_passes : (k : Kept) (runs : List Run) (n : ℕ) → IsKept k → Matches k runs → hypotheses k.setup ≡ n + 1 → AreCounts n k.passes (λ (r : Run). not (is_fail r.verdict)) (live k.setup.factors runs)
live_passes k runs n kept m size =
    passes_are_live k.setup.factors n runs k.passes (omega (arith, kept.as_many_passes)) (λ p low high. kept.passes_cleared p low (omega (arith, m.floor_is)))
    (λ p low high. m.passes_are p (omega (arith, m.floor_is)) (omega arith))

-- Bayes' rule's weight is the kept weight times the common factor
pub weight-in : (k : Kept) (runs : List Run) → IsKept k → Matches k runs → (i : ℕ) → 1 ≤ i → i ≤ hypotheses k.setup → weight k.setup runs i ≡ common k.setup.factors runs * weight_in k i
weight-in k runs kept m i low high =
    let n : ℕ = hypotheses k.setup - 1 in
    let some = kept.some_suspect in
    let size : hypotheses k.setup ≡ n + 1 = omega arith in
    let e : floor k.setup.factors runs ≡ k.floor = sym m.floor_is in
    let h = weight-kept k.setup runs n k.fails k.passes size (live_fails k runs n kept m size) (live_passes k runs n kept m size) (within_live n k.setup.factors runs (within_from_range n k.setup runs size m.in_range)) i low (omega arith) in
    rw e at h

-- so are cumulative weights
pub cumulative-in : (k : Kept) (runs : List Run) → IsKept k → Matches k runs → (i : ℕ) → i ≤ hypotheses k.setup → cumulative k.setup runs i ≡ common k.setup.factors runs * sum_to (weight_in k) i
cumulative-in k runs kept m i high =
    sum_to-same (weight k.setup runs) (λ j. common k.setup.factors runs * weight_in k j) i (λ j low up. weight-in k runs kept m j low (omega arith))
    ∙ sum_to-mul_left (common k.setup.factors runs) (weight_in k) i

-- the whole is the sum of all kept weights
pub whole-is : (k : Kept) → IsKept k → whole k ≡ sum_to (weight_in k) (hypotheses k.setup)
whole-is k kept = let some = kept.some_suspect in kept.sums_are (hypotheses k.setup) (omega arith) (omega arith)

pub total-in : (k : Kept) (runs : List Run) → IsKept k → Matches k runs → total k.setup runs ≡ common k.setup.factors runs * whole k
total-in k runs kept m = cumulative-in k runs kept m (hypotheses k.setup) (omega arith) ∙ ap (λ n. common k.setup.factors runs * n) (sym (whole-is k kept))

-- "no culprit" keeps the whole above 0
pub whole_positive : (k : Kept) → IsKept k → 1 ≤ whole k
whole_positive k kept =
    let n : ℕ = hypotheses k.setup - 1 in
    let some = kept.some_suspect in
    let size : hypotheses k.setup ≡ n + 1 = omega arith in
    let calm : 1 ≤ at k.setup.priors (n + 1) = rw (← size) kept.some_calm in
    let last : 1 ≤ weight_in k (n + 1) =
    kept_weight_last k.setup.priors k.setup.factors k.floor k.fails k.passes n (omega (arith, kept.as_many_fails)) (omega (arith, kept.as_many_passes)) (omega (arith, kept.floor_low)) calm kept.some_fail kept.some_pass in
    let member = member-le-sum_to (weight_in k) (n + 1) (n + 1) (omega arith) (omega arith) in
    let e : sum_to (weight_in k) (n + 1) ≡ sum_to (weight_in k) (hypotheses k.setup) = ap (sum_to (weight_in k)) (sym size) in
    omega (arith, whole-is k kept)

-- a sum of kept weights has room for basis points
pub sum_fits : (k : Kept) → IsKept k → (i : ℕ) → i ≤ hypotheses k.setup → sum_to (weight_in k) i * 10000 < 2 ^ 128
sum_fits k kept i high =
    let n : ℕ = hypotheses k.setup - 1 in
    let some = kept.some_suspect in
    let size : hypotheses k.setup ≡ n + 1 = omega arith in
    let positive = kept.some_fail in
    let fits : Fits (sum k.setup.priors) k.setup.factors (counted k.fails + counted k.passes) =
    Fits-fewer (sum k.setup.priors) k.setup.factors (run_budget k.setup) (counted k.fails + counted k.passes) (omega arith) (omega (arith, kept.load_is, kept.within)) kept.fits in
    sum_to-kept_weight_fits k.setup.priors k.setup.factors k.floor k.fails k.passes n i (omega (arith, kept.as_many_fails)) (omega (arith, kept.as_many_passes)) size (omega arith) fits

-- the number of live runs is what is counted
load-is : (k : Kept) (runs : List Run) → IsKept k → Matches k runs → k.load ≡ load k.setup.factors runs
load-is k runs kept m =
    let n : ℕ = hypotheses k.setup - 1 in
    let some = kept.some_suspect in
    let size : hypotheses k.setup ≡ n + 1 = omega arith in
    let within = within_live n k.setup.factors runs (within_from_range n k.setup runs size m.in_range) in
    let failed = counted_whole n k.fails (λ (r : Run). is_fail r.verdict) (live k.setup.factors runs) (live_fails k runs n kept m size) within in
    let passed = counted_whole n k.passes (λ (r : Run). not (is_fail r.verdict)) (live k.setup.factors runs) (live_passes k runs n kept m size) within in
    omega (arith, failed, passed, kept.load_is, count_by-either (λ (r : Run). is_fail r.verdict) (live k.setup.factors runs))

-- such a belief stands for the list
pub stands : (k : Kept) (runs : List Run) → IsKept k → Matches k runs → StandsFor k runs
stands k runs kept m = record {
  in_range = m.in_range;
  floor_is = m.floor_is;
  load_is = load-is k runs kept m;
  within = kept.within;
  fails_are = m.fails_are;
  passes_are = m.passes_are;
  as_many = kept.as_many_sums;
  sums_are = λ i low high.
      let c = common k.setup.factors runs in
      let here : at k.sums i ≡ sum_to (weight_in k) i = kept.sums_are i low high in
      let upto : cumulative k.setup runs i ≡ c * sum_to (weight_in k) i = cumulative-in k runs kept m i high in
      rw (here, upto, total-in k runs kept m) (grind arith);
  some = whole_positive k kept;
  fits = rw (whole-is k kept) (sum_fits k kept (hypotheses k.setup) (omega arith));
}

-- what standing for a list gives back
pub matches : (k : Kept) (runs : List Run) → StandsFor k runs → Matches k runs
matches k runs s = record { in_range = s.in_range; floor_is = s.floor_is; fails_are = s.fails_are; passes_are = s.passes_are }
