-- The weights made from counts are Bayes' rule's, up to the common factor.
use Rattle.std.proofs.Common.{◌≡◌, ℕ, ◌+◌, ◌-◌, ◌*◌, ◌<◌, ◌≤◌, Bool, true, false, not, ◌&&◌, ◌==◌, nat_le, List, count_by, All, sym, ap, ◌∙◌, arith, le-leb, ⊎_elim}
use Rattle.std.proofs.lemmas.Bool.{cases_lt, lt-leb}
use Rattle.weight_exact.specs.Weights.{Setup, hypotheses, prior, likelihood, weight, sum_to}
use Rattle.weight_exact.specs.Load.{is_fail, floor, live}
use Rattle.weight_exact.specs.Common.{common}
use Rattle.weight_exact.specs.Counts.{fails_in, fails_out, passes_in, passes_out}
use Rattle.weight_exact.specs.Powers.{product}
use Rattle.weight_exact.specs.declared.factors.Factors.{Factors}
use Rattle.weight_exact.specs.declared.run.Run.{Run}
use Rattle.weight_exact.proofs.SumTo.{sum_to-same}
use Rattle.weight_exact.proofs.Floors.{weight-floor}
use Rattle.weight_exact.proofs.Likelihoods.{likelihood-counts}
use Rattle.weight_exact.proofs.Cancels.{weight-common-live}
use Rattle.posterior.specs.Kept.{at}
use Rattle.posterior.specs.Counted.{counted_to, counted}
use Rattle.posterior.specs.KeptWeight.{kept_counts, kept_weight}
use Rattle.posterior.proofs.CountLemmas.{Within, counted_below, counted_all, count_by-split}
use Rattle.posterior.proofs.LiveCounts.{AreCounts}

-- counts up to m are those of the runs
counted_to-are : (n : ℕ) (counts : List ℕ) (test : Run → Bool) (runs : List Run) → AreCounts n counts test runs → (m : ℕ) → m ≤ n
    → counted_to counts m ≡ sum_to (λ p. count_by (λ (r : Run). test r && r.position == p) runs) m
counted_to-are n counts test runs are m short =
    sum_to-same (at counts) (λ p. count_by (λ (r : Run). test r && r.position == p) runs) m (λ p low high. are.each p low (omega arith))

-- the runs below position i
pub counted_out : (n : ℕ) (counts : List ℕ) (test : Run → Bool) (runs : List Run) → AreCounts n counts test runs → All (Within n) runs → (i : ℕ) → 1 ≤ i → i ≤ n + 1
    → counted_to counts (i - 1) ≡ count_by (λ (r : Run). test r && not (nat_le i r.position)) runs
counted_out n counts test runs are within i low high =
    counted_to-are n counts test runs are (i - 1) (omega arith) ∙ counted_below test n runs i within low

-- all runs
pub counted_whole : (n : ℕ) (counts : List ℕ) (test : Run → Bool) (runs : List Run) → AreCounts n counts test runs → All (Within n) runs
    → counted counts ≡ count_by test runs
counted_whole n counts test runs are within =
    ap (counted_to counts) are.long ∙ (counted_to-are n counts test runs are n (omega arith) ∙ counted_all test n runs within)

-- the runs at or above position i
pub counted_in : (n : ℕ) (counts : List ℕ) (test : Run → Bool) (runs : List Run) → AreCounts n counts test runs → All (Within n) runs → (i : ℕ) → 1 ≤ i → i ≤ n + 1
    → counted counts - counted_to counts (i - 1) ≡ count_by (λ (r : Run). test r && nat_le i r.position) runs
counted_in n counts test runs are within i low high =
    omega (
      arith,
      counted_out n counts test runs are within i low high,
      counted_whole n counts test runs are within,
      count_by-split test (λ (r : Run). nat_le i r.position) runs,
    )

-- the product of five numbers, regrouped
regroup : (x a b c d : ℕ) → x * a * b * c * d ≡ x * (a * b * c * d)
regroup x a b c d = grind arith

-- the product by kept counts is the likelihood of the counted runs
pub product-kept_counts : (n : ℕ) (f : Factors) (fails passes : List ℕ) (runs : List Run)
    → AreCounts n fails (λ (r : Run). is_fail r.verdict) runs → AreCounts n passes (λ (r : Run). not (is_fail r.verdict)) runs → All (Within n) runs
    → (x i : ℕ) → 1 ≤ i → i ≤ n + 1 → product f x (kept_counts fails passes i) ≡ x * likelihood f i runs
product-kept_counts n f fails passes runs failed passed within x i low high =
    let fi : counted fails - counted_to fails (i - 1) ≡ fails_in i runs = counted_in n fails (λ (r : Run). is_fail r.verdict) runs failed within i low high in
    let fo : counted_to fails (i - 1) ≡ fails_out i runs = counted_out n fails (λ (r : Run). is_fail r.verdict) runs failed within i low high in
    let pi : counted passes - counted_to passes (i - 1) ≡ passes_in i runs = counted_in n passes (λ (r : Run). not (is_fail r.verdict)) runs passed within i low high in
    let po : counted_to passes (i - 1) ≡ passes_out i runs = counted_out n passes (λ (r : Run). not (is_fail r.verdict)) runs passed within i low high in
    rw (fi, fo, pi, po) (regroup x _ _ _ _ ∙ ap (λ m. x * m) (sym (likelihood-counts f i runs)))

-- the weight of a hypothesis is its kept weight times the common factor
pub weight-kept : (s : Setup) (runs : List Run) (n : ℕ) (fails passes : List ℕ) → hypotheses s ≡ n + 1
    → AreCounts n fails (λ (r : Run). is_fail r.verdict) (live s.factors runs) → AreCounts n passes (λ (r : Run). not (is_fail r.verdict)) (live s.factors runs) → All (Within n) (live s.factors runs)
    → (i : ℕ) → 1 ≤ i → i ≤ n + 1 → weight s runs i ≡ common s.factors runs * kept_weight s.priors s.factors (floor s.factors runs) fails passes i
weight-kept s runs n fails passes size failed passed within i low high =
    ⊎_elim
    (λ (above : floor s.factors runs < i).
    let test : nat_le i (floor s.factors runs) ≡ false = lt-leb i (floor s.factors runs) above in
    rw test (weight-common-live s runs i above ∙ ap (λ m. common s.factors runs * m) (sym (product-kept_counts n s.factors fails passes (live s.factors runs) failed passed within (prior s i) i low high))))
    (λ (under : i ≤ floor s.factors runs).
    let test : nat_le i (floor s.factors runs) ≡ true = le-leb i (floor s.factors runs) under in
    rw test (omega (arith, weight-floor s runs i low under)))
    (cases_lt (floor s.factors runs) i)
