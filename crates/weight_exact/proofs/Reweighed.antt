-- Sums of weights of which those up to a position are multiplied by one number, and the others by another.
use Rattle.std.proofs.Common.{◌≡◌, ℕ, ◌+◌, ◌-◌, ◌*◌, ◌≤◌, true, false, nat_le, List, length, get_or, sym, ap, ◌∙◌, arith, le-leb}
use Rattle.std.proofs.Math.Nat.{mul-le-mul}
use Rattle.std.proofs.lemmas.Bool.{lt-leb}
use Rattle.weight_exact.specs.Weights.{sum_to}
use Rattle.weight_exact.specs.Cumulative.{AreSumsOf, AreRising, reweighed, reweighed_total}
use Rattle.weight_exact.proofs.SumTo.{sum_to-same, sum_to-add, sum_to-mul_right, sum_to_more}

-- up to the position the sum is multiplied
pub sum_to-reweighed_within : (w : ℕ → ℕ) (p a b i : ℕ) → i ≤ p → sum_to (reweighed w p a b) i ≡ sum_to w i * a
sum_to-reweighed_within w p a b i within =
    sum_to-same (reweighed w p a b) (λ j. w j * a) i (λ j low high. let test : nat_le j p ≡ true = le-leb j p
    (omega arith) in rw test)
    ∙ sum_to-mul_right w a i

-- and above it what is more is multiplied by the other number
pub sum_to-reweighed_above : (w : ℕ → ℕ) (p a b i : ℕ) → p ≤ i →
    sum_to (reweighed w p a b) i ≡ sum_to w p * a + (sum_to w i - sum_to w p) * b
sum_to-reweighed_above w p a b i above =
    let k : ℕ = i - p in
    let e : p + k ≡ i = omega arith in
    let rest : sum_to (λ j. reweighed w p a b (p + j)) k ≡ sum_to (λ j. w (p + j)) k * b =
    sum_to-same (λ j. reweighed w p a b (p + j)) (λ j. w (p + j) * b) k
    (λ j low high. let test : nat_le (p + j) p ≡ false = lt-leb (p + j) p (omega arith) in rw test)
    ∙ sum_to-mul_right (λ j. w (p + j)) b k in
    let more : sum_to w (p + k) - sum_to w p ≡ sum_to (λ j. w (p + j)) k = omega (arith, sum_to-add w p k) in
    let all : sum_to (reweighed w p a b) (p + k) ≡ sum_to w p * a + (sum_to w (p + k) - sum_to w p) * b =
    rw more (sum_to-add (reweighed w p a b) p k
    ∙ (ap (λ n. n + sum_to (λ j. reweighed w p a b (p + j)) k) (sum_to-reweighed_within w p a b p (omega arith))
    ∙ ap (λ n. sum_to w p * a + n) rest)) in
    rw e at all

-- a number between two of rising ones, multiplied above the lower, is at most the greatest one multiplied
pub spread-le : (below base factor x last : ℕ) → x ≤ last → base + (x - below) * factor ≤ base + (last - below) * factor
spread-le below base factor x last less =
    let d : x - below ≤ last - below = omega arith in
    omega (arith, mul-le-mul d (let same : factor ≤ factor = omega arith in same))

-- the sum of all weights that are multiplied so
pub reweighed_total-is : (w : ℕ → ℕ) (sums : List ℕ) (p a b : ℕ) → AreSumsOf w sums → 1 ≤ p → p ≤ length sums →
    reweighed_total sums p a b ≡ sum_to (reweighed w p a b) (length sums)
reweighed_total-is w sums p a b are low high =
    let below : get_or sums (p - 1) 0 ≡ sum_to w p = are p low high in
    let last : get_or sums (length sums - 1) 0 ≡ sum_to w (length sums) = are (length sums) (omega arith)
    (omega arith) in
    rw (below, last) (sym (sum_to-reweighed_above w p a b (length sums) high))

-- cumulative sums rise
pub rising : (w : ℕ → ℕ) (sums : List ℕ) → AreSumsOf w sums → AreRising sums
rising w sums are i j less short =
    let e : i + 1 - 1 ≡ i = omega arith in
    let d : j + 1 - 1 ≡ j = omega arith in
    let here : get_or sums i 0 ≡ sum_to w (i + 1) = rw e at (are (i + 1) (omega arith) (omega arith)) in
    let there : get_or sums j 0 ≡ sum_to w (j + 1) = rw d at (are (j + 1) (omega arith) (omega arith)) in
    omega (arith, sum_to_more w (i + 1) (j + 1) (omega arith))
