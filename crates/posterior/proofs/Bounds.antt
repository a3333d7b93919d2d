-- Kept weights and their sums stay in 128 bits.
use Rattle.std.proofs.Common.{◌≡◌, ℕ, ◌+◌, ◌-◌, ◌*◌, ◌^◌, ◌<◌, ◌≤◌, true, false, nat_le, List, length, get_or, sum, arith, le-leb, ⊎_elim}
use Rattle.std.proofs.Math.Nat.{mul-le-mul, mul-le-mul_left, pow-zero, pow-le-pow_left, one-le-pow, one-le-mul}
use Rattle.std.proofs.lemmas.Nat.{pow-add}
use Rattle.std.proofs.lemmas.Bool.{cases_lt, lt-leb}
use Rattle.weight_exact.specs.Factors.{greatest_factor}
use Rattle.weight_exact.specs.Weights.{sum_to}
use Rattle.weight_exact.specs.Budget.{Fits}
use Rattle.weight_exact.specs.Powers.{product, count_of}
use Rattle.weight_exact.specs.declared.factors.Factors.{Factors}
use Rattle.weight_exact.specs.declared.powers.Counts.{Counts}
use Rattle.weight_exact.proofs.SumTo.{sum_to-le, sum_to-mul_right, sum_to_more, sum_to-slice_index}
use Rattle.posterior.specs.Kept.{at}
use Rattle.posterior.specs.Counted.{counted_to, counted}
use Rattle.posterior.proofs.Counting.{get_or-le-counted}
use Rattle.posterior.specs.KeptWeight.{kept_counts, kept_weight}

-- a power of a number is at most that of a greater one
power-le : (x m n : ℕ) → x ≤ m → x ^ n ≤ m ^ n
power-le x m n h = pow-le-pow_left h n

-- a product by counts is at most the greatest number to the power of them all
pub product-le : (f : Factors) (x : ℕ) (c : Counts) → product f x c ≤ x * greatest_factor f ^ count_of c
product-le f x c =
    let m = greatest_factor f in
    let a : f.fail_in ^ c.fail_in ≤ m ^ c.fail_in = power-le f.fail_in m c.fail_in (omega arith) in
    let b : f.fail_out ^ c.fail_out ≤ m ^ c.fail_out = power-le f.fail_out m c.fail_out (omega arith) in
    let p : f.pass_in ^ c.pass_in ≤ m ^ c.pass_in = power-le f.pass_in m c.pass_in (omega arith) in
    let q : f.pass_out ^ c.pass_out ≤ m ^ c.pass_out = power-le f.pass_out m c.pass_out (omega arith) in
    let all : m ^ count_of c ≡ m ^ c.fail_in * m ^ c.fail_out * m ^ c.pass_in * m ^ c.pass_out =
    rw (pow-add m (c.fail_in + c.fail_out + c.pass_in) c.pass_out, pow-add m (c.fail_in + c.fail_out) c.pass_in, pow-add m c.fail_in c.fail_out) in
    let factors : f.fail_in ^ c.fail_in * f.fail_out ^ c.fail_out * f.pass_in ^ c.pass_in * f.pass_out ^ c.pass_out ≤ m ^ c.fail_in * m ^ c.fail_out * m ^ c.pass_in * m ^ c.pass_out =
    mul-le-mul (mul-le-mul (mul-le-mul a b) p) q in
    let grouped : product f x c ≡ x * (f.fail_in ^ c.fail_in * f.fail_out ^ c.fail_out * f.pass_in ^ c.pass_in * f.pass_out ^ c.pass_out) = grind arith in
    rw (grouped, all) (mul-le-mul_left x factors)

-- the kept counts of a hypothesis are all that are counted
pub count_of-kept_counts : (fails passes : List ℕ) (i : ℕ) → i - 1 ≤ length fails → i - 1 ≤ length passes → count_of (kept_counts fails passes i) ≡ counted fails + counted passes
count_of-kept_counts fails passes i short also =
    omega (arith, sum_to_more (at fails) (i - 1) (length fails) short, sum_to_more (at passes) (i - 1) (length passes) also)

-- a kept weight is at most the prior times the greatest number to the power of the load
pub kept_weight-le : (priors : List ℕ) (f : Factors) (floor : ℕ) (fails passes : List ℕ) (i : ℕ) → i - 1 ≤ length fails → i - 1 ≤ length passes
    → kept_weight priors f floor fails passes i ≤ at priors i * greatest_factor f ^ (counted fails + counted passes)
kept_weight-le priors f floor fails passes i short also =
    let all = count_of-kept_counts fails passes i short also in
    let most : product f (at priors i) (kept_counts fails passes i) ≤ at priors i * greatest_factor f ^ (counted fails + counted passes) =
    rw all at (product-le f (at priors i) (kept_counts fails passes i)) in
    ⊎_elim
    (λ (above : floor < i). let test : nat_le i floor ≡ false = lt-leb i floor above in rw test most)
    (λ (under : i ≤ floor). let test : nat_le i floor ≡ true = le-leb i floor under in rw test (omega arith))
    (cases_lt floor i)

-- the sum of kept weights up to i is at most the sum of priors times that power
pub sum_to-kept_weight-le : (priors : List ℕ) (f : Factors) (floor : ℕ) (fails passes : List ℕ) (n i : ℕ) → length fails ≡ n → length passes ≡ n → length priors ≡ n + 1 → i ≤ n + 1
    → sum_to (kept_weight priors f floor fails passes) i ≤ sum priors * greatest_factor f ^ (counted fails + counted passes)
sum_to-kept_weight-le priors f floor fails passes n i a b c h =
    let m = greatest_factor f ^ (counted fails + counted passes) in
    let each : sum_to (kept_weight priors f floor fails passes) i ≤ sum_to (λ j. at priors j * m) i =
    sum_to-le (kept_weight priors f floor fails passes) (λ j. at priors j * m) i (λ j low high. kept_weight-le priors f floor fails passes j (omega arith) (omega arith)) in
    let out : sum_to (λ j. at priors j * m) i ≡ sum_to (at priors) i * m = sum_to-mul_right (at priors) m i in
    let front : sum_to (at priors) i ≤ sum priors = omega (arith, sum_to_more (at priors) i (length priors) (omega arith), sum_to-slice_index priors) in
    let bounded : sum_to (at priors) i * m ≤ sum priors * m = mul-le-mul front (omega arith) in
    omega arith

-- a power of a positive number is positive
pow_positive : (x n : ℕ) → 1 ≤ x → 1 ≤ x ^ n
pow_positive x n h = one-le-pow n x h

-- "no culprit" always keeps a weight: each run had it out
pub kept_weight_last : (priors : List ℕ) (f : Factors) (floor : ℕ) (fails passes : List ℕ) (n : ℕ) → length fails ≡ n → length passes ≡ n → floor < n + 1
    → 1 ≤ at priors (n + 1) → 1 ≤ f.fail_out → 1 ≤ f.pass_out → 1 ≤ kept_weight priors f floor fails passes (n + 1)
kept_weight_last priors f floor fails passes n a b low calm fail pass =
    let test : nat_le (n + 1) floor ≡ false = lt-leb (n + 1) floor low in
    let fi : counted fails - counted_to fails (n + 1 - 1) ≡ 0 =
    let e : n + 1 - 1 ≡ length fails = omega arith in rw e (omega arith) in
    let pi : counted passes - counted_to passes (n + 1 - 1) ≡ 0 =
    let e : n + 1 - 1 ≡ length passes = omega arith in rw e (omega arith) in
    rw (test, fi, pi, pow-zero f.fail_in, pow-zero f.pass_in)
    (one-le-mul (one-le-mul (one-le-mul (one-le-mul calm (omega arith)) (pow_positive f.fail_out _ fail)) (omega arith)) (pow_positive f.pass_out _ pass))

-- so a sum of kept weights has room for basis points
pub sum_to-kept_weight_fits : (priors : List ℕ) (f : Factors) (floor : ℕ) (fails passes : List ℕ) (n i : ℕ) → length fails ≡ n → length passes ≡ n → length priors ≡ n + 1 → i ≤ n + 1
    → Fits (sum priors) f (counted fails + counted passes) → sum_to (kept_weight priors f floor fails passes) i * 10000 < 2 ^ 128
sum_to-kept_weight_fits priors f floor fails passes n i a b c h fits =
    let most = sum_to-kept_weight-le priors f floor fails passes n i a b c h in
    let same : 10000 ≤ 10000 = omega arith in
    omega (arith, fits, mul-le-mul most same)

-- and each product of the walk fits 128 bits
pub product_fits : (priors : List ℕ) (f : Factors) (index : ℕ) (c : Counts) (load : ℕ) → index < length priors → count_of c ≡ load → Fits (sum priors) f load
    → product f (get_or priors index 0) c < 2 ^ 128
product_fits priors f index c load short all fits =
    let m = greatest_factor f ^ load in
    let most : product f (get_or priors index 0) c ≤ get_or priors index 0 * m = rw all at (product-le f (get_or priors index 0) c) in
    let prior : get_or priors index 0 ≤ sum priors = omega (arith, get_or-le-counted priors index short, sum_to-slice_index priors) in
    let bounded : get_or priors index 0 * m ≤ sum priors * m = mul-le-mul prior (let same : m ≤ m = omega arith in same) in
    omega (arith, fits)
