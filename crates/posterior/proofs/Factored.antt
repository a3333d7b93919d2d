-- What one run more makes of the weights: each is multiplied by the number of the run.
use Rattle.std.proofs.Common.{◌≡◌, ℕ, ◌+◌, ◌-◌, ◌*◌, ◌^◌, ◌<◌, ◌≤◌, true, false, nat_le, if◌then◌else◌, List, length, set, sym, arith, add-one, pow-suc, zero-mul, le-leb, ⊎_elim}
use Rattle.std.proofs.lemmas.Bool.{cases_lt, lt-leb}
use Rattle.weight_exact.specs.Load.{is_fail}
use Rattle.weight_exact.specs.Factors.{verdict_factor}
use Rattle.weight_exact.specs.Cumulative.{reweighed}
use Rattle.weight_exact.specs.Powers.{product}
use Rattle.weight_exact.specs.declared.factors.Factors.{Factors}
use Rattle.weight_exact.specs.declared.run.Verdict.{Verdict}
use Rattle.weight_exact.specs.declared.run.Verdict.TheVariants.{Pass, Fail}
use Rattle.weight_exact.proofs.SumTo.{sum_to_more}
use Rattle.posterior.specs.Kept.{at}
use Rattle.posterior.specs.Counted.{counted_to, counted}
use Rattle.posterior.specs.KeptWeight.{kept_counts, kept_weight}
use Rattle.posterior.proofs.Counting.{counted-set, counted_to-set, counted_to-set_below}

-- a power of one more
power_more : (a k m : ℕ) → m ≡ k + 1 → a ^ m ≡ a ^ k * a
power_more a k m e = rw (e, add-one k) (pow-suc a k)

-- a factor more of one kind
more_first : (x p q r s n : ℕ) → x * (p * n) * q * r * s ≡ x * p * q * r * s * n
more_first x p q r s n = grind arith

more_second : (x p q r s n : ℕ) → x * p * (q * n) * r * s ≡ x * p * q * r * s * n
more_second x p q r s n = grind arith

more_third : (x p q r s n : ℕ) → x * p * q * (r * n) * s ≡ x * p * q * r * s * n
more_third x p q r s n = grind arith

more_fourth : (x p q r s n : ℕ) → x * p * q * r * (s * n) ≡ x * p * q * r * s * n
more_fourth x p q r s n = grind arith

-- the counts that one run more at a position leaves on either side of it
pub record OneMore (xs ys : List ℕ) (p : ℕ) : Type 0 where
  pub all : counted ys ≡ counted xs + 1
  pub below : (m : ℕ) → m < p → counted_to ys m ≡ counted_to xs m
  pub above : (m : ℕ) → p ≤ m → counted_to ys m ≡ counted_to xs m + 1

pub one_more : (xs : List ℕ) (p : ℕ) → 1 ≤ p → p ≤ length xs → OneMore xs (set xs (p - 1) (at xs p + 1)) p
one_more xs p low high = record {
  all = omega (arith, counted-set xs p (at xs p + 1) low high);
  below = λ m under. counted_to-set_below xs p (at xs p + 1) m low under;
  above = λ m over. omega (arith, counted_to-set xs p (at xs p + 1) m low high over);
}

-- a fail more multiplies the product of a hypothesis up to its position by the one number, and of the others by the
-- other
product-fail : (f : Factors) (x : ℕ) (fails fails' passes : List ℕ) (p i : ℕ) → OneMore fails fails' p → 1 ≤ i → i - 1 ≤ length fails
    → product f x (kept_counts fails' passes i)
    ≡ product f x (kept_counts fails passes i) * (if nat_le i p then f.fail_in else f.fail_out)
product-fail f x fails fails' passes p i more some short =
    let part : counted_to fails (i - 1) ≤ counted fails = sum_to_more (at fails) (i - 1) (length fails) short in
    ⊎_elim
    (λ (within : i < p + 1).
    let test : nat_le i p ≡ true = le-leb i p (omega arith) in
    let same : counted_to fails' (i - 1) ≡ counted_to fails (i - 1) = more.below (i - 1) (omega arith) in
    let power : f.fail_in ^ (counted fails' - counted_to fails' (i - 1)) ≡ f.fail_in ^ (counted fails - counted_to fails (i - 1)) * f.fail_in =
    power_more f.fail_in (counted fails - counted_to fails (i - 1)) (counted fails' - counted_to fails' (i - 1)) (omega (arith, more.all)) in
    rw (test, power, same) (more_first x _ _ _ _ f.fail_in))
    (λ (over : p + 1 ≤ i).
    let test : nat_le i p ≡ false = lt-leb i p (omega arith) in
    let next : counted_to fails' (i - 1) ≡ counted_to fails (i - 1) + 1 = more.above (i - 1) (omega arith) in
    let same : counted fails' - counted_to fails' (i - 1) ≡ counted fails - counted_to fails (i - 1) = omega (arith, more.all) in
    let power : f.fail_out ^ counted_to fails' (i - 1) ≡ f.fail_out ^ counted_to fails (i - 1) * f.fail_out = power_more f.fail_out _ _ next in
    rw (test, same, power) (more_second x _ _ _ _ f.fail_out))
    (cases_lt i (p + 1))

-- a pass more likewise
product-pass : (f : Factors) (x : ℕ) (fails passes passes' : List ℕ) (p i : ℕ) → OneMore passes passes' p → 1 ≤ i → i - 1 ≤ length passes
    → product f x (kept_counts fails passes' i)
    ≡ product f x (kept_counts fails passes i) * (if nat_le i p then f.pass_in else f.pass_out)
product-pass f x fails passes passes' p i more some short =
    let part : counted_to passes (i - 1) ≤ counted passes = sum_to_more (at passes) (i - 1) (length passes) short in
    ⊎_elim
    (λ (within : i < p + 1).
    let test : nat_le i p ≡ true = le-leb i p (omega arith) in
    let same : counted_to passes' (i - 1) ≡ counted_to passes (i - 1) = more.below (i - 1) (omega arith) in
    let power : f.pass_in ^ (counted passes' - counted_to passes' (i - 1)) ≡ f.pass_in ^ (counted passes - counted_to passes (i - 1)) * f.pass_in =
    power_more f.pass_in (counted passes - counted_to passes (i - 1)) (counted passes' - counted_to passes' (i - 1)) (omega (arith, more.all)) in
    rw (test, power, same) (more_third x _ _ _ _ f.pass_in))
    (λ (over : p + 1 ≤ i).
    let test : nat_le i p ≡ false = lt-leb i p (omega arith) in
    let next : counted_to passes' (i - 1) ≡ counted_to passes (i - 1) + 1 = more.above (i - 1) (omega arith) in
    let same : counted passes' - counted_to passes' (i - 1) ≡ counted passes - counted_to passes (i - 1) = omega (arith, more.all) in
    let power : f.pass_out ^ counted_to passes' (i - 1) ≡ f.pass_out ^ counted_to passes (i - 1) * f.pass_out = power_more f.pass_out _ _ next in
    rw (test, same, power) (more_fourth x _ _ _ _ f.pass_out))
    (cases_lt i (p + 1))

-- the weight of a hypothesis with a factor, whether it is cleared or not
cleared-or : (i floor v w n : ℕ) → v ≡ w * n → (if nat_le i floor then 0 else v) ≡ (if nat_le i floor then 0 else w) * n
cleared-or i floor v w n e =
    ⊎_elim
    (λ (above : floor < i). let test : nat_le i floor ≡ false = lt-leb i floor above in rw test e)
    (λ (under : i ≤ floor). let test : nat_le i floor ≡ true = le-leb i floor under in rw test (sym (zero-mul n)))
    (cases_lt floor i)

-- a run that is counted at its position multiplies each weight by its number
pub kept_weight-counted : (priors : List ℕ) (f : Factors) (floor : ℕ) (fails passes fails' passes' : List ℕ) (v : Verdict) (p i : ℕ)
    → 1 ≤ p → p ≤ length fails → p ≤ length passes → 1 ≤ i → i - 1 ≤ length fails → i - 1 ≤ length passes
    → fails' ≡ (if is_fail v then set fails (p - 1) (at fails p + 1) else fails)
    → passes' ≡ (if is_fail v then passes else set passes (p - 1) (at passes p + 1))
    → kept_weight priors f floor fails' passes' i
    ≡ reweighed (kept_weight priors f floor fails passes) p (verdict_factor f v true) (verdict_factor f v false) i
kept_weight-counted priors f floor fails passes fails' passes' Fail p i low high also some short shorter failed passed =
    rw (failed, passed)
    (cleared-or i floor _ _ _ (product-fail f (at priors i) fails (set fails (p - 1) (at fails p + 1)) passes p i (one_more fails p low high) some short))
kept_weight-counted priors f floor fails passes fails' passes' Pass p i low high also some short shorter failed passed =
    rw (failed, passed)
    (cleared-or i floor _ _ _ (product-pass f (at priors i) fails passes (set passes (p - 1) (at passes p + 1)) p i (one_more passes p low also) some shorter))
