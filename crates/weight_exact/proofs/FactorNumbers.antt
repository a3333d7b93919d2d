-- The four likelihood numbers of a flake rate a/b and a miss rate c/d within their limits.
use Rattle.std.proofs.Common.{◌≡◌, ℕ, zero, suc, ◌+◌, ◌*◌, ◌-◌, ◌/◌, ◌<◌, ◌≤◌, ◌↔◌, refl, sym, ap, ◌∙◌, arith, zero-mul, mul-add, mul_comm}
use Rattle.std.proofs.Math.Nat.{one-le-mul, zero-div}
use Rattle.flake_rate.specs.Divisor.{gcd}
use Rattle.flake_rate.specs.Limits.{IsRate, IsMiss, IsTold}
use Rattle.weight_exact.specs.Factors.{factors, greatest_factor}
use Rattle.flake_rate.proofs.Divisors.{gcd_comm, quotients_below, quotient_positive}

-- the second of two quotients by gcd is in the first's order, taken from the other side
quotients_above : (x y : ℕ) → y < x → y / gcd x y < x / gcd x y
quotients_above x y less = rw (gcd_comm x y) (quotients_below y x less)

quotient_positive_right : (x y : ℕ) → 0 < y → 0 < y / gcd x y
quotient_positive_right x y some = rw (gcd_comm x y) (quotient_positive y x some)

-- ---- three of the four are positive

pub fail_in_positive : (a b c d : ℕ) → IsRate a b → IsMiss c d → 1 ≤ (factors a b c d).fail_in
fail_in_positive a b c d rate miss =
    quotient_positive ((d - c) * b) (a * d) (one-le-mul (omega arith) (omega arith))

pub fail_out_positive : (a b c d : ℕ) → IsRate a b → IsMiss c d → 1 ≤ (factors a b c d).fail_out
fail_out_positive a b c d rate miss =
    quotient_positive_right ((d - c) * b) (a * d) (one-le-mul rate.0 (omega arith))

pub pass_out_positive : (a b c d : ℕ) → IsRate a b → IsMiss c d → 1 ≤ (factors a b c d).pass_out
pass_out_positive a b c d rate miss =
    quotient_positive_right (c * b) ((b - a) * d) (one-le-mul (omega arith) (omega arith))

-- ---- the fourth is 0 exactly where a broken test never passes

pub pass_in-no_misses : (a b d : ℕ) → (factors a b 0 d).pass_in ≡ 0
pass_in-no_misses a b d = rw (zero-mul b) (zero-div (gcd 0 ((b - a) * d)))

pub pass_in_positive : (a b c d : ℕ) → IsRate a b → 1 ≤ c → 1 ≤ (factors a b c d).pass_in
pass_in_positive a b c d rate some =
    quotient_positive (c * b) ((b - a) * d) (one-le-mul some (omega arith))

-- a pass inside that counts for nothing tells that a broken test never passes
never_passes : (a b c d : ℕ) → IsRate a b → (factors a b c d).pass_in ≡ 0 → c ≡ 0
never_passes a b zero d rate none = refl
never_passes a b (suc c) d rate none = absurd (omega (arith, pass_in_positive a b (suc c) d rate (omega arith)))

pub pass_in-zero : (a b c d : ℕ) → IsRate a b → ((factors a b c d).pass_in ≡ 0) ↔ (c ≡ 0)
pass_in-zero a b c d rate = (
  λ none. never_passes a b c d rate none,
  λ never. rw never (pass_in-no_misses a b d),
)

-- ---- a fail speaks for the hypotheses in, and a pass for those out

-- told apart: a fail is likelier with the culprit in, and a pass with it out
fail_order : (a b c d : ℕ) → c < d → c * b + a * d < b * d → a * d < (d - c) * b
fail_order a b c d less told =
    let e : c + (d - c) ≡ d = omega arith in
    let whole : b * c + b * (d - c) ≡ b * d = sym (mul-add b c (d - c)) ∙ ap (λ n. b * n) e in
    omega (arith, whole, mul_comm b (d - c), mul_comm b c)

pub fail_out-lt-fail_in : (a b c d : ℕ) → IsMiss c d → IsTold c d a b →
    (factors a b c d).fail_out < (factors a b c d).fail_in
fail_out-lt-fail_in a b c d miss told =
    quotients_above ((d - c) * b) (a * d) (fail_order a b c d miss.0 told)

pub greatest_factor_two : (a b c d : ℕ) → IsRate a b → IsMiss c d → IsTold c d a b →
    2 ≤ greatest_factor (factors a b c d)
greatest_factor_two a b c d rate miss told =
    omega (arith, fail_out_positive a b c d rate miss, fail_out-lt-fail_in a b c d miss told)
