-- The four likelihood numbers of a flake rate a/b and a miss rate c/d within their limits.
use Rattle.std.proofs.Common.{◌≡◌, ℕ, ◌+◌, ◌*◌, ◌-◌, ◌/◌, ◌<◌, ◌≤◌, sym, ap, ◌∙◌, arith, mul-one, one-mul, zero-mul, add-mul, div-le_self, div-one}
use Rattle.std.proofs.Math.Nat.{zero-div, div_self}
use Rattle.std.proofs.lemmas.Nat.{mul-le}
use Rattle.flake_rate.specs.Divisor.{gcd}
use Rattle.flake_rate.specs.Limits.{IsRate, IsMiss, IsTold}
use Rattle.weight_exact.specs.Factors.{factors, greatest_factor}
use Rattle.flake_rate.proofs.Divisors.{gcd_comm, gcd-zero_left, quotients_below}

pass_order : (a b c d : ℕ) → a < b → c * b + a * d < b * d → c * b < (b - a) * d
pass_order a b c d less told =
    let e : a + (b - a) ≡ b = omega arith in
    let whole : a * d + (b - a) * d ≡ b * d = sym (add-mul a (b - a) d) ∙ ap (λ n. n * d) e in
    omega (arith, whole)

pub pass_in-lt-pass_out : (a b c d : ℕ) → IsRate a b → IsTold c d a b →
    (factors a b c d).pass_in < (factors a b c d).pass_out
pass_in-lt-pass_out a b c d rate told =
    quotients_below (c * b) ((b - a) * d) (pass_order a b c d rate.1 told)

-- ---- their size

pub factors-le : (a b c d : ℕ) → IsRate a b → IsMiss c d →
    ((factors a b c d).fail_in ≤ 100_000)
    × ((factors a b c d).fail_out ≤ 100_000)
    × ((factors a b c d).pass_in ≤ 100_000)
    × ((factors a b c d).pass_out ≤ 100_000)
factors-le a b c d rate miss =
    let x = (d - c) * b in
    let y = a * d in
    let z = c * b in
    let w = (b - a) * d in
    let x_small : x ≤ 100 * 1000 = mul-le (d - c) b 100 1000 (omega arith) rate.2 in
    let y_small : y ≤ 1000 * 100 = mul-le a d 1000 100 (omega arith) miss.1 in
    let z_small : z ≤ 100 * 1000 = mul-le c b 100 1000 (omega arith) rate.2 in
    let w_small : w ≤ 1000 * 100 = mul-le (b - a) d 1000 100 (omega arith) miss.1 in (
      omega (arith, div-le_self x (gcd x y)),
      omega (arith, div-le_self y (gcd x y)),
      omega (arith, div-le_self z (gcd z w)),
      omega (arith, div-le_self w (gcd z w)),
    )

pub greatest_factor-le : (a b c d : ℕ) → IsRate a b → IsMiss c d → greatest_factor (factors a b c d) ≤ 100_000
greatest_factor-le a b c d rate miss = let small = factors-le a b c d rate miss in omega arith

-- ---- where a broken test never passes

-- in lowest terms a rate's own numbers are the numbers of a fail, and a pass is 0 or 1
pub factors_no_miss : (a b : ℕ) → IsRate a b → gcd a b ≡ 1 →
    factors a b 0 1 ≡ record { fail_in = b; fail_out = a; pass_in = 0; pass_out = 1 }
factors_no_miss a b rate lowest =
    let turned : gcd b a ≡ 1 = gcd_comm b a ∙ lowest in
    let all : gcd 0 (b - a) ≡ b - a = gcd-zero_left (b - a) in
    let whole : (b - a) / (b - a) ≡ 1 = div_self (omega arith) in
    rw (one-mul b, mul-one a, zero-mul b, mul-one (b - a), turned, all, div-one b, div-one a, zero-div (b - a), whole)
