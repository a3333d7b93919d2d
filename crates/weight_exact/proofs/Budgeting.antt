use Rattle.std.proofs.Common.{◌≡◌, ℕ, ◌+◌, ◌*◌, ◌-◌, ◌/◌, ◌^◌, ◌<◌, ◌≤◌, arith}
use Rattle.std.proofs.lemmas.Nat.{le-div}
use Rattle.std.proofs.Math.Nat.{div-mul-le_self, mul-le-mul_right, mul-le-mul, pow-le-pow_left, lt_of_not-le}
use Rattle.flake_rate.proofs.Values.{rate-in_limits, miss-in_limits}
use Rattle.flake_rate.specs.Miss.{FitsRate}
use Rattle.flake_rate.specs.declared.miss.Miss.{Miss}
use Rattle.flake_rate.specs.declared.rate.Rate.{Rate}
use Rattle.weight_exact.proofs.FactorNumbers.{greatest_factor_two}
use Rattle.weight_exact.proofs.Powering.{pow_le_mono, below_next_power}
use Rattle.weight_exact.specs.Budget.{IsBudget}
use Rattle.weight_exact.specs.Factors.{factors_of, greatest_factor}
use Rattle.weight_exact.specs.declared.factors.Factors.{Factors}
use Rattle.weight_exact.specs.declared.limits.TheConstants.{BASIS_POINTS}
use Rattle.weight_exact.specs.declared.run_budget.TheConstants.{MAX_PRIOR_TOTAL}
use Rattle.weight_exact.specs.declared.factors.TheConstants.{MAX_FACTOR}

-- a fail tells hypotheses apart, so the greatest number is at least 2
pub greatest_factor_told : (rate : Rate) (miss : Miss) → FitsRate miss rate → 2 ≤ greatest_factor (factors_of rate miss)
greatest_factor_told rate miss told =
    greatest_factor_two rate.a rate.b miss.c miss.d (rate-in_limits rate) (miss-in_limits miss) told

-- what the power may be at most, where a total prior weight times it, in basis points, is to fit 128 bits
abbrev pub room : ℕ → ℕ
room p = (2 ^ 128 - 1) / (p * BASIS_POINTS)

-- a power that is at most the room fits
pub fits_in_room : (p x : ℕ) → x ≤ room p → p * x * BASIS_POINTS < 2 ^ 128
fits_in_room p x h =
    let most : room p * (p * BASIS_POINTS) ≤ 2 ^ 128 - 1 = div-mul-le_self (2 ^ 128 - 1) (p * BASIS_POINTS) in
    let here : x * (p * BASIS_POINTS) ≤ room p * (p * BASIS_POINTS) = mul-le-mul_right (p * BASIS_POINTS) h in
    omega arith

-- and one that fits is at most the room
pub in_room_of_fits : (p x : ℕ) → 0 < p → p * x * BASIS_POINTS < 2 ^ 128 → x ≤ room p
in_room_of_fits p x some h = le-div x (2 ^ 128 - 1) (p * BASIS_POINTS) (omega arith) (omega arith)

-- the greatest exponent whose power is at most the room is at least each that fits
pub greatest_in_room : (p m n more : ℕ) → 0 < p → 2 ≤ m → room p < m * m ^ n → p * m ^ more * BASIS_POINTS < 2 ^ 128 → more ≤ n
greatest_in_room p m n more some two over fits =
    let within : m ^ more ≤ room p = in_room_of_fits p (m ^ more) some fits in
    below_next_power m n more (room p + 1) two (omega arith) (omega arith)

-- five runs fit at the limits of totals and numbers
pub five_runs_fit : (p m : ℕ) → p ≤ MAX_PRIOR_TOTAL → m ≤ MAX_FACTOR → p * m ^ 5 * BASIS_POINTS < 2 ^ 128
five_runs_fit p m total most =
    let power : m ^ 5 ≤ MAX_FACTOR ^ 5 = pow-le-pow_left most 5 in
    let product : p * m ^ 5 ≤ MAX_PRIOR_TOTAL * MAX_FACTOR ^ 5 = mul-le-mul total power in
    omega arith

-- more than 113 runs never fit
pub few_runs_fit : (p m n : ℕ) → 2 ≤ p → 2 ≤ m → p * m ^ n * BASIS_POINTS < 2 ^ 128 → n ≤ 113
few_runs_fit p m n total two fits =
    let few : n < 114 =
    lt_of_not-le (λ many.
    let power : 2 ^ n ≤ m ^ n = pow-le-pow_left two n in
    let least : 2 ^ 114 ≤ 2 ^ n = pow_le_mono 2 114 n (omega arith) many in
    let most : 2 ^ 114 ≤ m ^ n = omega arith in
    let product : 2 * 2 ^ 114 ≤ p * m ^ n = mul-le-mul total most in
    omega arith) in
    omega arith

-- the logarithm of the room, to the base of the greatest number, is the budget
pub logarithm_is_budget : (p : ℕ) (f : Factors) (m n : ℕ) → 0 < p → 2 ≤ m → m ≡ greatest_factor f → m ^ n ≤ room p → room p < m * m ^ n → IsBudget p f n
logarithm_is_budget p f m n some two is within over =
    let here : p * m ^ n * BASIS_POINTS < 2 ^ 128 = fits_in_room p (m ^ n) within in
    record {
      fits = rw (← is) here;
      greatest = λ more fits. greatest_in_room p m n more some two over (rw is fits);
    }
