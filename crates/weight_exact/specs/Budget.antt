-- The budget: what load fits 128 bits.
use Rattle.std.specs.Prelude.{ℕ, zero, suc, sum, ◌*◌, ◌^◌, ◌<◌, ◌≤◌, Bool, nat_lt, if◌then◌else◌}
use Rattle.weight_exact.specs.Factors.{greatest_factor}
use Rattle.weight_exact.specs.Weights.{Setup}
use Rattle.weight_exact.specs.declared.factors.Factors.{Factors}
use Rattle.weight_exact.specs.declared.limits.TheConstants.{BASIS_POINTS}

-- a total prior weight, times the greatest number of a run to the power of a load, fits 128 bits in basis points
abbrev pub Fits : ℕ → Factors → ℕ → Type 0
Fits prior_total f load = prior_total * greatest_factor f ^ load * BASIS_POINTS < 2 ^ 128

-- the budget of a search: the greatest load that fits
pub record IsBudget (prior_total : ℕ) (f : Factors) (budget : ℕ) : Type 0 where
  pub fits : Fits prior_total f budget
  pub greatest : (more : ℕ) → Fits prior_total f more → more ≤ budget

-- the last number below n that passes a test, or 0
abbrev pub last_below : (ℕ → Bool) → ℕ → ℕ
last_below test zero = 0
last_below test (suc n) = if test n then n else last_below test n

-- the budget as a number: no load from 128 on fits, since the greatest number is at least 2
unfoldable pub budget_of : ℕ → Factors → ℕ
budget_of prior_total f = last_below (λ load. nat_lt (prior_total * greatest_factor f ^ load * BASIS_POINTS) (2 ^ 128)) 128

-- the budget of a search: by the sum of its priors
abbrev pub run_budget : Setup → ℕ
run_budget s = budget_of (sum s.priors) s.factors
