-- Shares of the total weight, and the bar that a hypothesis has to reach.
use Rattle.std.specs.Prelude.{ℕ, zero, suc, ◌*◌, ◌/◌, ◌≤◌, List, Bool, Option, Some, None, if◌then◌else◌, nat_le}
use Rattle.weight_exact.specs.Weights.{Setup, weight, total, hypotheses}
use Rattle.weight_exact.specs.declared.run.Run.{Run}
use Rattle.weight_exact.specs.declared.limits.TheConstants.{BASIS_POINTS}

-- a weight's share of a total in basis points, rounded down
abbrev pub share : ℕ → ℕ → ℕ
share w whole = w * BASIS_POINTS / whole

-- the share of hypothesis i: its posterior probability in basis points
abbrev pub basis_points : Setup → List Run → ℕ → ℕ
basis_points s runs i = share (weight s runs i) (total s runs)

-- hypothesis i reaches the bar: its posterior probability is at least t/u
pub record IsReached (s : Setup) (runs : List Run) (i : ℕ) : Type 0 where
  pub first : 1 ≤ i
  pub last : i ≤ hypotheses s
  pub at_bar : s.bar_numerator * total s runs ≤ weight s runs i * s.bar_denominator

-- whether a weight of a total is at the bar t/u
abbrev pub is_at_bar : (t u : ℕ) → ℕ → ℕ → Bool
is_at_bar t u whole w = nat_le (t * whole) (w * u)

-- the last number from 1 to n that passes a test
abbrev pub last_to : (ℕ → Bool) → ℕ → Option ℕ
last_to test zero = None
last_to test (suc i) = if test (suc i) then Some (suc i) else last_to test i

-- the hypothesis that reaches the bar, if one does; at most one can
abbrev pub reached : Setup → List Run → Option ℕ
reached s runs = last_to (λ i. is_at_bar s.bar_numerator s.bar_denominator (total s runs) (weight s runs i)) (hypotheses s)
