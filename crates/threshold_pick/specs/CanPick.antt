-- Over which sums positions can be picked.
use Rattle.std.specs.Prelude.{ℕ, ◌*◌, ◌^◌, ◌<◌, ◌≤◌, List}
use Rattle.weight_exact.specs.declared.limits.TheConstants.{BASIS_POINTS, MAX_SUSPECTS}
use Rattle.threshold_pick.specs.Sums.{RiseAbove, suspects_in, whole}

-- positions above a floor can be picked by sums: a suspect stands above it, each hypothesis there has a weight, and the
-- numbers are within the limits of a search
pub record CanPick (floor : ℕ) (sums : List ℕ) : Type 0 where
  pub few : suspects_in sums ≤ MAX_SUSPECTS
  pub some : floor < suspects_in sums
  pub rising : RiseAbove floor sums
  pub room : whole sums * BASIS_POINTS < 2 ^ 128
