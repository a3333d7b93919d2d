-- Hypotheses at the bar together that skipped positions alone part, by cumulative sums.
use Rattle.std.specs.Prelude.{ℕ, zero, suc, ◌-◌, ◌*◌, ◌^◌, ◌<◌, ◌≤◌, Bool, List, nat_le}
use Rattle.threshold_pick.specs.HiddenBlocks.{first_at, first_from, last_below}
use Rattle.weight_exact.specs.Cumulative.{AreRising}
use Rattle.weight_exact.specs.Share.{is_at_bar}
use Rattle.weight_exact.specs.declared.limits.TheConstants.{BASIS_POINTS, MAX_SUSPECTS}
use Rattle.threshold_pick.specs.Sums.{sum_at, suspects_in, whole}

-- the sum of hypotheses 1 to i, which is 0 where there is none
abbrev pub sum_upto : List ℕ → ℕ → ℕ
sum_upto sums zero = 0
sum_upto sums (suc i) = sum_at sums (suc i)

-- the middle hypothesis: the first with at least half of the whole up to it
abbrev pub middle_in : List ℕ → ℕ
middle_in sums = first_from (λ i. nat_le (whole sums) (2 * sum_at sums i)) 0 (suspects_in sums)

-- whether the greatest block round the middle, which skipped positions alone part, is at the bar t/u
abbrev pub is_hidden_in : (t u : ℕ) → (sums skipped : List ℕ) → Bool
is_hidden_in t u sums skipped =
    let m = middle_in sums in
    is_at_bar t u (whole sums)
    (sum_upto sums (first_at skipped m (suspects_in sums)) - sum_upto sums (last_below skipped m))

-- the middle of sums can be looked for by halves: a suspect is there, no sum is less than an earlier one, and the
-- numbers are within the limits of a search
pub record CanHalve (sums : List ℕ) : Type 0 where
  pub some : 1 ≤ suspects_in sums
  pub few : suspects_in sums ≤ MAX_SUSPECTS
  pub rising : AreRising sums
  pub room : whole sums * BASIS_POINTS < 2 ^ 128
