-- What it means that sums are those of a search.
use Rattle.std.specs.Prelude.{◌≡◌, ℕ, ◌*◌, ◌≤◌, List, length}
use Rattle.weight_exact.specs.Weights.{Setup, hypotheses, cumulative, total}
use Rattle.weight_exact.specs.declared.run.Run.{Run}
use Rattle.threshold_pick.specs.Sums.{sum_at, whole}

-- The sums are the cumulative weights of a search after a list of runs, by Bayes' rule, up to one common positive
-- factor
pub record AreCumulative (s : Setup) (runs : List Run) (sums : List ℕ) : Type 0 where
  pub one_each : length sums ≡ hypotheses s
  pub some : 1 ≤ whole sums
  pub parts : (i : ℕ) → 1 ≤ i → i ≤ hypotheses s → sum_at sums i * total s runs ≡ cumulative s runs i * whole sums
