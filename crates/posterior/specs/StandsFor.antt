-- What it means that a belief stands for a list of runs.
use Rattle.std.specs.Prelude.{◌≡◌, ℕ, ◌*◌, ◌^◌, ◌<◌, ◌≤◌, List, length, count_by}
use Rattle.weight_exact.specs.Counts.{is_fail_at, is_pass_at}
use Rattle.weight_exact.specs.Weights.{hypotheses, total, cumulative, AreInRange}
use Rattle.weight_exact.specs.Load.{floor, load}
use Rattle.weight_exact.specs.Budget.{run_budget}
use Rattle.weight_exact.specs.declared.limits.TheConstants.{BASIS_POINTS}
use Rattle.weight_exact.specs.declared.run.Run.{Run}
use Rattle.posterior.specs.Kept.{Kept, at, whole}

-- A belief stands for a list of runs where its floor and load are the list's, its numbers of fails and passes at each
-- position above the floor are the list's, and its sums, one for each hypothesis, are the cumulative weights of Bayes'
-- rule over the list, up to one common positive factor, with room for basis points in 128 bits
pub record StandsFor (k : Kept) (runs : List Run) : Type 0 where
  pub in_range : AreInRange k.setup runs
  pub floor_is : k.floor ≡ floor k.setup.factors runs
  pub load_is : k.load ≡ load k.setup.factors runs
  pub within : k.load ≤ run_budget k.setup
  pub fails_are : (p : ℕ) → k.floor < p → p < hypotheses k.setup → at k.fails p ≡ count_by (is_fail_at p) runs
  pub passes_are : (p : ℕ) → k.floor < p → p < hypotheses k.setup → at k.passes p ≡ count_by (is_pass_at p) runs
  pub as_many : length k.sums ≡ hypotheses k.setup
  pub sums_are : (i : ℕ) → 1 ≤ i → i ≤ hypotheses k.setup → at k.sums i * total k.setup runs ≡ cumulative k.setup runs i * whole k
  pub some : 1 ≤ whole k
  pub fits : whole k * BASIS_POINTS < 2 ^ 128
