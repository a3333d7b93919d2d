use Rattle.std.proofs.Common.{◌≡◌, ◌+◌, ◌*◌, ◌≤◌, ℕ, length}
use Rattle.weight_exact.specs.Weights.{sum_to}
use Rattle.posterior.specs.Kept.{at}
use Rattle.posterior.specs.Counted.{counted_to}
use Rattle.posterior.specs.Walk.{tallied_weight}
use Rattle.posterior.proofs.weigh.weigh.Given as goal

-- The hypotheses up to this index are weighed, and the counts are those of the next one
abbrev pub invariant-loop-index : goal.invariant-loop-index
invariant-loop-index g l =
    let w : ℕ → ℕ = tallied_weight l.priors l.powers.factors l.tallies in
    record {
      size : length l.sums ≡ length l.priors;
      sums : (i : ℕ) → 1 ≤ i → i ≤ l.index → at l.sums i ≡ sum_to w i;
      whole : l.whole ≡ sum_to w l.index;
      fail_out : l.counts.fail_out ≡ counted_to l.tallies.fails.items l.index;
      fail_in : l.counts.fail_in + l.counts.fail_out ≡ l.tallies.failed;
      pass_out : l.counts.pass_out ≡ counted_to l.tallies.passes.items l.index;
      pass_in : l.counts.pass_in + l.counts.pass_out ≡ l.tallies.passed;
      most : (i : ℕ) → 1 ≤ i → i ≤ l.index → w i ≤ l.heaviest.weight;
      leads : 1 ≤ l.heaviest.weight → (1 ≤ l.heaviest.hypothesis) × (l.heaviest.hypothesis ≤ l.index) × (w l.heaviest.hypothesis ≡ l.heaviest.weight);
      cost : l.steps ≤ l.fn.steps + 2 * l.index;
      rises : l.fn.steps ≤ l.steps;
    }
