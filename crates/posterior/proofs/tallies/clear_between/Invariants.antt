use Rattle.std.proofs.Common.{◌≡◌, ◌<◌, ◌≤◌, ℕ}
use Rattle.posterior.specs.Kept.{at}
use Rattle.posterior.specs.Counted.{AreCleared, counted}
use Rattle.posterior.proofs.tallies.clear_between.Given as goal

-- what stood up to this index is cleared, and what is left is counted
abbrev pub invariant-loop-index : goal.invariant-loop-index
invariant-loop-index l = record {
  cleared : AreCleared l.index l.counts;
  above : (p : ℕ) → l.index < p → at l.counts p ≡ at l.fn.counts p;
  all : l.left ≡ counted l.counts;
  fewer : l.left ≤ l.fn.all;
}
