use Rattle.std.proofs.Common.{◌≡◌, ◌≤◌}
use Rattle.threshold_pick.specs.HiddenBlocks.{last_below}
use Rattle.threshold_pick.proofs.skips.Skips.last_below.Given as goal

-- Each position from here to below the hypothesis was skipped
abbrev pub invariant-loop-behind : goal.invariant-loop-behind
invariant-loop-behind l = record {
  within : l.behind ≤ l.hypothesis;
  same : last_below l.self l.hypothesis ≡ last_below l.self l.behind;
}

abbrev pub decreases-loop-behind : goal.decreases-loop-behind
decreases-loop-behind l = l.behind
