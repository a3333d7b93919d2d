use Rattle.std.proofs.Common.{◌≡◌, ◌+◌, ◌-◌, ◌≤◌}
use Rattle.threshold_pick.specs.HiddenBlocks.{first_at}
use Rattle.threshold_pick.proofs.skips.Skips.first_at.Given as goal

-- Each position from the hypothesis to before this one was skipped
abbrev pub invariant-loop-position : goal.invariant-loop-position
invariant-loop-position l = record {
  first : 1 ≤ l.position;
  within : l.position ≤ l.last + 1;
  same : first_at l.self l.hypothesis l.last ≡ first_at l.self l.position l.last;
}

abbrev pub decreases-loop-position : goal.decreases-loop-position
decreases-loop-position l = l.last + 1 - l.position
