use Rattle.std.proofs.Common.{ℕ, ◌-◌, ◌*◌, ◌^◌, ◌≤◌, slice_index}
use Rattle.threshold_pick.specs.Sums.{suspects_in}
use Rattle.threshold_pick.specs.Picks.{IsPick}
use Rattle.threshold_pick.proofs.picks.plan_into.Given as goal

-- The picks before this index are written
abbrev pub invariant-loop-index : goal.invariant-loop-index
invariant-loop-index g l = record {
  picks : (j : ℕ) → 1 ≤ j → j ≤ l.index → IsPick l.sums l.floor j l.k (slice_index l.out (j - 1));
  counted : l.fn.steps ≤ l.steps;
  cost : 2 ^ (l.steps - l.fn.steps) ≤ (8 * suspects_in l.sums) ^ l.index;
}
