use Rattle.std.proofs.Common.{◌≡◌, ◌+◌, ◌-◌, ◌^◌, ◌≤◌}
use Rattle.weight_exact.proofs.run_budget.logarithm.Given as goal

-- the power to this exponent is at most the room
abbrev pub invariant-loop-power : goal.invariant-loop-power
invariant-loop-power l = record {
  power : l.power ≡ l.fn.base ^ l.exponent;
  some : 1 ≤ l.power;
  within : l.power ≤ l.fn.room;
}

abbrev pub decreases-loop-power : goal.decreases-loop-power
decreases-loop-power l = l.most + 1 - l.power
