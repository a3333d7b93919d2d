use Rattle.std.proofs.Common.{◌≡◌, map}
use Rattle.std.specs.List.{range_with_len}
use Rattle.drill_plan.specs.Plan.{planned_suspect}
use Rattle.drill_plan.proofs.ask.suspects_of.Given as goal

abbrev pub invariant-loop-before : goal.invariant-loop-before
invariant-loop-before l = l.suspects.items ≡ map (planned_suspect l.search) (range_with_len 1 l.before)
