use Rattle.std.proofs.Common.{◌-◌, length}
use Rattle.farm_core.specs.Cutting.{IsCutFrom}
use Rattle.farm_core.proofs.tail.cut.Given as goal

abbrev pub invariant-loop-kept : goal.invariant-loop-kept
invariant-loop-kept l = IsCutFrom l.fn.kept l.kept l.count

abbrev pub decreases-loop-kept : goal.decreases-loop-kept
decreases-loop-kept l = length l.kept - l.count
