use Rattle.std.proofs.Common.{take}
use Rattle.farm_drill.specs.Reported.{AreRunsMarked}
use Rattle.farm_drill.proofs.reporting.marks_of.Given as goal

abbrev pub invariant-loop-entry : goal.invariant-loop-entry
invariant-loop-entry l = AreRunsMarked (take l.entry-index l.history) l.marks.items
