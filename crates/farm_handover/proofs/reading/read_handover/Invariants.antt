use Rattle.std.proofs.Common.{length}
use Rattle.judge.specs.Lines.{lines_left, next_number}
use Rattle.farm_handover.proofs.Remaining.{GoesOn}
use Rattle.farm_handover.proofs.reading.read_handover.Given as goal

abbrev pub invariant-loop-line : goal.invariant-loop-line
invariant-loop-line l = GoesOn l.fn.input l.read.list.items (next_number l.lines) (lines_left l.lines)

abbrev pub decreases-loop-line : goal.decreases-loop-line
decreases-loop-line l = length (lines_left l.lines)
