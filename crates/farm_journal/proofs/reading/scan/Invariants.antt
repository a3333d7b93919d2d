use Rattle.std.proofs.Common.{◌-◌, length}
use Rattle.farm_journal.proofs.Scan.{SoFar}
use Rattle.farm_journal.proofs.reading.scan.Given as goal

abbrev pub invariant-gates : goal.invariant-gates
invariant-gates l = SoFar l.bytes l.at l.payloads l.past

abbrev pub decreases-gates : goal.decreases-gates
decreases-gates l = length l.bytes - l.at
