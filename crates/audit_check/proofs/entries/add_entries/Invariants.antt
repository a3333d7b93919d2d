use Rattle.std.proofs.Common.{length}
use Rattle.audit_check.proofs.Adding.{IsAdding}
use Rattle.audit_check.proofs.entries.add_entries.Given as goal

abbrev pub invariant-loop-rest : goal.invariant-loop-rest
invariant-loop-rest l = IsAdding l.payload l.initial.entries.items l.entries.items l.rest

abbrev pub decreases-loop-rest : goal.decreases-loop-rest
decreases-loop-rest l = length l.rest
