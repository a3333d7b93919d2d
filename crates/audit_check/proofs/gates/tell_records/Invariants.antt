use Rattle.std.proofs.Common.{◌-◌, length}
use Rattle.audit_check.proofs.Records.{IsTelling}
use Rattle.audit_check.proofs.gates.tell_records.Given as goal

abbrev pub invariant-loop-gate : goal.invariant-loop-gate
invariant-loop-gate l = IsTelling l.bytes l.gate l.unread l.entries.items

abbrev pub decreases-loop-gate : goal.decreases-loop-gate
decreases-loop-gate l = length l.bytes - l.gate
