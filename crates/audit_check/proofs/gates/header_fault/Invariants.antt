use Rattle.std.proofs.Common.{◌≡◌, ◌+◌, drop}
use Rattle.farm_journal.specs.Layout.{first_difference}
use Rattle.farm_journal.specs.declared.layout.TheConstants.{MAGIC}
use Rattle.audit_check.proofs.gates.header_fault.Given as goal

abbrev pub invariant-loop-before : goal.invariant-loop-before
invariant-loop-before l =
    first_difference 1 MAGIC (drop 1 l.bytes) ≡ first_difference (l.before + 1) (drop l.before MAGIC) (drop (l.before + 1) l.bytes)
