use Rattle.std.proofs.Common.{◌≡◌, ◌+◌, drop}
use Rattle.farm_journal.specs.Layout.{first_difference}
use Rattle.farm_journal.specs.declared.layout.TheConstants.{MAGIC}
use Rattle.farm_journal.proofs.reading.find_header_fault.Given as goal

abbrev pub invariant-loop-i : goal.invariant-loop-i
invariant-loop-i l =
    first_difference 1 MAGIC (drop 1 l.bytes) ≡ first_difference (l.i + 1) (drop l.i MAGIC) (drop (l.i + 1) l.bytes)
