use Rattle.std.proofs.Common.{◌≡◌, take}
use Rattle.farm_entry.specs.History.{all_leases}
use Rattle.farm_drill.specs.Reported.{unmarked}
use Rattle.farm_drill.proofs.reporting.unmarked.Given as goal

abbrev pub invariant-loop-entry : goal.invariant-loop-entry
invariant-loop-entry l = l.missing.items ≡ unmarked l.marks (all_leases (take l.entry-index l.history))
