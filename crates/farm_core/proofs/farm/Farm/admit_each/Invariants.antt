use Rattle.std.proofs.Common.{◌≡◌, [], length}
use Rattle.farm_core.proofs.Admissions.{AreAdded}
use Rattle.farm_core.proofs.farm.Farm.admit_each.Given as goal

abbrev pub invariant-loop-entry : goal.invariant-loop-entry
invariant-loop-entry l = record {
  none : l.self.ready ≡ [];
  some : AreAdded l.fn.self.history l.fn.entries.items l.rest.items l.self.history;
}

abbrev pub decreases-loop-entry : goal.decreases-loop-entry
decreases-loop-entry l = length l.rest.items
