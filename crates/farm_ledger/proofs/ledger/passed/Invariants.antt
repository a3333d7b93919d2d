use Rattle.std.proofs.Common.{◌-◌}
use Rattle.farm_ledger.specs.Waiting.{IsServed}
use Rattle.farm_ledger.proofs.ledger.passed.Given as goal

-- none of the searches up to here waits
abbrev pub invariant-loop-at : goal.invariant-loop-at
invariant-loop-at l = IsServed l.register l.at

abbrev pub decreases-loop-at : goal.decreases-loop-at
decreases-loop-at l = l.count - l.at
