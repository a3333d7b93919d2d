use Rattle.std.proofs.Common.{◌≡◌, ◌++◌, drop}
use Rattle.farm_wire.proofs.Written.{goes_on}
use Rattle.farm_wire.proofs.text.JsonText.put_more_positions.Given as goal

abbrev pub invariant-loop-position : goal.invariant-loop-position
invariant-loop-position l = l.self ++ goes_on (drop l.position-index l.positions) ≡ l.fn.self ++ goes_on l.positions
