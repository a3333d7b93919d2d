use Rattle.std.proofs.Common.{◌≡◌, ◌++◌, length}
use Rattle.farm_wire.proofs.Written.{goes_on}
use Rattle.farm_wire.proofs.text.JsonText.put_more.Given as goal

abbrev pub invariant-chunks : goal.invariant-chunks
invariant-chunks l = l.self ++ goes_on l.left ≡ l.fn.self ++ goes_on l.numbers

abbrev pub decreases-chunks : goal.decreases-chunks
decreases-chunks l = length l.left
