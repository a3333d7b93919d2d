use Rattle.std.proofs.Common.{length}
use Rattle.plain_farm.proofs.orders.+earliest.Given as goal

abbrev pub decreases-earliest : goal.decreases-earliest
decreases-earliest l = length l.searches.now
