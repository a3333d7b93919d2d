-- The orders up to this one were carried over.
use Rattle.std.proofs.Common.{◌≡◌, take}
use Rattle.farm_store.specs.Inherited.{inheriting}
use Rattle.farm_store.proofs.founding.inherit.Given as goal

abbrev pub invariant-loop-order : goal.invariant-loop-order
invariant-loop-order l = l.farm.history ≡ inheriting l.fn.settings l.fn.at (take l.order-index l.orders)
