use Rattle.std.proofs.Common.{◌≡◌, drop}
use Rattle.farm_rules.specs.Orders.{has_order}
use Rattle.plain_farm.proofs.orders.has_order.Given as goal

abbrev pub invariant-loop-order : goal.invariant-loop-order
invariant-loop-order l = has_order (drop l.order-index l.orders) l.commit ≡ has_order l.orders l.commit
