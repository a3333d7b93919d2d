use Rattle.std.proofs.Common.{◌≡◌, drop}
use Rattle.farm_rules.specs.Orders.{candidates, earliest}
use Rattle.farm_rules.specs.Earlier.{earlier_of}
use Rattle.farm_rules.proofs.order_book.Orders.earliest.Given as goal

-- the earliest of all is that of the best so far and the candidates that are left
abbrev pub invariant-loop-candidate : goal.invariant-loop-candidate
invariant-loop-candidate l =
    earlier_of l.best (earliest (candidates (drop l.candidate-index l.confirmed) l.self.orders))
    ≡ earliest (candidates l.confirmed l.self.orders)
