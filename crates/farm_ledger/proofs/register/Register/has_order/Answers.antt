use Rattle.std.proofs.Common.{List, ap, ◌∙◌}
use Rattle.farm_rules.specs.Orders.{Ordered, has_order}
use Rattle.farm_entry.specs.Orders.{orders}
use Rattle.farm_ledger.proofs.register.Register.has_order.Goals as goal

pub returns : goal.returns
returns c =
    c.has_order.ensures
    ∙ ap (λ (os : List Ordered). has_order os c.args.commit) (c.self.invariant.orders_are ∙ ap orders c.self.view_is)
