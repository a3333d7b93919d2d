use Rattle.std.proofs.Common.{List, length, ap, ◌∙◌, arith}
use Rattle.farm_entry.specs.History.{order_lines}
use Rattle.farm_entry.specs.Orders.{orders}
use Rattle.farm_entry.specs.declared.entry.Entry.{Entry}
use Rattle.farm_ledger.proofs.Bookings.{carried-counted}
use Rattle.farm_ledger.proofs.register.Register.carried_count.Goals as goal

pub returns : goal.returns
returns c =
    let h = c.self.invariant in
    omega (
      arith,
      c.len.ensures.len,
      c.given.ensures.given,
      ap length (h.orders_are ∙ ap orders c.self.view_is),
      h.given_are ∙ ap (λ (X : List Entry). length (order_lines X)) c.self.view_is,
      carried-counted c.args.self.now,
    )
