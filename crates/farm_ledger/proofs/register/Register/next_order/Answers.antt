use Rattle.std.proofs.Common.{List, Some, length, ap, ◌∙◌, arith}
use Rattle.farm_types.specs.Moment.{moment_ms}
use Rattle.farm_entry.specs.History.{order_lines}
use Rattle.farm_entry.specs.Orders.{orders}
use Rattle.farm_entry.specs.declared.entry.Entry.{Entry}
use Rattle.farm_ledger.proofs.Bookings.{given-few}
use Rattle.farm_ledger.proofs.Earliest.{next-order}
use Rattle.farm_ledger.proofs.register.Register.next_order.Goals as goal

pub next-requires : goal.next-requires
next-requires c =
    let h = c.self.invariant in omega (arith, h.given_are, given-few c.self.inside.turns h.legal)

pub next-requires-in-Some : goal.next-requires-in-Some
next-requires-in-Some c =
    let h = c.self.invariant in omega (arith, h.given_are, given-few c.self.inside.turns h.legal)

pub returns-in-Some : goal.returns-in-Some
returns-in-Some c =
    next-order c.args.self.now c.history-history.result.now c.self.inside.orders.orders c.self.inside.orders.given
    c.day_in-day.result c.daily_limit-limit.result (moment_ms c.args.moment) c.args.first (Some c.in-Some.candidate)
    c.next-in-Some.result c.history-history.ensures.history (c.self.invariant.orders_are ∙ ap orders c.self.view_is)
    (c.self.invariant.given_are ∙ ap (λ (X : List Entry). length (order_lines X)) c.self.view_is) c.requires
    c.in-Some.is
    c.next-in-Some.ensures.next c.day_in-day.ensures c.daily_limit-limit.ensures
