use Rattle.std.proofs.Common.{List, sym, ap, ◌∙◌}
use Rattle.std.specs.Option.{option_copied}
use Rattle.farm_entry.specs.Orders.{orders}
use Rattle.farm_entry.specs.declared.entry.Entry.{Entry}
use Rattle.farm_ledger.specs.Waiting.{unordered}
use Rattle.farm_ledger.proofs.Served.{unordered-by, waiting-read, waiting-unconfirmed, waiting-unknown}
use Rattle.farm_ledger.proofs.register.Register.waiting.Goals as goal

pub returns-in_default : goal.returns-in_default
returns-in_default c =
    sym (waiting-unknown c.args.self.now c.state.result.now c.args.number c.state.ensures
    (sym c.search.ensures ∙ ap option_copied c.in_default.is))

pub returns-then-not-is_confirmed : goal.returns-then-not-is_confirmed
returns-then-not-is_confirmed c =
    sym (waiting-unconfirmed c.args.self.now c.state.result.now c.args.number c.in-Some.search.now
    c.standing-standing.result c.state.ensures c.in-Some.ensures c.standing-standing.ensures
    (sym c.is_confirmed.ensures ∙ c.if-not-is_confirmed.true))

pub returns-in_default-confirmed_at : goal.returns-in_default-confirmed_at
returns-in_default-confirmed_at c =
    let H : List Entry = c.args.self.now in
    sym (waiting-read H c.state.result.now c.args.number c.in-Some-opening.opening.now c.in-Some.search.now
    c.standing-standing.result c.confirmed_at.result c.state.ensures c.in-Some-opening.ensures.found c.in-Some.ensures
    c.standing-standing.ensures
    c.confirmed_at.ensures
    ∙ ap (unordered (orders H)) c.in_default-confirmed_at.is)

pub returns-then-has_order : goal.returns-then-has_order
returns-then-has_order c =
    let H : List Entry = c.args.self.now in
    sym (waiting-read H c.state.result.now c.args.number c.in-Some-opening.opening.now c.in-Some.search.now
    c.standing-standing.result c.confirmed_at.result c.state.ensures c.in-Some-opening.ensures.found c.in-Some.ensures
    c.standing-standing.ensures
    c.confirmed_at.ensures
    ∙ ap (unordered (orders H)) c.in-Some-confirmed_at.is
    ∙ unordered-by H c.self.inside.orders.orders c.in-Some-confirmed_at.candidate _
    (c.self.invariant.orders_are ∙ ap orders c.self.view_is) (sym c.has_order.ensures ∙ c.if-has_order.true))

pub returns : goal.returns
returns c =
    let H : List Entry = c.args.self.now in
    sym (waiting-read H c.state.result.now c.args.number c.in-Some-opening.opening.now c.in-Some.search.now
    c.standing-standing.result c.confirmed_at.result c.state.ensures c.in-Some-opening.ensures.found c.in-Some.ensures
    c.standing-standing.ensures
    c.confirmed_at.ensures
    ∙ ap (unordered (orders H)) c.in-Some-confirmed_at.is
    ∙ unordered-by H c.self.inside.orders.orders c.in-Some-confirmed_at.candidate _
    (c.self.invariant.orders_are ∙ ap orders c.self.view_is) (sym c.has_order.ensures ∙ c.if-has_order.false))
