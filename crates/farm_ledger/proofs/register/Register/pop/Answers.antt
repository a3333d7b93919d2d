use Rattle.std.proofs.Common.{◌≡◌, ◌-◌, ◌<◌, Bool, List, [], ◌∷◌, ◌++◌, length, take, Option, refl, sym, ap, subst, ◌∙◌}
use Rattle.std.specs.Option.{is_some}
use Rattle.farm_rules.specs.Orders.{Ordered}
use Rattle.farm_entry.specs.History.{lease_in, opening_in, order_lines, ordered_in}
use Rattle.farm_entry.specs.Legal.{IsLegal}
use Rattle.farm_entry.specs.Orders.{orders}
use Rattle.farm_entry.specs.declared.entry.Entry.{Entry}
use Rattle.farm_entry.specs.declared.lease.LeasedRun.{LeasedRun}
use Rattle.farm_books.proofs.Entries.{IsLast}
use Rattle.farm_state.proofs.Popping.{end-at}
use Rattle.farm_ledger.specs.Booked.{one_if, without_order}
use Rattle.farm_ledger.specs.Rows.{AreRows, without_lease, without_row}
use Rattle.farm_ledger.specs.declared.notes.Row.{Row}
use Rattle.farm_ledger.proofs.Bookings.{popped-given, popped-orders, popped-some}
use Rattle.farm_ledger.proofs.Changed.{lease-counted, lease-still_rowed, popped-rows}
use Rattle.farm_ledger.proofs.register.Register.pop.Goals as goal

pub take_lease-requires-clause-there : goal.take_lease-requires-clause-there
take_lease-requires-clause-there c =
    let H : List Entry = c.self.inside.turns in
    let h = c.self.invariant in
    let L : List Entry = c.history-history.result.now in
    let e : Entry = c.index-history-history.result in
    let rows : List Row = c.self.inside.rows.items in
    let l = end-at H L e (length L - 1) h.legal (subst (λ (X : List Entry). 1 < length X) (sym c.self.view_is) c.requires)
    (c.history-history.ensures.history ∙ sym c.self.view_is) refl c.index-history-history.is in
    lease-still_rowed (take (length H - 1) H) e rows c.lease-lease.result l.legal
    (subst (λ (X : List Entry). AreRows X rows) l.split h.rows) l.step
    (c.lease-lease.ensures ∙ sym (ap (λ (x : Entry). lease_in x.what) c.index-history-history.is))

pub take_lease-requires-clause-counted : goal.take_lease-requires-clause-counted
take_lease-requires-clause-counted c =
    let H : List Entry = c.self.inside.turns in
    let h = c.self.invariant in
    let L : List Entry = c.history-history.result.now in
    let e : Entry = c.index-history-history.result in
    let rows : List Row = c.self.inside.rows.items in
    let l = end-at H L e (length L - 1) h.legal (subst (λ (X : List Entry). 1 < length X) (sym c.self.view_is) c.requires)
    (c.history-history.ensures.history ∙ sym c.self.view_is) refl c.index-history-history.is in
    lease-counted (take (length H - 1) H) e rows c.lease-lease.result l.legal
    (subst (λ (X : List Entry). AreRows X rows) l.split h.rows) l.step
    (c.lease-lease.ensures ∙ sym (ap (λ (x : Entry). lease_in x.what) c.index-history-history.is))

pub take_order-requires : goal.take_order-requires
take_order-requires c =
    let H : List Entry = c.self.inside.turns in
    let h = c.self.invariant in
    let L : List Entry = c.history-history.result.now in
    let e : Entry = c.index-history-history.result in
    let read = c.index-history-history.is in
    let l = end-at H L e (length L - 1) h.legal
    (subst (λ (X : List Entry). 1 < length X) (sym c.self.view_is) c.requires)
    (c.history-history.ensures.history ∙ sym c.self.view_is) refl read in
    let orders_one : c.is_some-is_order.result ≡ is_some (ordered_in e.what) =
    c.is_some-is_order.ensures ∙ ap (λ (x : Option Ordered). is_some x) c.ordered.ensures
    ∙ sym (ap (λ (x : Entry). is_some (ordered_in x.what)) read) in
    λ is_order.
    subst (λ (os : List Ordered). 0 < length os) (sym (h.orders_are ∙ ap orders l.split))
    (popped-some (take (length H - 1) H) e (sym orders_one ∙ is_order))

pub invariant_of-self : goal.invariant_of-self
invariant_of-self c =
    let H : List Entry = c.self.inside.turns in
    let G : List Entry = take (length H - 1) H in
    let h = c.self.invariant in
    let L : List Entry = c.history-history.result.now in
    let e : Entry = c.index-history-history.result in
    let rows : List Row = c.self.inside.rows.items in
    let read = c.index-history-history.is in
    let l : IsLast H G e = end-at H L e (length L - 1) h.legal
    (subst (λ (X : List Entry). 1 < length X) (sym c.self.view_is) c.requires)
    (c.history-history.ensures.history ∙ sym c.self.view_is) refl read in
    let gone : G ≡ c.pop.new.self = sym c.pop.ensures in
    let are : AreRows (G ++ e ∷ []) rows = subst (λ (X : List Entry). AreRows X rows) l.split h.rows in
    let lease : c.lease-lease.result ≡ lease_in e.what =
    c.lease-lease.ensures ∙ sym (ap (λ (x : Entry). lease_in x.what) read) in
    let opens : c.is_opening-is_opening.result ≡ is_some (opening_in e.what) =
    c.is_opening-is_opening.ensures ∙ sym (ap (λ (x : Entry). is_some (opening_in x.what)) read) in
    let orders_one : c.is_some-is_order.result ≡ is_some (ordered_in e.what) =
    c.is_some-is_order.ensures ∙ ap (λ (x : Option Ordered). is_some x) c.ordered.ensures
    ∙ sym (ap (λ (x : Entry). is_some (ordered_in x.what)) read) in
    let made : c.take_row.new.rows.items ≡ without_row (without_lease rows (lease_in e.what)) (is_some (opening_in e.what)) =
    c.take_row.ensures
    ∙ ap (without_row c.take_lease.new.rows.items) opens
    ∙ ap (λ (rs : List Row). without_row rs (is_some (opening_in e.what)))
    (c.take_lease.ensures ∙ ap (λ (x : Option LeasedRun). without_lease rows x) lease) in
    let all : c.self.inside.orders.orders ≡ orders (G ++ e ∷ []) = h.orders_are ∙ ap orders l.split in
    record {
      legal = subst IsLegal gone l.legal;
      rows =
          subst (λ (X : List Entry). AreRows X c.take_row.new.rows.items) gone
          (subst (AreRows G) (sym made) (popped-rows G e rows l.legal are l.step));
      orders_are =
          c.take_order.ensures.orders
          ∙ ap (without_order c.self.inside.orders.orders) orders_one
          ∙ popped-orders G e c.self.inside.orders.orders all
          ∙ ap orders gone;
      given_are =
          c.take_order.ensures.given
          ∙ ap (λ (b : Bool). c.self.inside.orders.given - one_if b) orders_one
          ∙ popped-given G e c.self.inside.orders.given l.step
          (h.given_are ∙ ap (λ (X : List Entry). length (order_lines X)) l.split)
          ∙ ap (λ (X : List Entry). length (order_lines X)) gone;
    }
