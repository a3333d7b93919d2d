use Rattle.std.proofs.Common.{◌≡◌, ℕ, ◌+◌, Bool, List, [], ◌∷◌, ◌++◌, length, Option, sym, ap, subst, ◌∙◌, arith}
use Rattle.std.specs.Option.{is_some}
use Rattle.farm_rules.specs.Orders.{Ordered}
use Rattle.farm_entry.specs.History.{lease_in, opening_in, order_lines}
use Rattle.farm_entry.specs.Legal.{IsLegal}
use Rattle.farm_entry.specs.Orders.{orders}
use Rattle.farm_entry.specs.declared.entry.Entry.{Entry}
use Rattle.farm_entry.specs.declared.lease.LeasedRun.{LeasedRun}
use Rattle.farm_laws.proofs.Bounds.{entries-bounded}
use Rattle.farm_books.proofs.Entries.{entry-steps}
use Rattle.farm_ledger.specs.Booked.{given_in, with_booking}
use Rattle.farm_ledger.specs.Rows.{AreRows, with_lease, with_row}
use Rattle.farm_ledger.specs.declared.notes.Booking.{Booking}
use Rattle.farm_ledger.specs.declared.notes.Row.{Row}
use Rattle.farm_ledger.proofs.Bookings.{may-book, pushed-given, pushed-orders}
use Rattle.farm_ledger.proofs.Changed.{lease-few, lease-rowed, pushed-rows}
use Rattle.farm_ledger.proofs.register.Register.push.Goals as goal

pub overflow_cast-place : goal.overflow_cast-place
overflow_cast-place c =
    omega (
      arith,
      ap length c.history.ensures.history,
      ap length c.self.view_is,
      entries-bounded c.self.inside.turns c.self.invariant.legal,
    )

pub put_lease-requires-clause-there : goal.put_lease-requires-clause-there
put_lease-requires-clause-there c =
    let H : List Entry = c.self.inside.turns in
    let h = c.self.invariant in
    let step = entry-steps H c.args.self.now c.args.entry h.legal c.self.view_is c.requires in
    lease-rowed H c.args.entry c.reserve.new.self.items c.lease-lease.result h.legal
    (subst (AreRows H) (sym c.reserve.ensures.items) h.rows) step c.lease-lease.ensures

pub put_lease-requires-clause-few : goal.put_lease-requires-clause-few
put_lease-requires-clause-few c =
    let H : List Entry = c.self.inside.turns in
    let h = c.self.invariant in
    lease-few H c.reserve.new.self.items c.lease-lease.result h.legal
    (subst (AreRows H) (sym c.reserve.ensures.items) h.rows)

pub book-requires : goal.book-requires
book-requires c =
    let H : List Entry = c.self.inside.turns in
    let h = c.self.invariant in
    may-book H c.args.entry c.make_room.new.orders c.booking_in-booking.result h.legal
    (entry-steps H c.args.self.now c.args.entry h.legal c.self.view_is c.requires)
    (c.in_ok-make_room.ensures.orders ∙ h.orders_are) (c.in_ok-make_room.ensures.given ∙ h.given_are)
    c.booking_in-booking.ensures c.in_ok-make_room.ensures.room

pub invariant_of-self-2 : goal.invariant_of-self-2
invariant_of-self-2 c =
    let H : List Entry = c.self.inside.turns in
    let e : Entry = c.args.entry in
    let h = c.self.invariant in
    let rows : List Row = c.self.inside.rows.items in
    let L : List Entry = c.history.result.now in
    let step = entry-steps H c.args.self.now e h.legal c.self.view_is c.requires in
    let longer : IsLegal (H ++ e ∷ []) =
    subst (λ (X : List Entry). IsLegal (X ++ e ∷ [])) (sym c.self.view_is) c.requires in
    let is = sym c.in_ok-push.ensures.pushed in
    let at : length L ≡ length H = ap length c.history.ensures.history ∙ ap length (sym c.self.view_is) in
    let made : c.put_row.new.rows.items
    ≡ with_row (with_lease rows (lease_in e.what)) (is_some (opening_in e.what)) (length L) =
    c.put_row.ensures
    ∙ ap (λ (b : Bool). with_row c.put_lease.new.rows.items b (length L)) c.is_opening-is_opening.ensures
    ∙ ap (λ (rs : List Row). with_row rs (is_some (opening_in e.what)) (length L))
    (c.put_lease.ensures.rows
    ∙ ap (λ (rs : List Row). with_lease rs c.lease-lease.result) c.in_ok-reserve.ensures.items
    ∙ ap (λ (x : Option LeasedRun). with_lease rows x) c.lease-lease.ensures) in
    record {
      legal = subst IsLegal is longer;
      rows =
          subst (λ (X : List Entry). AreRows X c.put_row.new.rows.items) is
          (subst (AreRows (H ++ e ∷ [])) (sym made) (pushed-rows H e rows (length L) h.legal h.rows step at));
      orders_are =
          c.book.ensures.orders
          ∙ ap (λ (os : List Ordered). with_booking os c.booking_in-booking.result)
          (c.in_ok-make_room.ensures.orders ∙ h.orders_are)
          ∙ ap (λ (x : Booking). with_booking (orders H) x) c.booking_in-booking.ensures
          ∙ pushed-orders H e
          ∙ ap orders is;
      given_are =
          c.book.ensures.given
          ∙ ap (λ (n : ℕ). n + given_in c.booking_in-booking.result) (c.in_ok-make_room.ensures.given ∙ h.given_are)
          ∙ ap (λ (x : Booking). length (order_lines H) + given_in x) c.booking_in-booking.ensures
          ∙ pushed-given H e
          ∙ ap (λ (X : List Entry). length (order_lines X)) is;
    }
