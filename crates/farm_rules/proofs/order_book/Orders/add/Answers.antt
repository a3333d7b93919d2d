use Rattle.std.proofs.Common.{◌≡◌, ◌∙◌, false, length, ap, refl, sym, subst, arith}
use Rattle.farm_rules.specs.Orders.{has_order, orders_of}
use Rattle.farm_rules.specs.Book.{Book, IsOnePerCommit, ordered}
use Rattle.farm_rules.specs.OrderChains.{orders_in}
use Rattle.farm_rules.proofs.OrderDays.{orders_of-same}
use Rattle.farm_rules.proofs.ChainItems.{IsOnePerCommit-push, length-orders_in}
use Rattle.farm_rules.proofs.order_book.Orders.add.Goals as goal

pub invariant_of-self : goal.invariant_of-self
invariant_of-self c =
    let items = c.self.inside.items.items in
    let linked = c.link.ensures in
    let lacks : has_order (orders_in items) c.args.draft.commit ≡ false =
    ap (λ (book : Book). has_order book.orders c.args.draft.commit) c.self.view_is ∙ c.requires.free in
    record {
      size = λ some. omega (arith, c.self.invariant.size (omega (arith, some, linked.capacity)), linked.heads);
      fits = omega (arith, linked.len, linked.capacity, ap (λ (book : Book). book.room) c.self.view_is, c.requires.room);
      linked = linked.linked;
      apart = subst IsOnePerCommit (sym linked.orders)
          (IsOnePerCommit-push (orders_in items) c.args.draft.commit c.args.draft.day c.self.invariant.apart lacks);
      few = omega (
        arith,
        linked.len,
        length-orders_in items,
        ap (λ (book : Book). length book.orders) c.self.view_is,
        c.requires.few,
      );
      given_here = omega (arith, linked.len, c.self.invariant.given_here);
      counted = omega (
        arith,
        c.count-before.ensures,
        ap (λ (book : Book). orders_of c.args.draft.day book.orders) c.self.view_is,
        orders_of-same c.args.draft.day (orders_in items) (ordered c.args.draft.commit c.args.draft.day) refl,
        ap (orders_of c.args.draft.day) linked.orders,
      );
    }
