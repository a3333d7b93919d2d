use Rattle.std.proofs.Common.{ap, subst, arith}
use Rattle.farm_rules.specs.Orders.{orders_of}
use Rattle.farm_rules.specs.Book.{IsOnePerCommit, ordered}
use Rattle.farm_rules.specs.OrderChains.{orders_in}
use Rattle.farm_rules.proofs.OrderDays.{orders_of-more}
use Rattle.farm_rules.proofs.ChainItems.{IsOnePerCommit-front}
use Rattle.farm_rules.proofs.order_book.Orders.take_last.Goals as goal

pub overflow_sub-self : goal.overflow_sub-self
overflow_sub-self c =
    let last = c.unlink_last-last.result in
    omega (
      arith,
      c.from.ensures,
      c.self.invariant.counted,
      ap (orders_of c.self.inside.last_day) c.unlink_last-last.ensures.orders,
      orders_of-more c.self.inside.last_day (orders_in c.unlink_last-last.new.items.items)
          (ordered last.commit last.day),
    )

pub invariant_of-self : goal.invariant_of-self
invariant_of-self c =
    let last = c.unlink_last-last.result in
    let left = c.unlink_last-last.ensures in
    record {
      size = λ some. omega (arith, c.self.invariant.size (omega (arith, some, left.capacity)), left.heads);
      fits = omega (arith, left.len, left.capacity, c.self.invariant.fits);
      linked = left.linked;
      apart = IsOnePerCommit-front (orders_in c.unlink_last-last.new.items.items) (ordered last.commit last.day)
          (subst IsOnePerCommit left.orders c.self.invariant.apart);
      few = omega (arith, left.len, c.self.invariant.few);
      given_here = omega (arith, left.len, c.saturating_sub-self-inside.ensures, c.self.invariant.given_here);
      counted = omega (
        arith,
        c.from.ensures,
        c.self.invariant.counted,
        ap (orders_of c.self.inside.last_day) left.orders,
        orders_of-more c.self.inside.last_day (orders_in c.unlink_last-last.new.items.items)
            (ordered last.commit last.day),
      );
    }
