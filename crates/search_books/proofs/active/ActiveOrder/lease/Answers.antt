use Rattle.std.proofs.Common.{arith}
use Rattle.search_books.proofs.Lists.{strike-apart, snoc-apart}
use Rattle.search_books.proofs.active.ActiveOrder.lease.Goals as goal

pub invariant_of-self : goal.invariant_of-self
invariant_of-self c = record {
  same_count = omega (
    arith,
    c.discard.ensures.count,
    c.discard-2.ensures.count,
    c.push.ensures.count,
    c.self.invariant.same_count,
  );
  apart = snoc-apart c.discard.new.self.order c.discard-2.new.self.order c.push.new.self.order c.args.search
      c.discard.ensures.gone c.push.ensures.order
      (strike-apart c.self.inside.never.order c.self.inside.leased.order c.discard.new.self.order
      c.discard-2.new.self.order c.args.search
      c.discard.ensures.order c.discard.ensures.gone c.discard-2.ensures.order c.self.invariant.apart);
}
