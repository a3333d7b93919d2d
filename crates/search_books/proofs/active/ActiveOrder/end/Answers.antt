use Rattle.std.proofs.Common.{arith}
use Rattle.search_books.proofs.Lists.{strike-apart}
use Rattle.search_books.proofs.active.ActiveOrder.end.Goals as goal

pub invariant_of-self : goal.invariant_of-self
invariant_of-self c = record {
  same_count = omega (arith, c.discard.ensures.count, c.discard-2.ensures.count, c.self.invariant.same_count);
  apart = strike-apart c.self.inside.never.order c.self.inside.leased.order c.discard.new.self.order
      c.discard-2.new.self.order c.args.search
      c.discard.ensures.order c.discard.ensures.gone c.discard-2.ensures.order c.self.invariant.apart;
}
