use Rattle.std.proofs.Common.{◌∙◌, ◌-◌, arith}
use Rattle.search_books.proofs.Lists.{struck-apart}
use Rattle.search_books.proofs.active.ActiveOrder.close.Goals as goal

pub invariant_of-self : goal.invariant_of-self
invariant_of-self c = record {
  same_count = omega (
    arith,
    c.discard.ensures.count,
    c.close.ensures.count,
    c.close-2.ensures.count,
    c.self.invariant.same_count,
  );
  apart = struck-apart c.self.inside.never.order c.self.inside.leased.order c.close.new.self.order
      c.close-2.new.self.order (c.count-search.result - 1)
      (c.close.ensures.order ∙ c.discard.ensures.order) c.close-2.ensures.order c.self.invariant.apart;
}
