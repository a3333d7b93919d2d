use Rattle.std.proofs.Common.{ap, ◌∙◌, ◌≡◌, false, arith}
use Rattle.search_books.specs.Order.{has}
use Rattle.search_books.specs.Active.{Active}
use Rattle.search_books.proofs.Lists.{behind-apart, apart-behind}
use Rattle.search_books.proofs.active.ActiveOrder.put_back.Goals as goal

pub invariant_of-self : goal.invariant_of-self
invariant_of-self c = record {
  same_count = omega (arith, c.discard.ensures.count, c.insert.ensures.count, c.self.invariant.same_count);
  apart = behind-apart c.self.inside.never.order c.self.inside.leased.order c.insert.new.self.order
      c.discard.new.self.order c.args.prior c.args.search
      c.insert.ensures.order c.discard.ensures.order c.discard.ensures.gone c.self.invariant.apart;
}

pub invariant_of-self-else-fresh : goal.invariant_of-self-else-fresh
invariant_of-self-else-fresh c =
    let absent : has c.args.search c.self.inside.never.order ≡ false =
    ap (λ (a : Active). has c.args.search a.never) c.self.view_is ∙ c.requires.absent in
    record {
      same_count = omega (
        arith,
        c.discard.ensures.count,
        c.insert-else-fresh.ensures.count,
        c.self.invariant.same_count,
      );
      apart = apart-behind c.self.inside.never.order c.self.inside.leased.order c.discard.new.self.order
          c.insert-else-fresh.new.self.order c.args.prior c.args.search
          absent c.discard.ensures.order c.insert-else-fresh.ensures.order c.self.invariant.apart;
    }
