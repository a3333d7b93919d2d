use Rattle.std.proofs.Common.{sym, ◌∙◌}
use Rattle.search_books.proofs.Lists.{strike-absent}
use Rattle.search_books.proofs.ring.Ring.discard.Goals as goal

pub returns-else-contains-clause-order : goal.returns-else-contains-clause-order
returns-else-contains-clause-order c =
    sym (strike-absent c.args.number c.args.self.now.order (sym c.contains.ensures.has ∙ c.if-contains.false))
