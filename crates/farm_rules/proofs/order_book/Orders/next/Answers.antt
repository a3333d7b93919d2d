use Rattle.std.proofs.Common.{sym}
use Rattle.farm_rules.proofs.EarliestFound.{earliest-free}
use Rattle.farm_rules.proofs.order_book.Orders.next.Goals as goal

pub returns-clause-free : goal.returns-clause-free
returns-clause-free c =
    earliest-free c.args.confirmed.now c.args.self.now.orders c.in-Some.chosen (sym c.in-Some.ensures)
