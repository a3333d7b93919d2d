use Rattle.leaf_laws.proofs.Culprits.{order-for_culprit}
use Rattle.leaf_laws.proofs.orders.orders_are_for_confirmed_culprits.Goals as goal

pub returns : goal.returns
returns c = order-for_culprit
