use Rattle.leaf_laws.proofs.Adding.{orders-confirmed}
use Rattle.leaf_laws.proofs.totals.orders_are_at_most_the_confirmed_searches.Goals as goal

pub returns : goal.returns
returns c = orders-confirmed
