use Rattle.std.proofs.Common.{arith}
use Rattle.farm_laws.proofs.Bounds.{openings-bounded}
use Rattle.leaf_laws.proofs.Culprits.{few-orders, searches-differ}
use Rattle.leaf_laws.proofs.orders.orders_are_few.Goals as goal

pub returns : goal.returns
returns c = record {
  one_for_a_search = searches-differ;
  no_more_than_searches = few-orders;
  bounded = λ H legal. omega (arith, few-orders H legal, openings-bounded H legal);
}
