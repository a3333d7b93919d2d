use Rattle.farm_laws.proofs.OrdersOnce.{commits-once, orders-once}
use Rattle.farm_laws.proofs.histories.each_commit_is_ordered_once.Goals as goal

pub returns : goal.returns
returns c = record { given = commits-once; carried = orders-once }
