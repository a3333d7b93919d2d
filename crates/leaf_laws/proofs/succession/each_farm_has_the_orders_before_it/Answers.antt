use Rattle.farm_laws.proofs.CarriedOver.{orders-split}
use Rattle.leaf_laws.proofs.Chains.{orders-all}
use Rattle.leaf_laws.proofs.succession.each_farm_has_the_orders_before_it.Goals as goal

pub returns : goal.returns
returns c = record { one = orders-split; all = orders-all }
