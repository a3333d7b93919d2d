use Rattle.farm_types.proofs.SameValues.{id_bytes-injective, same_id-Decides}
use Rattle.farm_types.proofs.laws.ids_equal_by_bytes.Goals as goal

pub returns : goal.returns
returns c = record { same = id_bytes-injective; told = same_id-Decides }
