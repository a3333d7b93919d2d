use Rattle.farm_types.proofs.IdTexts.{id_digits-back}
use Rattle.farm_types.proofs.laws.digits_name_the_id.Goals as goal

pub returns : goal.returns
returns c = record { taken = λ id. (id_digits-back id).0; back = λ id. (id_digits-back id).1 }
