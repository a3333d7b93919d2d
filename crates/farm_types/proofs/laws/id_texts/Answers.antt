use Rattle.farm_types.proofs.IdTexts.{digits-from_no_fault, no_fault-from_digits}
use Rattle.farm_types.proofs.laws.id_texts.Goals as goal

pub returns : goal.returns
returns c text = (digits-from_no_fault text, λ h. no_fault-from_digits text h.0 h.1)
