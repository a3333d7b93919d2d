use Rattle.farm_types.proofs.NameTexts.{IsName-from_no_fault, no_fault-from_IsName}
use Rattle.farm_types.proofs.laws.name_texts.Goals as goal

pub returns : goal.returns
returns c text = (IsName-from_no_fault text, no_fault-from_IsName text)
