use Rattle.leaf_laws.proofs.Digits.{id-again, id-lower}
use Rattle.leaf_laws.proofs.ids.ids_are_written_in_lower_case.Goals as goal

pub returns : goal.returns
returns c = record { lower = id-lower; again = id-again }
