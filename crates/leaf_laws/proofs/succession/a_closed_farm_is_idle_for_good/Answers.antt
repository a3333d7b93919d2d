use Rattle.leaf_laws.proofs.Last.{idle-before, nothing-next}
use Rattle.leaf_laws.proofs.succession.a_closed_farm_is_idle_for_good.Goals as goal

pub returns : goal.returns
returns c = record { last = λ H e next closes legal goes. nothing-next H e next closes goes; idle = idle-before }
