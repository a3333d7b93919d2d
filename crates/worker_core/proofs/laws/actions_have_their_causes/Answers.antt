use Rattle.worker_core.proofs.Origins.{step-origin}
use Rattle.worker_core.proofs.laws.actions_have_their_causes.Goals as goal

pub returns : goal.returns
returns c = step-origin
