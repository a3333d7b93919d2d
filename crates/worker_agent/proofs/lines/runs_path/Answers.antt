use Rattle.std.proofs.Common.{refl}
use Rattle.worker_agent.specs.Requests.{runs_path}
use Rattle.worker_agent.proofs.lines.runs_path.Goals as goal

pub returns : goal.returns
unfolding runs_path
returns c = refl
