use Rattle.std.proofs.Common.{refl}
use Rattle.worker_agent.specs.Requests.{lease_path}
use Rattle.worker_agent.proofs.lines.lease_path.Goals as goal

pub returns : goal.returns
unfolding lease_path
returns c = refl
