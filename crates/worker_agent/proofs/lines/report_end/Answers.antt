use Rattle.std.proofs.Common.{refl}
use Rattle.worker_agent.specs.Requests.{report_end}
use Rattle.worker_agent.proofs.lines.report_end.Goals as goal

pub returns : goal.returns
unfolding report_end
returns c = refl
