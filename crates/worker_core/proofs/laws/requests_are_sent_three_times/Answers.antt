use Rattle.worker_core.proofs.Leases.{lost-thrice}
use Rattle.worker_core.proofs.laws.requests_are_sent_three_times.Goals as goal

pub returns : goal.returns
returns c = lost-thrice
