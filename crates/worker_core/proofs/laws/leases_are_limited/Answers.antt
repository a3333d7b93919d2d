use Rattle.worker_core.proofs.Leases.{at-most, limit-spent}
use Rattle.worker_core.proofs.laws.leases_are_limited.Goals as goal

pub returns : goal.returns
returns c = record { most = at-most; limit = limit-spent }
