use Rattle.worker_core.proofs.Reports.{noted-all, noted-taken}
use Rattle.worker_core.proofs.laws.leases_are_reported.Goals as goal

pub returns : goal.returns
returns c = record { most = noted-taken; all = noted-all }
