use Rattle.leaf_laws.proofs.Leases.{stays-closed}
use Rattle.leaf_laws.proofs.outstanding.expired_leases_stay_expired.Goals as goal

pub returns : goal.returns
returns c = stays-closed
