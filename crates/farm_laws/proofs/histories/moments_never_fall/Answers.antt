use Rattle.farm_laws.proofs.Moments.{moments-in_order}
use Rattle.farm_laws.proofs.histories.moments_never_fall.Goals as goal

pub returns : goal.returns
returns c = moments-in_order
