use Rattle.farm_types.proofs.SameValues.{moment_ms-injective}
use Rattle.farm_types.proofs.laws.moments_equal_by_number.Goals as goal

pub returns : goal.returns
returns c = moment_ms-injective
