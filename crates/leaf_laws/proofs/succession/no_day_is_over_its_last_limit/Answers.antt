use Rattle.leaf_laws.proofs.Chains.{day-limited}
use Rattle.leaf_laws.proofs.succession.no_day_is_over_its_last_limit.Goals as goal

pub returns : goal.returns
returns c = day-limited
