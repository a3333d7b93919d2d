use Rattle.weight_exact.proofs.Shares.{total_positive}
use Rattle.leaf_laws.proofs.weights.total_is_positive.Goals as goal

pub returns : goal.returns
returns c = total_positive
