use Rattle.weight_exact.proofs.Plans.{nearest-scaled}
use Rattle.weight_exact.proofs.Shares.{at_bar-scaled}
use Rattle.leaf_laws.proofs.Shares.{share-scaled}
use Rattle.leaf_laws.proofs.weights.only_parts_of_the_total_count.Goals as goal

pub returns-clause-shares : goal.returns-clause-shares
returns-clause-shares c = share-scaled

pub returns-clause-bar : goal.returns-clause-bar
returns-clause-bar c = λ t u v whole w other some_whole some_other same. at_bar-scaled t u v whole w other some_whole some_other same

pub returns-clause-nearest : goal.returns-clause-nearest
returns-clause-nearest c = nearest-scaled
