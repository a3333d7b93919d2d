use Rattle.weight_exact.proofs.Shares.{IsReached_once, IsReached-from_some, reached-some, unreached-from_none, reached-none}
use Rattle.leaf_laws.proofs.weights.at_most_one_reaches_the_bar.Goals as goal

pub returns-clause-one : goal.returns-clause-one
returns-clause-one c = IsReached_once

pub returns-clause-computed : goal.returns-clause-computed
returns-clause-computed c = λ s runs i above some. (IsReached-from_some s runs i, reached-some s runs i above some)

pub returns-clause-none_computed : goal.returns-clause-none_computed
returns-clause-none_computed c = λ s runs. (unreached-from_none s runs, reached-none s runs)
