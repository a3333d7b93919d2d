use Rattle.leaf_laws.proofs.PlainTable.{weight-plain, basis_points-plain, IsReached-plain, reached-plain, plan-plain}
use Rattle.leaf_laws.proofs.weights.plain_table_gives_the_same.Goals as goal

pub returns-clause-weights : goal.returns-clause-weights
returns-clause-weights c = weight-plain

pub returns-clause-shares : goal.returns-clause-shares
returns-clause-shares c = basis_points-plain

pub returns-clause-at_bar : goal.returns-clause-at_bar
returns-clause-at_bar c = IsReached-plain

pub returns-clause-computed : goal.returns-clause-computed
returns-clause-computed c = reached-plain

pub returns-clause-plans : goal.returns-clause-plans
returns-clause-plans c = plan-plain
