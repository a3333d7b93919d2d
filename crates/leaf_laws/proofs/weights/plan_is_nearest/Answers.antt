use Rattle.weight_exact.proofs.Plans.{IsNearest_once}
use Rattle.leaf_laws.proofs.Plans.{length-plan, slice_index-plan, IsNearest-pick}
use Rattle.leaf_laws.proofs.weights.plan_is_nearest.Goals as goal

pub returns-clause-width : goal.returns-clause-width
returns-clause-width c = length-plan

pub returns-clause-each : goal.returns-clause-each
returns-clause-each c = slice_index-plan

pub returns-clause-nearest : goal.returns-clause-nearest
returns-clause-nearest c = IsNearest-pick

pub returns-clause-one : goal.returns-clause-one
returns-clause-one c = IsNearest_once
