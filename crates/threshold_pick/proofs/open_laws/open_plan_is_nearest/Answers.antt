use Rattle.threshold_pick.proofs.PlansOverOpen.{length-open_plan, open_pick-is, open_plan_empty, slice_index-open_plan}
use Rattle.threshold_pick.proofs.open_laws.open_plan_is_nearest.Goals as goal

pub returns-clause-width : goal.returns-clause-width
returns-clause-width c = length-open_plan

pub returns-clause-none : goal.returns-clause-none
returns-clause-none c = open_plan_empty

pub returns-clause-each : goal.returns-clause-each
returns-clause-each c = slice_index-open_plan

pub returns-clause-nearest : goal.returns-clause-nearest
returns-clause-nearest c = open_pick-is
