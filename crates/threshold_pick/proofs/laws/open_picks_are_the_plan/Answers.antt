use Rattle.threshold_pick.proofs.OpenPlans.{open_pick_in-open_pick, open_plan_in-open_plan}
use Rattle.threshold_pick.proofs.laws.open_picks_are_the_plan.Goals as goal

pub returns-clause-pick : goal.returns-clause-pick
returns-clause-pick c = open_pick_in-open_pick

pub returns-clause-plan : goal.returns-clause-plan
returns-clause-plan c = open_plan_in-open_plan
