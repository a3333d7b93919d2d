use Rattle.threshold_pick.proofs.Plans.{IsPick-pick, ArePicks-plan}
use Rattle.threshold_pick.proofs.laws.picks_are_the_plan.Goals as goal

pub returns-clause-pick : goal.returns-clause-pick
returns-clause-pick c = IsPick-pick

pub returns-clause-plan : goal.returns-clause-plan
returns-clause-plan c = ArePicks-plan
