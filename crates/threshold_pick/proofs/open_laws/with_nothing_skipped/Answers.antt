use Rattle.threshold_pick.proofs.PlansOverOpen.{open_pick-nothing_skipped, open_plan-nothing_skipped}
use Rattle.threshold_pick.proofs.open_laws.with_nothing_skipped.Goals as goal

pub returns-clause-pick : goal.returns-clause-pick
returns-clause-pick c = open_pick-nothing_skipped

pub returns-clause-plan : goal.returns-clause-plan
returns-clause-plan c = open_plan-nothing_skipped
