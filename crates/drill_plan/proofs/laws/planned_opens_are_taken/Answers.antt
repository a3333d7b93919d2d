use Rattle.drill_plan.proofs.Taken.{taken}
use Rattle.drill_plan.proofs.laws.planned_opens_are_taken.Goals as goal

pub returns : goal.returns
returns c H before start few = taken H before start few
