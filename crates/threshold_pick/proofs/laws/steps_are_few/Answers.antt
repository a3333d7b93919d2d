use Rattle.threshold_pick.proofs.Costs.{digits_and_two}
use Rattle.threshold_pick.proofs.laws.steps_are_few.Goals as goal

pub returns : goal.returns
returns c = digits_and_two
