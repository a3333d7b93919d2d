use Rattle.threshold_pick.proofs.Blocks.{is_hidden_in-is_hidden}
use Rattle.threshold_pick.proofs.laws.hidden_hypotheses_are_told.Goals as goal

pub returns : goal.returns
returns c = is_hidden_in-is_hidden
