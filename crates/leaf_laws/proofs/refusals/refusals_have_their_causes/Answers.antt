use Rattle.leaf_laws.proofs.Caused.{caused-refused, refused-caused}
use Rattle.leaf_laws.proofs.refusals.refusals_have_their_causes.Goals as goal

pub returns : goal.returns
returns c = λ H q m r legal. (refused-caused H q m r legal, caused-refused H q m r legal)
