use Rattle.leaf_laws.proofs.Caused.{held-repeated, repeated-held}
use Rattle.leaf_laws.proofs.repeats.repeats_are_of_the_same_command.Goals as goal

pub returns : goal.returns
returns c = λ H q m place legal. (repeated-held H q m place legal, held-repeated H q m place legal)
