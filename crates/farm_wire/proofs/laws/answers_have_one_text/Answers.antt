use Rattle.farm_entry.specs.Decision.{decide}
use Rattle.farm_wire.proofs.Answers.{answer-text}
use Rattle.farm_wire.proofs.laws.answers_have_one_text.Goals as goal

pub returns : goal.returns
returns c H q m a is = answer-text H (decide H q m) a is
