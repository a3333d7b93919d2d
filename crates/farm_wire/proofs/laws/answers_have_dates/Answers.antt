use Rattle.std.proofs.Common.{refl}
use Rattle.farm_entry.specs.Decision.{decide}
use Rattle.farm_wire.proofs.Answers.{answer-dates}
use Rattle.farm_wire.proofs.laws.answers_have_dates.Goals as goal

pub returns : goal.returns
returns c H q m a legal is = answer-dates H q m (decide H q m) a legal refl is
