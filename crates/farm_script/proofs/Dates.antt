-- The days that an answer shows have dates.
use Rattle.std.proofs.Common.{◌≡◌, List, refl, subst}
use Rattle.farm_types.specs.declared.moment.Moment.{Moment}
use Rattle.farm_entry.specs.Answer.{IsAnswer}
use Rattle.farm_entry.specs.Decision.{decide}
use Rattle.farm_entry.specs.Legal.{IsLegal}
use Rattle.farm_entry.specs.Playing.{after}
use Rattle.farm_entry.specs.declared.answer.Answer.{Answer}
use Rattle.farm_entry.specs.declared.command.Command.{Command}
use Rattle.farm_entry.specs.declared.entry.Entry.{Entry}
use Rattle.farm_wire.proofs.Answers.{answer-dates}
use Rattle.farm_wire.specs.Answers.{AnswerHasDates}

-- those of the answer to a command, after which the history is legal
pub dated : (H K : List Entry) (q : Command) (m : Moment) (a : Answer) → IsAnswer H (decide H q m) a
    → K ≡ after H (decide H q m) → IsLegal K → AnswerHasDates a
dated H K q m a said is legal = answer-dates H q m (decide H q m) a
    (subst (λ (l : List Entry). IsLegal l) is legal) refl said
