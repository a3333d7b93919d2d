-- What a store answers to one command, where nothing is pending.
use Rattle.std.specs.Prelude.{◌≡◌, List, Result, Ok, Err}
use Rattle.farm_types.specs.declared.moment.Moment.{Moment}
use Rattle.farm_entry.specs.Decision.{decide}
use Rattle.farm_entry.specs.Playing.{after}
use Rattle.farm_entry.specs.declared.command.Command.{Command}
use Rattle.farm_entry.specs.declared.decision.Decision.TheVariants.{Refuse}
use Rattle.farm_entry.specs.declared.entry.Entry.{Entry}
use Rattle.farm_entry.specs.declared.refusal.Refusal.{Refusal}
use Rattle.farm_entry.specs.declared.reply.Reply.{Reply}
use Rattle.farm_entry.specs.Answer.{IsAnswer}
use Rattle.farm_entry.specs.declared.answer.Answer.TheVariants as answer

-- the history goes on as the command is decided, and the reply is that of the decision
pub record IsDone (H : List Entry) (command : Command) (at : Moment) (reply : Reply) (new : List Entry) : Type 0 where
  pub answers : IsAnswer H (decide H command at) (answer.Done reply)
  pub history : new ≡ after H (decide H command at)

-- the command is refused, and the history stays
pub record IsRefused (H : List Entry) (command : Command) (at : Moment) (cause : Refusal)
    (new : List Entry) : Type 0 where
  pub decided : decide H command at ≡ Refuse cause
  pub history : new ≡ H

abbrev pub AskSays : List Entry → Command → Moment → Result Reply Refusal → List Entry → Type 0
AskSays H command at (Ok reply) new = IsDone H command at reply new
AskSays H command at (Err cause) new = IsRefused H command at cause new
