-- What a farm answers to a command, as the text of what the command comes to.
use Rattle.std.proofs.Common.{◌≡◌, ◌++◌, ◌∷◌, List, [], length, sym, ap, ◌∙◌}
use Rattle.serde_json.specs.Written.{compact_text}
use Rattle.farm_types.specs.declared.moment.Moment.{Moment}
use Rattle.farm_entry.specs.Answer.{IsAnswer}
use Rattle.farm_entry.specs.Decision.{decide}
use Rattle.farm_entry.specs.Legal.{IsLegal}
use Rattle.farm_entry.specs.Playing.{after}
use Rattle.farm_entry.specs.declared.answer.Answer.{Answer}
use Rattle.farm_entry.specs.declared.answer.Answer.TheVariants.{Done, Refused}
use Rattle.farm_entry.specs.declared.command.Command.{Command}
use Rattle.farm_entry.specs.declared.decision.Decision.{Decision}
use Rattle.farm_entry.specs.declared.decision.Decision.TheVariants.{Refuse, Repeat, Show, New}
use Rattle.farm_entry.specs.declared.entry.Entry.{Entry}
use Rattle.farm_entry.specs.declared.refusal.Refusal.{Refusal}
use Rattle.farm_entry.specs.declared.reply.Reply.{Reply}
use Rattle.farm_laws.proofs.ReplyDays.{reply-days, shown-days}
use Rattle.farm_wire.specs.Answers.{AnswerHasDates, answer_text, decision_text, text_of_reply}
use Rattle.farm_wire.specs.Refusals.{refusal_data}
use Rattle.farm_wire.specs.Replies.{reply_data}

-- an answer has the text of the decision that it answers
pub answer-text : (H : List Entry) (d : Decision) (a : Answer) → IsAnswer H d a → answer_text a ≡ decision_text H d
answer-text H (Repeat place) (Done r) is = sym (ap text_of_reply is)
answer-text H (Repeat place) (Refused x) is = absurd is
answer-text H (Show page) (Done r) is = ap (λ (p : Reply). compact_text (reply_data p)) is
answer-text H (Show page) (Refused x) is = absurd is
answer-text H (New e) (Done r) is = sym (ap text_of_reply is)
answer-text H (New e) (Refused x) is = absurd is
answer-text H (Refuse cause) (Done r) is = absurd is
answer-text H (Refuse cause) (Refused x) is = ap (λ (c : Refusal). compact_text (refusal_data c)) is

-- the days that it shows have dates, where the history with what the command adds to it is legal
pub answer-dates : (H : List Entry) (q : Command) (m : Moment) (d : Decision) (a : Answer) → IsLegal (after H d)
    → decide H q m ≡ d → IsAnswer H d a → AnswerHasDates a
answer-dates H q m (Repeat place) (Done r) legal decided is = reply-days H place r legal is
answer-dates H q m (Repeat place) (Refused x) legal decided is = absurd is
answer-dates H q m (Show page) (Done r) legal decided is =
    shown-days H q m r legal (decided ∙ ap (λ (p : Reply). Show p) (sym is))
answer-dates H q m (Show page) (Refused x) legal decided is = absurd is
answer-dates H q m (New e) (Done r) legal decided is = reply-days (H ++ e ∷ []) (length H) r legal is
answer-dates H q m (New e) (Refused x) legal decided is = absurd is
answer-dates H q m (Refuse cause) (Done r) legal decided is = absurd is
answer-dates H q m (Refuse cause) (Refused x) legal decided is = tt
