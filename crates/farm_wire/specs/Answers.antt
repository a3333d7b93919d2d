-- The texts of a farm's answers.
use Rattle.std.specs.Prelude.{ℕ, List, [], ◌∷◌, ◌++◌, length, Option, Some, None, ⊤}
use Rattle.serde_json.specs.Data.{Data}
use Rattle.serde_json.specs.Written.{compact_text}
use Rattle.farm_entry.specs.Reply.{reply_at}
use Rattle.farm_entry.specs.declared.answer.Answer.{Answer}
use Rattle.farm_entry.specs.declared.answer.Answer.TheVariants.{Done, Refused}
use Rattle.farm_entry.specs.declared.decision.Decision.{Decision}
use Rattle.farm_entry.specs.declared.decision.Decision.TheVariants.{Refuse, Repeat, Show, New}
use Rattle.farm_entry.specs.declared.entry.Entry.{Entry}
use Rattle.farm_entry.specs.declared.reply.Reply.{Reply}
use Rattle.farm_laws.specs.Days.{HasDays}
use Rattle.farm_wire.specs.Refusals.{refusal_data}
use Rattle.farm_wire.specs.Replies.{reply_data}

-- an answer as a JSON object
abbrev pub answer_data : Answer → Data
answer_data (Done reply) = reply_data reply
answer_data (Refused cause) = refusal_data cause

-- its text
abbrev pub answer_text : Answer → List ℕ
answer_text answer = compact_text (answer_data answer)

-- the days that an answer shows have dates that can be written
abbrev pub AnswerHasDates : Answer → Type 0
AnswerHasDates (Done reply) = HasDays reply
AnswerHasDates (Refused cause) = ⊤

-- the text of a reply. Each entry of a legal history that a command makes has one
abbrev pub text_of_reply : Option Reply → List ℕ
text_of_reply None = []
text_of_reply (Some r) = compact_text (reply_data r)

-- the text of what a command comes to at a history
abbrev pub decision_text : List Entry → Decision → List ℕ
decision_text H (Refuse cause) = compact_text (refusal_data cause)
decision_text H (Repeat place) = text_of_reply (reply_at H place)
decision_text H (Show page) = compact_text (reply_data page)
decision_text H (New e) = text_of_reply (reply_at (H ++ e ∷ []) (length H))
