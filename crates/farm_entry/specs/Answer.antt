-- The answer to a command, by what it comes to at a history.
use Rattle.std.specs.Prelude.{◌≡◌, List, [], ◌∷◌, ◌++◌, length, Some}
use Rattle.farm_entry.specs.Reply.{reply_at}
use Rattle.farm_entry.specs.declared.answer.Answer.{Answer}
use Rattle.farm_entry.specs.declared.answer.Answer.TheVariants.{Done, Refused}
use Rattle.farm_entry.specs.declared.decision.Decision.{Decision}
use Rattle.farm_entry.specs.declared.decision.Decision.TheVariants.{Refuse, Repeat, Show, New}
use Rattle.farm_entry.specs.declared.entry.Entry.{Entry}

-- the answer to a command that comes to this decision at a history: the reply of the entry that it made or makes,
-- what it shows, or its refusal
abbrev pub IsAnswer : List Entry → Decision → Answer → Type 0
IsAnswer H (Repeat place) (Done r) = reply_at H place ≡ Some r
IsAnswer H (Show page) (Done r) = r ≡ page
IsAnswer H (New e) (Done r) = reply_at (H ++ e ∷ []) (length H) ≡ Some r
IsAnswer H (Refuse cause) (Refused x) = x ≡ cause
IsAnswer H _ _ = ⊥
