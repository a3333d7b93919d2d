-- What a store answers to a list of asks, and how its history goes on.
use Rattle.std.specs.Prelude.{◌≡◌, ◌≢◌, ◌⊎◌, ◌+◌, List, [], ◌∷◌, ◌++◌, length, map, Result, Ok, Err, ⊤}
use Rattle.farm_types.specs.declared.moment.Moment.{Moment}
use Rattle.farm_entry.specs.Answer.{IsAnswer}
use Rattle.farm_entry.specs.Decision.{decide}
use Rattle.farm_entry.specs.Playing.{after, played}
use Rattle.farm_entry.specs.declared.answer.Answer.{Answer}
use Rattle.farm_entry.specs.declared.answer.Answer.TheVariants as answer
use Rattle.farm_entry.specs.declared.command.Command.{Command}
use Rattle.farm_entry.specs.declared.entry.Entry.{Entry}
use Rattle.farm_entry.specs.declared.reply.Reply.{Reply}
use Rattle.farm_journal.specs.declared.fault.JournalFault.{JournalFault}
use Rattle.farm_journal.specs.declared.fault.JournalFault.TheVariants as journal
use Rattle.farm_store.specs.State.{StoreState, IsRepaired}
use Rattle.farm_store.specs.declared.asking.Ask.{Ask}
use Rattle.farm_store.specs.declared.asking.CallFault.{CallFault}
use Rattle.farm_store.specs.declared.asking.CallFault.TheVariants as fault

-- what is asked, as a command and its moment
abbrev pub asked : Ask → Command × Moment
asked ask = (ask.command, ask.at)

-- the history after these asks, each decided at the history that the ones before it leave
abbrev pub history_after : List Entry → List Ask → List Entry
history_after H asks = played H (map asked asks)

-- the answers to these asks, one for each, as of single calls one after the other
abbrev pub AreAnswers : List Entry → List Ask → List Answer → Type 0
AreAnswers H [] [] = ⊤
AreAnswers H (ask ∷ asks) (a ∷ answers) =
    IsAnswer H (decide H ask.command ask.at) a × AreAnswers (after H (decide H ask.command ask.at)) asks answers
AreAnswers H _ _ = ⊥

-- these asks were decided, what was given is this of the history as the repair left it, and what they record is stored
pub record IsSettled {D : Type 0} (asks : List Ask) (Given : List Entry → Type 0) (old new : StoreState D)
    : Type 0 where
  pub repaired : List Entry
  pub found : IsRepaired old repaired
  pub answers : Given repaired
  pub history : new.history ≡ history_after repaired asks
  pub recorded : length new.history ≡ length repaired + new.recorded
  pub decided : new.pending ≡ []

-- all asks were answered, from the history as the repair left it, and what they record is stored
abbrev pub IsAnswered : {D : Type 0} → (asks : List Ask) → (given : List Answer) → (old new : StoreState D) → Type 0
IsAnswered asks given old new = IsSettled asks (λ repaired. AreAnswers repaired asks given) old new

-- the disk failed in the repair, and history and pending are as before
pub record IsUnrepaired {D : Type 0} (old new : StoreState D) : Type 0 where
  pub some : old.pending ≢ []
  pub history : new.history ≡ old.history
  pub pending : new.pending ≡ old.pending
  pub none : new.recorded ≡ 0

-- the same by the fault that ended the call
abbrev pub IsUnrepairedBy : {D : Type 0} → JournalFault → (old new : StoreState D) → Type 0
IsUnrepairedBy (journal.StoreFault before after) old new = IsUnrepaired old new
IsUnrepairedBy journal.Memory old new = ⊥

-- the disk failed as the new entries of these asks were stored: the history is as the repair left it, and they are
-- pending
pub record IsUndecided {D : Type 0} (asks : List Ask) (old new : StoreState D) : Type 0 where
  pub found : IsRepaired old new.history
  pub some : new.pending ≢ []
  pub all : new.history ++ new.pending ≡ history_after new.history asks
  pub none : new.recorded ≡ 0

-- nothing was answered, and the history is as the repair left it
pub record IsUnanswered {D : Type 0} (old new : StoreState D) : Type 0 where
  pub found : IsRepaired old new.history
  pub decided : new.pending ≡ []
  pub none : new.recorded ≡ 0

-- what finding out whether what is pending was kept came to
abbrev pub Repairs : {D : Type 0} → Result (Unit {0}) JournalFault → (old new : StoreState D) → Type 0
Repairs (Ok _) old new = IsUnanswered old new
Repairs (Err f) old new = IsUnrepairedBy f old new

-- what a call that decides these asks came to, by what it gives, which is so of a history
abbrev pub Settles : {D T : Type 0} → List Ask → (T → List Entry → Type 0) → Result T JournalFault
    → (old new : StoreState D) → Type 0
Settles asks Given (Ok given) old new = IsSettled asks (Given given) old new
Settles asks Given (Err (journal.StoreFault before after)) old new = IsUnrepaired old new ⊎ IsUndecided asks old new
Settles asks Given (Err journal.Memory) old new = IsUnanswered old new

-- what a call with these asks came to, by what it answers; a refusal is an answer to one ask
abbrev pub BatchSays : {D : Type 0} → List Ask → Result (List Answer) CallFault → (old new : StoreState D) → Type 0
BatchSays asks (Ok answers) old new = IsAnswered asks answers old new
BatchSays asks (Err (fault.Refused cause)) old new = ⊥
BatchSays asks (Err (fault.StoreFault before after)) old new = IsUnrepaired old new ⊎ IsUndecided asks old new
BatchSays asks (Err fault.Memory) old new = IsUnanswered old new

-- what a call with one command answered, as what one with a list of asks answers
abbrev pub as_batch : Result Reply CallFault → Result (List Answer) CallFault
as_batch (Ok r) = Ok (answer.Done r ∷ [])
as_batch (Err (fault.Refused cause)) = Ok (answer.Refused cause ∷ [])
as_batch (Err (fault.StoreFault before after)) = Err (fault.StoreFault before after)
as_batch (Err fault.Memory) = Err fault.Memory

-- what a call with one command at a moment came to
abbrev pub CallSays : {D : Type 0} → Command → Moment → Result Reply CallFault → (old new : StoreState D) → Type 0
CallSays command at result old new =
    BatchSays (record { command = command; at = at } ∷ []) (as_batch result) old new

-- the fault of the disk, or want of memory, as the fault of a call
abbrev pub as_call : JournalFault → CallFault
as_call (journal.StoreFault before after) = fault.StoreFault before after
as_call journal.Memory = fault.Memory

-- what one command was answered, as what a call with a list of asks answers
abbrev pub as_one : Result Answer JournalFault → Result (List Answer) CallFault
as_one (Ok given) = Ok (given ∷ [])
as_one (Err f) = Err (as_call f)

-- what answering one command at a moment came to
abbrev pub AnswerSays : {D : Type 0} → Command → Moment → Result Answer JournalFault → (old new : StoreState D) → Type 0
AnswerSays command at result old new =
    BatchSays (record { command = command; at = at } ∷ []) (as_one result) old new
