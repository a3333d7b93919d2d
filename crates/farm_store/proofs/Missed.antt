-- Why a call was not answered, by the fault of its journal.
use Rattle.std.proofs.Common.{ℕ, List, [], ◌∷◌, inl}
use Rattle.std.specs.Prelude.{Result, Ok, Err, OnOk}
use Rattle.farm_disk.specs.declared.disk.Disk as disk
use Rattle.farm_types.specs.declared.moment.Moment.{Moment}
use Rattle.farm_entry.specs.declared.answer.Answer.{Answer}
use Rattle.farm_entry.specs.declared.command.Command.{Command}
use Rattle.farm_entry.specs.declared.entry.Entry.{Entry}
use Rattle.farm_journal.specs.Faults.{HasCause}
use Rattle.farm_journal.specs.declared.fault.JournalFault.{JournalFault}
use Rattle.farm_journal.specs.declared.fault.JournalFault.TheVariants as journal
use Rattle.farm_store.specs.Answering.{AnswerSays, AreAnswers, BatchSays, CallSays, IsUnrepairedBy, Settles, as_batch, as_call, as_one}
use Rattle.farm_store.specs.Faults.{HasCallCause, OnAnswered}
use Rattle.farm_store.specs.Keeping.{KeepsStore}
use Rattle.farm_store.specs.State.{StoreState}
use Rattle.farm_store.specs.declared.asking.Ask.{Ask}

-- a repair that failed
pub settles-unrepaired : {D T : Type 0} (asks : List Ask) (Given : T → List Entry → Type 0) (f : JournalFault)
    (old new : StoreState D) → IsUnrepairedBy f old new → Settles asks Given (Err f) old new
settles-unrepaired asks Given (journal.StoreFault before after) old new failed = inl failed
settles-unrepaired asks Given journal.Memory old new failed = absurd failed

-- what one ask was answered, as what a call with a list of one is
pub settles-one : {D : Type 0} (asks : List Ask) (r : Result Answer JournalFault) (old new : StoreState D)
    → Settles asks (λ (given : Answer) (H : List Entry). AreAnswers H asks (given ∷ [])) r old new
    → BatchSays asks (as_one r) old new
settles-one asks (Ok given) old new says = says
settles-one asks (Err (journal.StoreFault before after)) old new says = says
settles-one asks (Err journal.Memory) old new says = says

-- the fault of a list of asks
pub batch-missed : {D T : Type 0} (asks : List Ask) (Given : T → List Entry → Type 0) (f : JournalFault)
    (old new : StoreState D) → Settles asks Given (Err f) old new → BatchSays asks (Err (as_call f)) old new
batch-missed asks Given (journal.StoreFault before after) old new says = says
batch-missed asks Given journal.Memory old new says = says

-- the fault of one command
pub call-missed : {D : Type 0} (q : Command) (m : Moment) (f : JournalFault) (old new : StoreState D)
    → AnswerSays q m (Err f) old new → CallSays q m (Err (as_call f)) old new
call-missed q m (journal.StoreFault before after) old new says = says
call-missed q m journal.Memory old new says = says

-- its counts
pub cause-missed : (T U : Type 0) (f : JournalFault) (first last : ℕ) → HasCause {T = T} (Err f) first last
    → HasCallCause {T = U} (Err (as_call f)) first last
cause-missed T U (journal.StoreFault before after) first last cause = cause
cause-missed T U journal.Memory first last cause = tt

-- what such a call keeps
module _ {D : Type 0} (T : Type 0) (meant : disk.Ghosts D) (old new : StoreState D) where
  pub keeps-call : (f : JournalFault)
      → KeepsStore meant (λ (P : Type 0). OnOk {T = T} {E = JournalFault} (Err f) P) old new
      → KeepsStore meant (λ (P : Type 0). OnOk (as_batch (Err (as_call f))) P) old new
  keeps-call (journal.StoreFault before after) keeps = keeps
  keeps-call journal.Memory keeps = keeps

  pub keeps-enter : (U : Type 0) (f : JournalFault)
      → KeepsStore meant (λ (P : Type 0). OnOk {T = T} {E = JournalFault} (Err f) P) old new
      → KeepsStore meant (λ (P : Type 0). OnAnswered {T = U} (Err (as_call f)) P) old new
  keeps-enter U (journal.StoreFault before after) keeps = keeps
  keeps-enter U journal.Memory keeps = keeps
