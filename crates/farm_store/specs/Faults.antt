-- Why a call on a store was not answered.
use Rattle.std.specs.Prelude.{◌≡◌, ℕ, Result, Ok, Err, ⊤}
use Rattle.common_types.specs.Counts.{Rose}
use Rattle.farm_journal.specs.declared.fault.JournalFault.{JournalFault}
use Rattle.farm_journal.specs.declared.fault.JournalFault.TheVariants as journal
use Rattle.farm_store.specs.declared.asking.CallFault.{CallFault}
use Rattle.farm_store.specs.declared.asking.CallFault.TheVariants.{Refused, StoreFault, Memory}

-- a fault of the disk tells the disk's counts before the call and after it, and the count rose
abbrev pub HasCallCause : {T : Type 0} → Result T CallFault → ℕ → ℕ → Type 0
HasCallCause (Ok answered) first last = ⊤
HasCallCause (Err (Refused cause)) first last = ⊤
HasCallCause (Err (StoreFault before after)) first last = (before ≡ first) × (after ≡ last) × Rose first last
HasCallCause (Err Memory) first last = ⊤

-- the same of a fault of the journal, where the count before is one from earlier on
abbrev pub HasCountFrom : {T : Type 0} → ℕ → Result T JournalFault → ℕ → ℕ → Type 0
HasCountFrom start (Ok answered) first last = ⊤
HasCountFrom start (Err (journal.StoreFault before after)) first last =
    (before ≡ start) × (after ≡ last) × Rose first last
HasCountFrom start (Err journal.Memory) first last = ⊤

-- what holds where the call was answered; a refusal is an answer
abbrev pub OnAnswered : {T : Type 0} → Result T CallFault → Type 0 → Type 0
OnAnswered (Ok answered) P = P
OnAnswered (Err (Refused cause)) P = P
OnAnswered (Err (StoreFault before after)) P = ⊤
OnAnswered (Err Memory) P = ⊤
