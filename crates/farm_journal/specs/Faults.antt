-- Facts on what a call on a journal answered.
use Rattle.std.specs.Prelude.{ℕ, ◌≡◌, Result, Ok, Err, ⊤}
use Rattle.common_types.specs.Counts.{Rose}
use Rattle.farm_journal.specs.declared.fault.JournalFault.{JournalFault}
use Rattle.farm_journal.specs.declared.fault.JournalFault.TheVariants.{StoreFault, Memory}

-- what holds where the disk failed
abbrev pub OnStoreFault : {T : Type 0} → Result T JournalFault → Type 0 → Type 0
OnStoreFault (Ok done) P = ⊤
OnStoreFault (Err (StoreFault before after)) P = P
OnStoreFault (Err Memory) P = ⊤

-- what holds where memory ran out
abbrev pub OnMemory : {T : Type 0} → Result T JournalFault → Type 0 → Type 0
OnMemory (Ok done) P = ⊤
OnMemory (Err (StoreFault before after)) P = ⊤
OnMemory (Err Memory) P = P

-- a fault of the disk tells the disk's counts before the call and after it, and the count rose
abbrev pub HasCause : {T : Type 0} → Result T JournalFault → ℕ → ℕ → Type 0
HasCause (Ok done) first last = ⊤
HasCause (Err (StoreFault before after)) first last = (before ≡ first) × (after ≡ last) × Rose first last
HasCause (Err Memory) first last = ⊤
