-- What opening a journal answers.
use Rattle.std.specs.Prelude.{ℕ, ◌≡◌, List, Result, Ok, Err, ⊤}
use Rattle.common_types.specs.Counts.{Rose}
use Rattle.farm_journal.specs.Layout.{Opening, unborn, damaged, holds}
use Rattle.farm_journal.specs.State.{JournalState}
use Rattle.farm_journal.specs.declared.fault.OpeningFault.{OpeningFault}
use Rattle.farm_journal.specs.declared.fault.OpeningFault.TheVariants.{Unborn, Damaged, StoreFault, Memory}

-- what opening a journal on a disk gives: the journal and all its payloads, or the disk again and why
abbrev pub OpeningResult : Type 0 → Type 0
OpeningResult D = Result (JournalState D × List (List ℕ)) (D × OpeningFault)

-- the disk afterwards
abbrev pub disk_after : {D : Type 0} → OpeningResult D → D
disk_after (Ok opened) = opened.0.disk
disk_after (Err missed) = missed.0

-- why it wasn't opened is what the bytes open to; a fault of the disk and running out of memory say nothing of them
abbrev pub Misses : Opening → OpeningFault → Type 0
Misses opening Unborn = opening ≡ unborn
Misses opening (Damaged o) = opening ≡ damaged o
Misses opening (StoreFault before after) = ⊤
Misses opening Memory = ⊤

-- the answer is what the bytes open to
abbrev pub Answers : {D : Type 0} → Opening → OpeningResult D → Type 0
Answers opening (Ok opened) = opening ≡ holds opened.1
Answers opening (Err missed) = Misses opening missed.1

-- a fault of the disk tells the disk's counts before the call and after it, and the count rose
abbrev pub OpeningCause : OpeningFault → ℕ → ℕ → Type 0
OpeningCause Unborn first last = ⊤
OpeningCause (Damaged o) first last = ⊤
OpeningCause (StoreFault before after) first last = (before ≡ first) × (after ≡ last) × Rose first last
OpeningCause Memory first last = ⊤

-- what holds where all bytes were read, though they are no journal
abbrev pub OnRead : OpeningFault → Type 0 → Type 0
OnRead Unborn P = P
OnRead (Damaged o) P = P
OnRead (StoreFault before after) P = ⊤
OnRead Memory P = ⊤
