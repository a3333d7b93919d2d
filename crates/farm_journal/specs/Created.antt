-- What creating a journal leaves.
use Rattle.std.specs.Prelude.{ℕ, ◌≡◌, ◌≤◌, ◌⊎◌, true, false, List, [], ◌∷◌, length, slice_index, Result, Ok, Err, ⊤}
use Rattle.common_types.specs.Counts.{Rose}
use Rattle.farm_disk.specs.Images.{DiskState, IsSettled}
use Rattle.farm_journal.specs.Layout.{unborn, holds, opens, is_unborn}
use Rattle.farm_journal.specs.State.{JournalState}
use Rattle.farm_journal.specs.declared.fault.CreateFault.{CreateFault}
use Rattle.farm_journal.specs.declared.fault.CreateFault.TheVariants.{AlreadyBorn, StoreFault, Memory}

-- nothing was created there
abbrev pub IsUnborn : List ℕ → Type 0
IsUnborn bytes = opens bytes ≡ unborn

-- nothing was created there, or the journal of this payload
abbrev pub IsUnbornOrFirst : List ℕ → List ℕ → Type 0
IsUnbornOrFirst p bytes = (opens bytes ≡ unborn) ⊎ (opens bytes ≡ holds (p ∷ []))

-- the birth byte stands there as 0, and each crash leaves what a read gives
pub record IsReady (disk : DiskState) : Type 0 where
  pub long : 1 ≤ length disk.bytes
  pub birth : slice_index disk.bytes 0 ≡ 0
  pub settled : IsSettled disk

-- what creating a journal on a disk gives: the journal, or the disk again and why
abbrev pub CreatingResult : Type 0 → Type 0
CreatingResult D = Result (JournalState D) (D × CreateFault)

-- the disk afterwards
abbrev pub disk_created : {D : Type 0} → CreatingResult D → D
disk_created (Ok journal) = journal.disk
disk_created (Err missed) = missed.0

-- Why nothing was created: something was created there before, and then only. A fault and running out of memory say
-- nothing of that.
abbrev pub Refuses : List ℕ → CreateFault → Type 0
Refuses bytes AlreadyBorn = is_unborn bytes ≡ false
Refuses bytes (StoreFault before after) = ⊤
Refuses bytes Memory = ⊤

-- the answer goes by whether the bytes are unborn
abbrev pub Creates : {D : Type 0} → List ℕ → CreatingResult D → Type 0
Creates bytes (Ok journal) = is_unborn bytes ≡ true
Creates bytes (Err missed) = Refuses bytes missed.1

-- a fault of the disk tells the disk's counts before the call and after it, and the count rose
abbrev pub CreatingCause : CreateFault → ℕ → ℕ → Type 0
CreatingCause AlreadyBorn first last = ⊤
CreatingCause (StoreFault before after) first last = (before ≡ first) × (after ≡ last) × Rose first last
CreatingCause Memory first last = ⊤

-- what holds where memory ran out
abbrev pub OnCreatingMemory : CreateFault → Type 0 → Type 0
OnCreatingMemory AlreadyBorn P = ⊤
OnCreatingMemory (StoreFault before after) P = ⊤
OnCreatingMemory Memory P = P
