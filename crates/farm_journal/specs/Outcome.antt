-- What the calls of a disk do, by their result.
use Rattle.std.specs.Prelude.{ℕ, ◌≡◌, ◌⊎◌, List, length, Result, Ok, Err}
use Rattle.farm_disk.specs.Images.{DiskState}
use Rattle.farm_disk.specs.Answers.{rested, after_write, after_cut, after_sync, FailedWrite, FailedCut}
use Rattle.farm_journal.specs.declared.disk_calls.DiskFault.{DiskFault}
use Rattle.farm_journal.specs.declared.disk_calls.DiskFault.TheVariants as fault

-- what a write did
abbrev pub WriteEnds : ℕ → List ℕ → Result (Unit {0}) DiskFault → DiskState → DiskState → Type 0
WriteEnds at bytes (Ok _) old new = new ≡ after_write at bytes old
WriteEnds at bytes (Err fault.Failed) old new = FailedWrite at (length bytes) old new
WriteEnds at bytes (Err fault.Memory) old new = new ≡ rested old

-- what a sync did
abbrev pub SyncEnds : Result (Unit {0}) DiskFault → DiskState → DiskState → Type 0
SyncEnds (Ok _) old new = new ≡ after_sync old
SyncEnds (Err _) old new = new ≡ rested old

-- what a cut did
abbrev pub CutEnds : ℕ → Result (Unit {0}) DiskFault → DiskState → DiskState → Type 0
CutEnds n (Ok _) old new = new ≡ after_cut n old
CutEnds n (Err _) old new = FailedCut n old new

-- nothing was done, but that a moment may have passed
abbrev pub IsUndone : DiskState → DiskState → Type 0
IsUndone old new = (new ≡ old) ⊎ (new ≡ rested old)
