-- What the calls of a disk do, by their answers.
use Rattle.std.specs.Prelude.{ℕ, ◌≡◌, ◌≤◌, List, ◌∷◌, length, take, ⊤}
use Rattle.farm_disk.specs.Images.{DiskState, still, write, cut, sync, overwritten, Torn}
use Rattle.farm_disk.specs.declared.disk.Did.{Did}
use Rattle.farm_disk.specs.declared.disk.Did.TheVariants as did
use Rattle.farm_disk.specs.declared.disk.Size.{Size}
use Rattle.farm_disk.specs.declared.disk.Size.TheVariants as size
use Rattle.farm_disk.specs.declared.disk.Written.{Written}
use Rattle.farm_disk.specs.declared.disk.Written.TheVariants as written

-- a moment passed, and nothing changed
abbrev pub rested : DiskState → DiskState
rested disk = record disk { steps = still ∷ disk.steps }

-- a write was done
abbrev pub after_write : ℕ → List ℕ → DiskState → DiskState
after_write at bytes disk = record {
  bytes = overwritten at bytes disk.bytes;
  steps = write at (length bytes) ∷ disk.steps;
}

-- a cut was done
abbrev pub after_cut : ℕ → DiskState → DiskState
after_cut n disk = record { bytes = take n disk.bytes; steps = cut n ∷ disk.steps }

-- a sync was done
abbrev pub after_sync : DiskState → DiskState
after_sync disk = record { bytes = disk.bytes; steps = sync disk.bytes ∷ disk.steps }

-- A write failed: any bytes in its range, a size between the old one and the one that it would have made, and its range
-- counts as written.
pub record FailedWrite (at n : ℕ) (old new : DiskState) : Type 0 where
  pub bytes : Torn at n old.bytes new.bytes
  pub steps : new.steps ≡ write at n ∷ old.steps

-- a cut failed: a size between the two, and its range counts as cut
pub record FailedCut (n : ℕ) (old new : DiskState) : Type 0 where
  pub size : ℕ
  pub least : n ≤ size
  pub most : size ≤ length old.bytes
  pub bytes : new.bytes ≡ take size old.bytes
  pub steps : new.steps ≡ cut n ∷ old.steps

-- what a write did, by its answer
abbrev pub Writes : ℕ → List ℕ → Written → DiskState → DiskState → Type 0
Writes at bytes written.Did old new = new ≡ after_write at bytes old
Writes at bytes written.Failed old new = FailedWrite at (length bytes) old new
Writes at bytes written.Memory old new = new ≡ rested old

-- what a cut did, by its answer
abbrev pub Cuts : ℕ → Did → DiskState → DiskState → Type 0
Cuts n did.Did old new = new ≡ after_cut n old
Cuts n did.Failed old new = FailedCut n old new

-- what a sync did, by its answer
abbrev pub Syncs : Did → DiskState → DiskState → Type 0
Syncs did.Did old new = new ≡ after_sync old
Syncs did.Failed old new = new ≡ rested old

-- what holds of the size, where one was answered
abbrev pub IfSize : Size → (ℕ → Type 0) → Type 0
IfSize (size.Size n) P = P n
IfSize size.Failed P = ⊤

-- what holds where no size was answered
abbrev pub OnSizeFailed : Size → Type 0 → Type 0
OnSizeFailed (size.Size n) P = ⊤
OnSizeFailed size.Failed P = P

-- what holds where the call was done
abbrev pub OnDid : Did → Type 0 → Type 0
OnDid did.Did P = P
OnDid did.Failed P = ⊤

-- what holds where the call failed
abbrev pub OnFailed : Did → Type 0 → Type 0
OnFailed did.Did P = ⊤
OnFailed did.Failed P = P

-- what holds where the write was done
abbrev pub OnWritten : Written → Type 0 → Type 0
OnWritten written.Did P = P
OnWritten written.Failed P = ⊤
OnWritten written.Memory P = ⊤

-- what holds where the write failed
abbrev pub OnWriteFailed : Written → Type 0 → Type 0
OnWriteFailed written.Did P = ⊤
OnWriteFailed written.Failed P = P
OnWriteFailed written.Memory P = ⊤

-- what holds where memory ran out
abbrev pub OnWriteMemory : Written → Type 0 → Type 0
OnWriteMemory written.Did P = ⊤
OnWriteMemory written.Failed P = ⊤
OnWriteMemory written.Memory P = P
