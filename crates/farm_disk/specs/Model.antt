-- The images of a crash in the words of the disk model: which bytes may have any value, and between which sizes.
use Rattle.std.specs.Prelude.{ℕ, ◌≡◌, ◌+◌, ◌≤◌, ◌<◌, ◌⊎◌, max, min, List, [], ◌∷◌, length, slice_index}
use Rattle.farm_disk.specs.Images.{Step, still, write, cut, sync, DiskState, IsImage}
use Rattle.farm_disk.specs.Answers.{rested, after_write, after_cut, after_sync, FailedWrite, FailedCut}

-- the bytes of the last sync that was done, or none
abbrev pub synced : List Step → List ℕ
synced [] = []
synced (still ∷ older) = synced older
synced (write at n ∷ older) = synced older
synced (cut n ∷ older) = synced older
synced (sync bytes ∷ older) = bytes

-- the index is in a range that was written or cut since
abbrev pub IsTouched : List Step → ℕ → Type 0
IsTouched [] i = ⊥
IsTouched (still ∷ older) i = IsTouched older i
IsTouched (write at n ∷ older) i = ((at ≤ i) × (i < at + n)) ⊎ IsTouched older i
IsTouched (cut n ∷ older) i = (n ≤ i) ⊎ IsTouched older i
IsTouched (sync bytes ∷ older) i = ⊥

-- the least size since
abbrev pub least : List Step → ℕ
least [] = 0
least (still ∷ older) = least older
least (write at n ∷ older) = least older
least (cut n ∷ older) = min n (least older)
least (sync bytes ∷ older) = length bytes

-- the greatest size since, where a write that failed counts as one that was done
abbrev pub greatest : List Step → ℕ
greatest [] = 0
greatest (still ∷ older) = greatest older
greatest (write at n ∷ older) = max (greatest older) (at + n)
greatest (cut n ∷ older) = greatest older
greatest (sync bytes ∷ older) = length bytes

-- Since the last sync that was done, each byte of a range that was written or cut, and each byte at or past the end of
-- the synced list, may hold any value. All others are those of the synced list. The size lies between the least and the
-- greatest since that sync.
pub record MayBeLeft (steps : List Step) (c : List ℕ) : Type 0 where
  pub no_shorter : least steps ≤ length c
  pub no_longer : length c ≤ greatest steps
  pub same : (i : ℕ) → i < length c → i < length (synced steps) → (IsTouched steps i → ⊥)
      → slice_index c i ≡ slice_index (synced steps) i

-- no write began past the greatest size
abbrev pub IsRun : List Step → Type 0
IsRun [] = Unit {0}
IsRun (still ∷ older) = IsRun older
IsRun (write at n ∷ older) = (at ≤ greatest older) × IsRun older
IsRun (cut n ∷ older) = IsRun older
IsRun (sync bytes ∷ older) = Unit {0}

-- after each log of steps a crash may leave something
abbrev pub SomeImage : Type 0
SomeImage = (steps : List Step) → (c : List ℕ) × IsImage steps c

-- what the disk model allows is an image, and nothing else is
abbrev pub ModelIsImages : Type 0
ModelIsImages = (steps : List Step) (c : List ℕ) → IsRun steps → MayBeLeft steps c → IsImage steps c

abbrev pub ImagesAreModel : Type 0
ImagesAreModel = (steps : List Step) (c : List ℕ) → IsImage steps c → MayBeLeft steps c

-- what holds of each disk at any time: what a read gives is one of the images
pub record IsSound (disk : DiskState) : Type 0 where
  pub run : IsRun disk.steps
  pub size : length disk.bytes ≤ greatest disk.steps
  pub image : IsImage disk.steps disk.bytes

-- each call keeps it
pub record CallsKeepSound : Type 0 where
  pub fresh : (bytes : List ℕ) → IsSound (record { bytes = bytes; steps = sync bytes ∷ [] })
  pub rests : (disk : DiskState) → IsSound disk → IsSound (rested disk)
  pub writes : (disk : DiskState) (at : ℕ) (bytes : List ℕ) → at ≤ length disk.bytes → IsSound disk
      → IsSound (after_write at bytes disk)
  pub fails_write : (old new : DiskState) (at n : ℕ) → at ≤ length old.bytes → FailedWrite at n old new → IsSound old
      → IsSound new
  pub cuts : (disk : DiskState) (n : ℕ) → IsSound disk → IsSound (after_cut n disk)
  pub fails_cut : (old new : DiskState) (n : ℕ) → FailedCut n old new → IsSound old → IsSound new
  pub syncs : (disk : DiskState) → IsSound disk → IsSound (after_sync disk)
