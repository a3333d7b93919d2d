-- What a disk reads, what a crash may leave now, and what it may have left at each moment.
use Rattle.std.specs.Prelude.{ℕ, ◌≡◌, ◌+◌, ◌≤◌, ◌<◌, ◌⊎◌, max, List, [], ◌∷◌, ◌++◌, length, take, drop}

-- What a call did to the images of a crash.
-- still: nothing. write at n: a write of n bytes at an offset, done or failed. cut n: a cut to a size, done or failed.
-- sync bytes: a sync that was done, while a read gave these bytes.
pub data Step : Type 0 where
  still : Step
  write : ℕ → ℕ → Step
  cut : ℕ → Step
  sync : List ℕ → Step

-- the bytes that a read gives, and what was done, the newest first
pub record DiskState : Type 0 where
  pub bytes : List ℕ
  pub steps : List Step

-- new is old with these bytes at this offset
abbrev pub overwritten : ℕ → List ℕ → List ℕ → List ℕ
overwritten at bytes old = take at old ++ bytes ++ drop (at + length bytes) old

-- What a write of n bytes that isn't on the disk yet may leave: any bytes in its range, the same elsewhere, and a size
-- between the old one and the one that the write makes.
pub record Torn (at n : ℕ) (old new : List ℕ) : Type 0 where
  pub before : take at new ≡ take at old
  pub after : drop (at + n) new ≡ drop (at + n) old
  pub no_shorter : length old ≤ length new
  pub no_longer : length new ≤ max (length old) (at + n)

-- What a cut that isn't on the disk yet may leave: the same bytes below it, any above it, and a size between.
pub record Shortened (n : ℕ) (old new : List ℕ) : Type 0 where
  pub below : take n new ≡ take n old
  pub no_longer : length new ≤ length old

-- A crash now may leave these bytes: those of the last sync that was done, changed by each call since. A disk on which
-- nothing was done is empty.
abbrev pub IsImage : List Step → List ℕ → Type 0
IsImage [] c = c ≡ []
IsImage (still ∷ older) c = IsImage older c
IsImage (write at n ∷ older) c = (d : List ℕ) × IsImage older d × Torn at n d c
IsImage (cut n ∷ older) c = (d : List ℕ) × IsImage older d × Shortened n d c
IsImage (sync bytes ∷ older) c = c ≡ bytes

-- each image that a crash may leave after these steps has P
abbrev pub EachImage : List Step → (List ℕ → Type 0) → Type 0
EachImage steps P = (c : List ℕ) → IsImage steps c → P c

-- a moment is how many steps were done
abbrev pub moment : DiskState → ℕ
moment disk = length disk.steps

-- each image of each moment since t has P
abbrev pub LeavesSince : ℕ → List Step → (List ℕ → Type 0) → Type 0
LeavesSince t [] P = EachImage [] P
LeavesSince t (step ∷ older) P = EachImage (step ∷ older) P × (t ≤ length older → LeavesSince t older P)

-- the moment t is right after a sync that was done
abbrev pub IsSyncedAt : List Step → ℕ → Type 0
IsSyncedAt [] t = ⊥
IsSyncedAt (still ∷ older) t = IsSyncedAt older t
IsSyncedAt (write at n ∷ older) t = IsSyncedAt older t
IsSyncedAt (cut n ∷ older) t = IsSyncedAt older t
IsSyncedAt (sync bytes ∷ older) t = (t ≡ length older + 1) ⊎ IsSyncedAt older t

-- the one image is what a read gives
abbrev pub IsSettled : DiskState → Type 0
IsSettled disk = EachImage disk.steps (λ c. c ≡ disk.bytes)

-- From old to new steps were only added, and each image of each moment since old has P.
pub record LeavesOnly (old new : DiskState) (P : List ℕ → Type 0) : Type 0 where
  pub since : List Step
  pub extends : new.steps ≡ since ++ old.steps
  pub each : LeavesSince (moment old) new.steps P

-- From old to new, each image of each moment since the first sync that was done has P.
abbrev pub LeavesSinceSync : DiskState → DiskState → (List ℕ → Type 0) → Type 0
LeavesSinceSync old new P = (t : ℕ) → moment old < t → IsSyncedAt new.steps t → LeavesSince t new.steps P
