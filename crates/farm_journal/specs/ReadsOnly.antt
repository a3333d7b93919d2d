-- What opening does to a disk.
use Rattle.std.specs.Prelude.{◌≡◌, ◌⊎◌}
use Rattle.farm_disk.specs.Images.{DiskState, IsImage, LeavesOnly, LeavesSinceSync}

-- A read gives what it gave before. Each image since the first sync that was done is just that; and each image since
-- the start is that, or one of those that there were then.
pub record ReadsOnly (old new : DiskState) : Type 0 where
  pub bytes : new.bytes ≡ old.bytes
  pub since_sync : LeavesSinceSync old new (λ c. c ≡ old.bytes)
  pub any_moment : LeavesOnly old new (λ c. IsImage old.steps c ⊎ (c ≡ old.bytes))
