-- What contracts see of a follower.
use Rattle.std.specs.Prelude.{◌≡◌, ℕ, Bool}
use Rattle.farm_disk.specs.Images.{DiskState}
use Rattle.journal_follow.specs.Taking.{Held}

-- What it holds; whether its disk tells what it holds, and what it tells; and how often the disk has failed.
pub record FollowerState : Type 0 where
  pub held : Held
  pub tells : Bool
  pub disk : DiskState
  pub count : ℕ

-- what a disk tells is what it told before
pub record IsSameDisk (old new : FollowerState) : Type 0 where
  pub disk : new.disk ≡ old.disk
  pub count : new.count ≡ old.count
