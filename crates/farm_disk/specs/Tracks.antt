-- What a disk in memory keeps as data, beside its log.
use Rattle.std.specs.Prelude.{◌≡◌, List}
use Rattle.std.specs.Option.{ForSome}
use Rattle.farm_disk.specs.Images.{Step}
use Rattle.farm_disk.specs.Certain.{AreCertain}
use Rattle.farm_disk.specs.Model.{least, greatest, IsRun}
use Rattle.farm_disk.specs.declared.in_memory.tracked.Tracked.{Tracked}

-- the marks, where there are any, are the certain bytes, and the two sizes are those of the log
pub record Tracks (tracked : Tracked) (steps : List Step) : Type 0 where
  pub marks : ForSome tracked.marks (λ marks. AreCertain steps marks.items)
  pub least_is : tracked.least ≡ least steps
  pub greatest_is : tracked.greatest ≡ greatest steps
  pub run : IsRun steps
