-- What holds of a disk in memory.
use Rattle.std.specs.Prelude.{◌≤◌, length, map}
use Rattle.farm_disk.specs.Images.{IsImage}
use Rattle.farm_disk.specs.InMemory.{step_of}
use Rattle.farm_disk.specs.Model.{greatest}
use Rattle.farm_disk.specs.Tracks.{Tracks}
use Rattle.farm_disk.specs.declared.in_memory.mem_disk.MemDisk.TheInside.{Inside}

-- What it keeps as data is what its log says. What a read gives is one of the images, and no longer than the greatest.
pub record IsKept (inside : Inside) : Type 0 where
  pub tracks : Tracks inside.tracked (map step_of inside.past)
  pub reach : length inside.bytes.items ≤ greatest (map step_of inside.past)
  pub image : IsImage (map step_of inside.past) inside.bytes.items
