-- What holds of a disk in memory that never fails.
use Rattle.std.specs.Prelude.{map}
use Rattle.farm_disk.specs.InMemory.{step_of}
use Rattle.farm_disk.specs.Model.{IsSound}
use Rattle.farm_disk.specs.declared.in_memory.calm_disk.CalmDisk.TheInside.{Inside}

-- what a read gives is one of the images
abbrev pub IsKept : Inside → Type 0
IsKept inside = IsSound (record { bytes = inside.bytes.items; steps = map step_of inside.past })
