-- What a status says of the disk of a journal.
use Rattle.std.specs.Prelude.{◌≡◌, ⊤}
use Rattle.outside_seen.specs.Outside.{DiskSeen}
use Rattle.common_types.specs.Counts.{Rose}
use Rattle.finder_commands.specs.declared.status.Status.{Status}
use Rattle.finder_commands.specs.declared.status.Status.TheVariants.{StoreFault}

-- a fault of the store tells the disk's counts before the call and after it, and the count rose
abbrev pub HasStoreCause : Status → DiskSeen → DiskSeen → Type 0
HasStoreCause (StoreFault before after) old new =
    (before ≡ old.faults) × (after ≡ new.faults) × Rose old.faults new.faults
HasStoreCause _ old new = ⊤
