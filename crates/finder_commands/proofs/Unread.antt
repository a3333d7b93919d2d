-- What is said of a command over a journal where memory ran out to read the words.
use Rattle.std.proofs.Common.{refl}
use Rattle.farm_journal.proofs.OpeningSteps.{reads-none}
use Rattle.farm_journal.specs.declared.fault.OpeningFault.TheVariants as fault
use Rattle.outside_seen.specs.Outside.{DiskSeen}
use Rattle.finder_commands.specs.Opening.{IsNotOpened}
use Rattle.finder_commands.specs.declared.status.Status.TheVariants.{Memory}

pub unread-not_opened : {V : Type 0} (seen : V) (disk : DiskSeen) → IsNotOpened Memory seen seen disk disk
unread-not_opened seen disk = (
  fault.Memory,
  refl,
  record { untouched = refl; cause = λ tells. tt; only = λ tells. reads-none disk.told },
)
