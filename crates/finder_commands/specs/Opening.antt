-- What a subcommand does whose journal is not opened.
use Rattle.std.specs.Prelude.{◌≡◌, true}
use Rattle.farm_journal.specs.ReadsOnly.{ReadsOnly}
use Rattle.farm_journal.specs.declared.fault.OpeningFault.{OpeningFault}
use Rattle.farm_journal.specs.declared.fault.OpeningFault.TheVariants as fault
use Rattle.farm_store.specs.Opened.{IsMissedBy}
use Rattle.outside_seen.specs.Outside.{DiskSeen}
use Rattle.finder_commands.specs.declared.status.Status.{Status}
use Rattle.finder_commands.specs.declared.status.Status.TheVariants as status

-- how a call ends whose journal is not opened
abbrev pub status_of_opening : OpeningFault → Status
status_of_opening fault.Unborn = status.Unborn
status_of_opening (fault.Damaged offset) = status.Damaged offset
status_of_opening (fault.StoreFault before after) = status.StoreFault before after
status_of_opening fault.Memory = status.Memory

-- What is seen of the input and the output is as before: nothing was taken and nothing put. Why the journal was not
-- opened is what its bytes are, and its disk was only read.
pub record NotOpened {V : Type 0} (fault : OpeningFault) (before after : V) (old new : DiskSeen) : Type 0 where
  pub untouched : after ≡ before
  pub cause : old.tells ≡ true → IsMissedBy old.told.bytes fault
  pub only : old.tells ≡ true → ReadsOnly old.told new.told

-- the status says why the journal was not opened
abbrev pub IsNotOpened : {V : Type 0} → Status → V → V → DiskSeen → DiskSeen → Type 0
IsNotOpened status before after old new =
    (fault : OpeningFault) × (status ≡ status_of_opening fault) × NotOpened fault before after old new
