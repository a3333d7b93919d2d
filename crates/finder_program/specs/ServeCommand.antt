-- What the subcommand `serve JOURNAL ADDRESS HANDLERS LINKS` does.
use Rattle.std.specs.Prelude.{◌≡◌, ◌⊎◌, ℕ, true, List}
use Rattle.farm_entry.specs.declared.entry.Entry.{Entry}
use Rattle.outside_seen.specs.Outside.{Outside}
use Rattle.farm_serve.specs.ServeEnds.{ServeEnds}
use Rattle.farm_serve.specs.declared.ending.Ending.{Ending}
use Rattle.farm_serve.specs.declared.ending.Ending.TheVariants as end
use Rattle.farm_store.specs.Bytes.{StandsFor}
use Rattle.farm_types.specs.declared.moment.Moment.{Moment}
use Rattle.common_types.specs.Counts.{Rose}
use Rattle.finder_commands.specs.Opening.{status_of_opening}
use Rattle.finder_commands.specs.declared.status.Status.{Status}
use Rattle.finder_commands.specs.declared.status.Status.TheVariants.{Done, NetFault, WriteFault, Memory}

-- how a call ends by how its service did
abbrev pub status_of_ending : Ending → Status
status_of_ending end.Done = Done
status_of_ending end.NetFault = NetFault
status_of_ending end.WriteFault = WriteFault
status_of_ending end.Memory = Memory
status_of_ending (end.NotOpened fault) = status_of_opening fault

-- What a status says: it stands for the end of a service of which this is said, where so many accepts were to be made
-- and the clock may give these moments
abbrev pub JournalServeEnds : (links : ℕ) → (Moment → Type 0) → Status → (old new : Outside) → Type 0
JournalServeEnds links clock status old new =
    (ending : Ending) × (status ≡ status_of_ending ending) × ServeEnds links clock ending old new

-- where neither the network nor the output nor the disk fails and memory is there, a journal that holds a history is
-- served to the end
abbrev pub JournalServeCompletes : Status → (old new : Outside) → Type 0
JournalServeCompletes status old new =
    ¬ Rose old.network.faults new.network.faults → ¬ Rose old.output.faults new.output.faults
    → ¬ Rose old.disk.faults new.disk.faults → old.disk.tells ≡ true
    → (history : List Entry) → StandsFor history old.disk.told.bytes
    → (status ≡ Memory) ⊎ (status ≡ Done)

-- what is said of a call: how it ends, and that it does its work
pub record ServeSays (links : ℕ) (clock : Moment → Type 0) (status : Status) (old new : Outside) : Type 0 where
  pub ends : JournalServeEnds links clock status old new
  pub completes : JournalServeCompletes status old new
