-- What the subcommand `run` does, over a farm in memory.
use Rattle.std.specs.Prelude.{◌≡◌, ◌⊎◌, Option, Some, None}
use Rattle.farm_types.specs.Moment.{moment_ms}
use Rattle.farm_types.specs.declared.moment.Moment.{Moment}
use Rattle.farm_types.specs.declared.moment.TheConstants.{MOMENT_MIN_MS}
use Rattle.farm_entry.specs.Settings.{settings_daily, settings_lease_ms, settings_zone_minutes}
use Rattle.farm_entry.specs.declared.settings.Settings.{Settings}
use Rattle.farm_script.specs.FoundedRun.{FoundedRunCompletes, FoundedRunEnds}
use Rattle.farm_script.specs.declared.run_end.RunEnd.{RunEnd}
use Rattle.farm_script.specs.declared.run_end.RunEnd.TheVariants as script
use Rattle.link_io.specs.Streams.{Streams}
use Rattle.finder_commands.specs.RanOut.{RanOut}
use Rattle.finder_commands.specs.declared.memory_farm.TheConstants.{MEMORY_DAILY, MEMORY_LEASE_MS, MEMORY_ZONE_MINUTES}
use Rattle.finder_commands.specs.declared.status.Status.{Status}
use Rattle.finder_commands.specs.declared.status.Status.TheVariants.{Done, ReadFault, WriteFault, Memory, InputLimit}

-- how a farm in memory is founded
pub record FoundsMemoryFarm (settings : Settings) (at : Moment) : Type 0 where
  pub lease : settings_lease_ms settings ≡ MEMORY_LEASE_MS
  pub daily : settings_daily settings ≡ MEMORY_DAILY
  pub zone : settings_zone_minutes settings ≡ MEMORY_ZONE_MINUTES
  pub moment : moment_ms at ≡ MOMENT_MIN_MS

-- how the script's run ended that a status stands for. No store can fail, and no line ends the run
abbrev pub script_end : Status → Option RunEnd
script_end Done = Some script.Done
script_end ReadFault = Some script.ReadFault
script_end WriteFault = Some script.WriteFault
script_end Memory = Some script.Memory
script_end InputLimit = Some script.InputLimit
script_end _ = None

-- What a status says of the run of a script over a farm in memory: it stands for an end of which this is said, where
-- the farm is founded so
abbrev pub MemoryRunEnds : Status → Streams → Streams → Type 0
MemoryRunEnds status before after =
    (settings : Settings) × (at : Moment) × FoundsMemoryFarm settings at
    × ((end : RunEnd) × (script_end status ≡ Some end) × FoundedRunEnds settings at end before after)

-- where nothing fails and memory is there, a script below the limit is run to its end, and a longer one to the limit
abbrev pub MemoryRunCompletes : Status → Streams → Streams → Type 0
MemoryRunCompletes status before after =
    (end : RunEnd) × (script_end status ≡ Some end) × FoundedRunCompletes end before after

-- what is said of a call: memory ran out as the words were read, or the script was run; and that it does its work
pub record MemoryRunSays (status : Status) (before after : Streams) : Type 0 where
  pub ends : RanOut status before after ⊎ MemoryRunEnds status before after
  pub completes : MemoryRunCompletes status before after
