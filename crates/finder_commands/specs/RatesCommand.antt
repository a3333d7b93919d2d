-- What the subcommand `rates JOURNAL` does.
use Rattle.std.specs.Prelude.{◌⊎◌}
use Rattle.rates_report.specs.RateLines.{rates_text}
use Rattle.outside_seen.specs.Outside.{DiskSeen, OutputSeen}
use Rattle.finder_commands.specs.Opening.{IsNotOpened}
use Rattle.finder_commands.specs.Show.{JournalShown, ShowCompletes}
use Rattle.finder_commands.specs.declared.status.Status.{Status}

-- what a status says: the journal was not opened, or the lines of its tests were put
abbrev pub RatesEnds : Status → OutputSeen → OutputSeen → DiskSeen → DiskSeen → Type 0
RatesEnds status before after old new =
    IsNotOpened status before after old new ⊎ JournalShown rates_text status before after old new

-- where neither the disk nor the output fails and memory is there, the lines of a journal that holds a history are put
abbrev pub RatesCompletes : Status → OutputSeen → OutputSeen → DiskSeen → DiskSeen → Type 0
RatesCompletes = ShowCompletes

-- what is said of a call: how it ends, and that it does its work
pub record RatesSays (status : Status) (before after : OutputSeen) (old new : DiskSeen) : Type 0 where
  pub ends : RatesEnds status before after old new
  pub completes : RatesCompletes status before after old new
