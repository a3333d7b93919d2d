-- What the command `drill` does.
use Rattle.std.specs.Prelude.{◌≡◌, ◌⊎◌, ℕ, List}
use Rattle.common_types.specs.Counts.{Rose}
use Rattle.farm_entry.specs.declared.entry.Entry.{Entry}
use Rattle.farm_drill.specs.Drilled.{IsDrilled}
use Rattle.farm_drill.specs.Line.{drill_line}
use Rattle.outside_seen.specs.Outside.{OutputSeen}
use Rattle.finder_commands.specs.TextPut.{TextPut}
use Rattle.finder_commands.specs.RanOut.{RanOut}
use Rattle.finder_commands.specs.declared.status.Status.{Status}
use Rattle.finder_commands.specs.declared.status.Status.TheVariants.{Done, Memory}

-- the line of the history of a drill of so many searches was put
pub record DrillPut (searches : ℕ) (status : Status) (before after : OutputSeen) : Type 0 where
  pub history : List Entry
  pub drilled : IsDrilled searches history
  pub text : TextPut (drill_line history) status before after

-- what a status says: memory ran out before anything was put, or the line was put as the status says
abbrev pub DrillEnds : (searches : ℕ) → Status → OutputSeen → OutputSeen → Type 0
DrillEnds searches status before after = RanOut status before after ⊎ DrillPut searches status before after

-- where the output doesn't fail and memory is there, the line is put whole
abbrev pub DrillCompletes : Status → OutputSeen → OutputSeen → Type 0
DrillCompletes status before after = ¬ Rose before.faults after.faults → (status ≡ Memory) ⊎ (status ≡ Done)

-- what is said of a call: how it ends, and that it does its work
pub record DrillSays (searches : ℕ) (status : Status) (before after : OutputSeen) : Type 0 where
  pub ends : DrillEnds searches status before after
  pub completes : DrillCompletes status before after
