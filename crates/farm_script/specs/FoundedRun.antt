-- The run of a script over a farm in memory that is founded for it.
use Rattle.std.specs.Prelude.{◌≡◌, ℕ, ◌<◌, ◌≤◌, ◌⊎◌, List, [], ◌∷◌, Some, length}
use Rattle.common_types.specs.Counts.{Rose}
use Rattle.link_io.specs.Streams.{Streams}
use Rattle.link_io.specs.declared.source.TheConstants.{INPUT_LIMIT}
use Rattle.farm_types.specs.declared.moment.Moment.{Moment}
use Rattle.farm_entry.specs.declared.entry.Entry.{Entry}
use Rattle.farm_entry.specs.declared.entry.What.TheVariants.{Founded}
use Rattle.farm_entry.specs.declared.settings.Settings.{Settings}
use Rattle.farm_script.specs.FarmRule.{farm_rule}
use Rattle.farm_script.specs.RunEnds.{RunEnds, Seen}
use Rattle.farm_script.specs.declared.run_end.RunEnd.{RunEnd}
use Rattle.farm_script.specs.declared.run_end.RunEnd.TheVariants.{Done, Memory, InputLimit}

-- the history of a farm that was just founded
abbrev pub founding : Settings → Moment → List Entry
founding settings at = record { at = at; what = Founded settings } ∷ []

-- what is seen of a run over a farm in memory: its streams, and the farm's history
abbrev pub in_memory : Streams → List Entry → Seen Entry
in_memory streams history = record { streams = streams; history = history; pending = [] }

-- the run ends so, from the founding, whatever the history at its end
abbrev pub FoundedRunEnds : Settings → Moment → RunEnd → Streams → Streams → Type 0
FoundedRunEnds settings at end before after =
    (history : List Entry)
    × RunEnds farm_rule end (in_memory before (founding settings at)) (in_memory after history)

-- where nothing fails and memory is there, a run over an input below the limit is done, and one over a longer input
-- stops at the limit
abbrev pub FoundedRunCompletes : RunEnd → Streams → Streams → Type 0
FoundedRunCompletes end before after =
    ¬ Rose before.read_faults after.read_faults → ¬ Rose before.write_faults after.write_faults
    → (all : List ℕ) → before.left ≡ Some all
    → (end ≡ Memory) ⊎ ((length all < INPUT_LIMIT) × (end ≡ Done))
    ⊎ ((INPUT_LIMIT ≤ length all) × (end ≡ InputLimit))
