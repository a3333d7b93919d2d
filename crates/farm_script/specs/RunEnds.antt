-- What the end of a run says.
use Rattle.std.specs.Prelude.{◌≡◌, ℕ, ◌<◌, ◌≤◌, ◌⊎◌, Bool, true, false, List, [], Some, length}
use Rattle.std.specs.Option.{ForSome}
use Rattle.std.specs.Io.KnownBytes.{prepend_known}
use Rattle.common_types.specs.Counts.{Rose}
use Rattle.link_io.specs.Streams.{Streams}
use Rattle.link_io.specs.declared.source.TheConstants.{INPUT_LIMIT}
use Rattle.farm_script.specs.Lines.{counted_lines, ended_lines, lines}
use Rattle.farm_script.specs.Script.{Answered, FailsIn, Rule, SomeAnswered}
use Rattle.farm_script.specs.declared.run_end.RunEnd.{RunEnd}
use Rattle.farm_script.specs.declared.run_end.RunEnd.TheVariants.{Done, ReadFault, WriteFault, StoreFault, Memory}
use Rattle.farm_script.specs.declared.run_end.RunEnd.TheVariants.{InputLimit}

-- what contracts see of a run: its input and output, the history, and what a fault of the store left undecided
pub record Seen (E : Type 0) : Type 0 where
  pub streams : Streams
  pub history : List E
  pub pending : List E

-- these bytes were taken, no more than the limit; and the input was read to its end, where this is said
pub record HasTaken (before after : Streams) (taken : List ℕ) (at_end : Bool) : Type 0 where
  pub bytes : before.left ≡ prepend_known taken after.left
  pub few : length taken ≤ INPUT_LIMIT
  pub ended : at_end ≡ true → ForSome after.left (λ rest. rest ≡ [])

-- all of these lines were answered, and nothing else was
abbrev pub AllAnswered : {E : Type 0} → Rule E → Seen E → Seen E → List (List ℕ) → Type 0
AllAnswered rule before after counted =
    Answered rule before.history before.streams.written counted after.history after.streams.written

-- the run stopped among the lines that count of what it had taken
abbrev pub Stopped : {E : Type 0} → Rule E → Seen E → Seen E → Type 0
Stopped rule before after =
    (taken : List ℕ) × (at_end : Bool) × HasTaken before.streams after.streams taken at_end
    × SomeAnswered rule before.history before.streams.written (counted_lines at_end taken) after.history
    after.streams.written

-- the store failed at one of the lines that count of what the run had taken
abbrev pub StoppedByStore : {E : Type 0} → Rule E → Seen E → Seen E → Type 0
StoppedByStore rule before after =
    (taken : List ℕ) × (at_end : Bool) × HasTaken before.streams after.streams taken at_end
    × FailsIn rule before.history before.streams.written (counted_lines at_end taken) after.history after.pending
    after.streams.written

-- What each end says. Done: the input was read to its end, which came within the limit, and all its lines were
-- answered. ReadFault, InputLimit: all lines that count were answered. StoreFault: all up to a line that counts, and
-- what is pending is what that line adds. WriteFault, Memory: some of the lines that count. A fault of the input or
-- the output comes only where it failed in this run
abbrev pub RunEnds : {E : Type 0} → Rule E → RunEnd → Seen E → Seen E → Type 0
RunEnds rule Done before after =
    (taken : List ℕ) × HasTaken before.streams after.streams taken true × (length taken < INPUT_LIMIT)
    × AllAnswered rule before after (lines taken)
RunEnds rule ReadFault before after =
    Rose before.streams.read_faults after.streams.read_faults
    × ((taken : List ℕ) × HasTaken before.streams after.streams taken false
    × AllAnswered rule before after (ended_lines taken))
RunEnds rule InputLimit before after =
    (taken : List ℕ) × HasTaken before.streams after.streams taken false × (length taken ≡ INPUT_LIMIT)
    × AllAnswered rule before after (ended_lines taken)
RunEnds rule WriteFault before after =
    Rose before.streams.write_faults after.streams.write_faults × Stopped rule before after
RunEnds rule StoreFault before after = StoppedByStore rule before after
RunEnds rule Memory before after = Stopped rule before after

-- where nothing fails, the store neither, and memory is there, a run over an input below the limit is done, and one
-- over a longer input stops at the limit
abbrev pub RunCompletes : RunEnd → Streams → Streams → Type 0
RunCompletes end before after =
    ¬ Rose before.read_faults after.read_faults → ¬ Rose before.write_faults after.write_faults
    → (all : List ℕ) → before.left ≡ Some all
    → (end ≡ Memory) ⊎ (end ≡ StoreFault) ⊎ ((length all < INPUT_LIMIT) × (end ≡ Done))
    ⊎ ((INPUT_LIMIT ≤ length all) × (end ≡ InputLimit))
