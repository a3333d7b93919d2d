-- What becomes of a text that is put to the output.
use Rattle.std.specs.Prelude.{◌≡◌, ℕ, ◌<◌, List, length, take}
use Rattle.std.specs.Io.KnownBytes.{append_known}
use Rattle.outside_seen.specs.Outside.{OutputSeen}
use Rattle.common_types.specs.Counts.{Rose}
use Rattle.finder_commands.specs.declared.status.Status.{Status}
use Rattle.finder_commands.specs.declared.status.Status.TheVariants.{Done, WriteFault, Memory}

-- What each status says of it. Done: all of it was put. WriteFault: the output failed, and not all was put. Memory: a
-- prefix was put. No other comes.
abbrev pub TextPut : List ℕ → Status → OutputSeen → OutputSeen → Type 0
TextPut text Done before after = after.written ≡ append_known before.written text
TextPut text WriteFault before after =
    Rose before.faults after.faults
    × ((n : ℕ) × (n < length text) × (after.written ≡ append_known before.written (take n text)))
TextPut text Memory before after = (n : ℕ) × (after.written ≡ append_known before.written (take n text))
TextPut text _ before after = ⊥
