-- What the command `judge` does.
use Rattle.std.specs.Prelude.{◌≡◌, ℕ, ◌<◌, ◌≤◌, ◌⊎◌, List, [], length, take, drop, Some, Result, Ok, Err, MatchResult}
use Rattle.std.specs.Io.KnownBytes.{append_known}
use Rattle.common_types.specs.Counts.{Rose}
use Rattle.judge.specs.Answer.{judged}
use Rattle.link_io.specs.Streams.{Streams}
use Rattle.link_io.specs.declared.source.TheConstants.{INPUT_LIMIT}
use Rattle.finder_commands.specs.declared.status.Status.{Status}
use Rattle.finder_commands.specs.declared.status.Status.TheVariants.{Done, ReadFault, WriteFault, Memory, BadInput, InputLimit}

-- the answer's text, or nothing where the input is outside the form
abbrev pub text_of : Result (List ℕ) ℕ → List ℕ
text_of (Ok text) = text
text_of (Err line) = []

-- What each status says of an input that tells all its bytes. Done: it was read to its end, and its answer was written.
-- BadInput: it was read to its end, its first line outside the form has this number, and nothing was written.
-- InputLimit: so many bytes were taken and no more, and nothing was written. A fault of the input or the output comes
-- only where it failed in this call. What was written by then is a front of the answer. No other status comes
abbrev pub JudgeEnds : Status → Streams → Streams → Type 0
JudgeEnds Done before after =
    (all : List ℕ) → before.left ≡ Some all →
    (after.left ≡ Some [])
    × ((text : List ℕ) × (judged all ≡ Ok text) × (after.written ≡ append_known before.written text))
JudgeEnds ReadFault before after = Rose before.read_faults after.read_faults × (after.written ≡ before.written)
JudgeEnds WriteFault before after =
    Rose before.write_faults after.write_faults
    × ((all : List ℕ) → before.left ≡ Some all →
    (after.left ≡ Some [])
    × ((text : List ℕ) × (judged all ≡ Ok text)
    × ((n : ℕ) × (n < length text) × (after.written ≡ append_known before.written (take n text)))))
JudgeEnds Memory before after =
    (all : List ℕ) → before.left ≡ Some all →
    (n : ℕ) × (after.written ≡ append_known before.written (take n (text_of (judged all))))
JudgeEnds (BadInput line) before after =
    (after.written ≡ before.written)
    × ((all : List ℕ) → before.left ≡ Some all → (after.left ≡ Some []) × (judged all ≡ Err line))
JudgeEnds InputLimit before after =
    (after.written ≡ before.written)
    × ((all : List ℕ) → before.left ≡ Some all →
    (INPUT_LIMIT ≤ length all) × (after.left ≡ Some (drop INPUT_LIMIT all)))
JudgeEnds _ before after = ⊥

-- where nothing fails and memory is there, an input below the limit gets its answer or the number of its first line
-- outside the form, and a longer one gets InputLimit
abbrev pub JudgeCompletes : Status → Streams → Streams → Type 0
JudgeCompletes status before after =
    ¬ Rose before.read_faults after.read_faults → ¬ Rose before.write_faults after.write_faults →
    (all : List ℕ) → before.left ≡ Some all →
    (status ≡ Memory)
    ⊎ ((length all < INPUT_LIMIT) × MatchResult (judged all) (λ _. status ≡ Done) (λ line. status ≡ BadInput line))
    ⊎ ((INPUT_LIMIT ≤ length all) × (status ≡ InputLimit))

-- what is said of a call: how it ends, and that it does its work
pub record JudgeSays (status : Status) (before after : Streams) : Type 0 where
  pub ends : JudgeEnds status before after
  pub completes : JudgeCompletes status before after
