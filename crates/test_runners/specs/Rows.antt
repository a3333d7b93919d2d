-- The rows of a table of what tests say, as lines write them.
use Rattle.std.specs.Prelude.{◌≡◌, ℕ, List, take, drop, is_none, if◌then◌else◌, Result, Ok, Err, codes, ⊤}
use Rattle.std.specs.Str.{bytes_eq}
use Rattle.hex.specs.Hex.{decode_sized}
use Rattle.hex.specs.declared.error.FromHexError.{FromHexError}
use Rattle.farm_types.specs.CommitId.{id_bytes}
use Rattle.farm_types.specs.Name.{name_fault}
use Rattle.farm_types.specs.declared.commit_id.TheConstants.{ID_BYTES, ID_DIGITS}
use Rattle.weight_exact.specs.declared.run.Verdict.TheVariants.{Pass, Fail}
use Rattle.worker_core.specs.declared.tested.Tested.{Tested}
use Rattle.worker_core.specs.declared.tested.Tested.TheVariants as tested
use Rattle.test_runners.specs.declared.row.Row.{Row}
use Rattle.test_runners.specs.declared.row.RowFault.{RowFault}
use Rattle.test_runners.specs.declared.row.RowFault.TheVariants as fault

-- what comes of a test, by the bytes of its name, at a commit, by the bytes of its id
pub record TableRow : Type 0 where
  pub commit : List ℕ
  pub tested : Tested
  pub test : List ℕ

abbrev pub row_seen : Row → TableRow
row_seen row = record { commit = id_bytes row.commit; tested = row.tested; test = row.test }

-- the row with this text for its test, which has to be a name
abbrev pub named_row : (commit : List ℕ) → Tested → (test : List ℕ) → Result TableRow RowFault
named_row commit said test =
    if is_none (name_fault test) then Ok (record { commit = commit; tested = said; test = test }) else Err fault.Test

-- the row of a commit where this follows its digits: a word with a space before it and behind it, and a name
abbrev pub tested_row : (commit : List ℕ) → (rest : List ℕ) → Result TableRow RowFault
tested_row commit rest =
    if bytes_eq (take 6 rest) (codes " pass ") then named_row commit (tested.Verdict Pass) (drop 6 rest)
    else if bytes_eq (take 6 rest) (codes " fail ") then named_row commit (tested.Verdict Fail) (drop 6 rest)
    else if bytes_eq (take 6 rest) (codes " skip ") then named_row commit tested.Untestable (drop 6 rest)
    else Err fault.Verdict

-- the row of a commit that was read of its digits
abbrev pub row_by : Result (List ℕ) FromHexError → (rest : List ℕ) → Result TableRow RowFault
row_by (Ok commit) rest = tested_row commit rest
row_by (Err other) rest = Err fault.Commit

-- the row that a line writes, `COMMIT WORD TEST`, or its first fault
abbrev pub row_of : (line : List ℕ) → Result TableRow RowFault
row_of line = row_by (decode_sized (take ID_DIGITS line) ID_BYTES) (drop ID_DIGITS line)

-- what was read of a line, unless memory ran out for it
abbrev pub IsRead : Result TableRow RowFault → Result Row RowFault → Type 0
IsRead written (Ok row) = written ≡ Ok (row_seen row)
IsRead written (Err fault.Memory) = ⊤
IsRead written (Err why) = written ≡ Err why
