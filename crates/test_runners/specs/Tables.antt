-- Tables of what tests say, as texts write them, and what they say.
use Rattle.std.specs.Prelude.{ℕ, ◌+◌, Bool, ◌&&◌, List, [], ◌∷◌, if◌then◌else◌, Option, Some, None, Result, Ok, Err}
use Rattle.std.specs.Str.{bytes_eq}
use Rattle.worker_core.specs.declared.tested.Tested.{Tested}
use Rattle.test_runners.specs.Lines.{lines}
use Rattle.test_runners.specs.Rows.{TableRow, row_of}
use Rattle.test_runners.specs.declared.row.RowFault.{RowFault}
use Rattle.test_runners.specs.declared.table.TableFault.{TableFault}
use Rattle.test_runners.specs.declared.table.TableFault.TheVariants.{Line}

-- a row before the rows of the lines behind it; the first fault counts
abbrev pub with_row : (number : ℕ) → Result TableRow RowFault → Result (List TableRow) TableFault →
    Result (List TableRow) TableFault
with_row number (Err why) behind = Err (Line number why)
with_row number (Ok row) (Err fault) = Err fault
with_row number (Ok row) (Ok rows) = Ok (row ∷ rows)

-- the rows that lines write, of which the first has this number
abbrev pub rows_of : (number : ℕ) → List (List ℕ) → Result (List TableRow) TableFault
rows_of number [] = Ok []
rows_of number (line ∷ behind) = with_row number (row_of line) (rows_of (number + 1) behind)

-- the rows that a text writes, one in each line, or its first line that is none
abbrev pub table_of : (text : List ℕ) → Result (List TableRow) TableFault
table_of text = rows_of 1 (lines text)

abbrev pub is_row_of : (test commit : List ℕ) → TableRow → Bool
is_row_of test commit row = bytes_eq row.commit commit && bytes_eq row.test test

-- what the first row of a test at a commit says
abbrev pub tested_in : List TableRow → (test commit : List ℕ) → Option Tested
tested_in [] test commit = None
tested_in (row ∷ rows) test commit =
    if is_row_of test commit row then Some row.tested else tested_in rows test commit
