-- The rows of a table, one line after the other.
use Rattle.std.proofs.Common.{◌≡◌, ℕ, ◌+◌, true, false, List, ◌∷◌, ◌++◌, Some, Result, Ok, Err, refl}
use Rattle.test_runners.specs.Rows.{TableRow}
use Rattle.test_runners.specs.Tables.{is_row_of, tested_in}
use Rattle.test_runners.specs.declared.table.TableFault.{TableFault}

-- rows that were read, before those of the lines that are left
abbrev pub behind : List TableRow → Result (List TableRow) TableFault → Result (List TableRow) TableFault
behind rows (Ok others) = Ok (rows ++ others)
behind rows (Err fault) = Err fault

-- the first of some rows is of the test and commit, or it isn't
pub tested-here : (row : TableRow) (rows : List TableRow) (test commit : List ℕ) → is_row_of test commit row ≡ true →
    tested_in (row ∷ rows) test commit ≡ Some row.tested
tested-here row rows test commit is = rw is refl

pub tested-behind : (row : TableRow) (rows : List TableRow) (test commit : List ℕ) → is_row_of test commit row ≡ false →
    tested_in (row ∷ rows) test commit ≡ tested_in rows test commit
tested-behind row rows test commit is = rw is refl
