use Rattle.std.proofs.Common.{◌≡◌, ◌≤◌, ◌+◌, map, length}
use Rattle.test_runners.specs.Lines.{lines}
use Rattle.test_runners.specs.Rows.{row_seen}
use Rattle.test_runners.specs.Tables.{rows_of, table_of}
use Rattle.test_runners.proofs.Tables.{behind}
use Rattle.test_runners.proofs.table.read_table.Given as goal

abbrev pub invariant-loop-rest : goal.invariant-loop-rest
invariant-loop-rest l = record {
  left : behind (map row_seen l.rows.items) (rows_of l.number (lines l.rest)) ≡ table_of l.fn.text;
  countable : l.number + length l.rest ≤ length l.fn.text + 1;
}

abbrev pub decreases-loop-rest : goal.decreases-loop-rest
decreases-loop-rest l = length l.rest
