use Rattle.std.proofs.Common.{◌≡◌, take}
use Rattle.kept_farm.specs.Lines.{search_lines_at}
use Rattle.kept_farm.proofs.search_list.search_lines_at.Given as goal

abbrev pub invariant-loop-row : goal.invariant-loop-row
invariant-loop-row l = l.lines.items ≡ search_lines_at l.ledger (take l.row-index l.rows)
