use Rattle.std.proofs.Common.{◌≡◌, take}
use Rattle.farm_entry.specs.History.{order_lines}
use Rattle.plain_history.proofs.filters.order_lines.Given as goal

abbrev pub invariant-loop-entry : goal.invariant-loop-entry
invariant-loop-entry l = l.lines.items ≡ order_lines (take l.entry-index l.history)
