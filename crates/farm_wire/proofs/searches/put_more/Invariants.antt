use Rattle.std.proofs.Common.{◌≡◌, ◌++◌, drop}
use Rattle.farm_wire.specs.Pieces.{array_on}
use Rattle.farm_wire.specs.Replies.{search_data}
use Rattle.farm_wire.proofs.searches.put_more.Given as goal

abbrev pub invariant-loop-line : goal.invariant-loop-line
invariant-loop-line l =
    l.out ++ array_on search_data (drop l.line-index l.lines) ≡ l.fn.out ++ array_on search_data l.lines
