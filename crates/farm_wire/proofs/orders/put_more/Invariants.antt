use Rattle.std.proofs.Common.{◌≡◌, ◌++◌, drop}
use Rattle.std.specs.Prelude.{string_bytes}
use Rattle.farm_wire.specs.Dates.{day_text}
use Rattle.farm_wire.specs.Pieces.{array_on}
use Rattle.farm_wire.specs.Replies.{order_data}
use Rattle.farm_wire.proofs.orders.put_more.Given as goal

abbrev pub invariant-loop-line : goal.invariant-loop-line
invariant-loop-line l =
    (l.out ++ array_on order_data (drop l.line-index l.lines) ≡ l.fn.out ++ array_on order_data l.lines)
    × (string_bytes l.date ≡ day_text l.day)
