use Rattle.std.proofs.Common.{◌≡◌, ◌++◌, drop, map}
use Rattle.std.specs.Prelude.{string_bytes}
use Rattle.judge.specs.Text.{text_of}
use Rattle.farm_handover.specs.Handover.{order_line}
use Rattle.farm_handover.proofs.writing.push_orders.Given as goal

abbrev pub invariant-loop-order : goal.invariant-loop-order
invariant-loop-order l =
    string_bytes l.text ++ text_of (map order_line (drop l.order-index l.orders))
    ≡ string_bytes l.fn.text ++ text_of (map order_line l.orders)
