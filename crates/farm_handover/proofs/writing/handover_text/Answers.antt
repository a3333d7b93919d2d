use Rattle.std.proofs.Common.{◌≡◌, ◌∙◌, ap, arith, length, string_bytes}
use Rattle.farm_entry.specs.Orders.{orders}
use Rattle.farm_handover.proofs.Texts.{handover-spelled}
use Rattle.farm_handover.proofs.writing.handover_text.Goals as goal

pub returns : goal.returns
returns c =
    let count : c.len-count.result ≡ length c.deref.result.now =
    omega (arith, c.len-count.ensures, ap length c.deref.ensures.value) in
    handover-spelled c.deref.result.now (orders c.args.history.now) (string_bytes c.new-text.result)
    (string_bytes c.push_orders.new.text) (string_bytes c.writeln.new.self) c.len-count.result
    (c.deref.ensures.value ∙ c.in_ok-orders.ensures) count c.new-text.ensures.bytes c.in_ok-push_orders.ensures
    c.in_ok-writeln.ensures.bytes
