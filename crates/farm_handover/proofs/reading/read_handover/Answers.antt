use Rattle.std.proofs.Common.{◌≡◌, Ok, rules}
use Rattle.farm_handover.specs.Handover.{handed_over}
use Rattle.farm_handover.proofs.Carried.{handed_over-fit}
use Rattle.farm_handover.proofs.reading.read_handover.Goals as goal

pub returns-in_default-order_in_line-clause-fit : goal.returns-in_default-order_in_line-clause-fit
returns-in_default-order_in_line-clause-fit c =
    let read : handed_over c.args.input.now ≡ Ok c.into_orders.result.items = search rules in
    handed_over-fit c.args.input.now c.into_orders.result.items read
