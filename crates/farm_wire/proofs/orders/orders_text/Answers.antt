use Rattle.std.proofs.Common.{◌∙◌, [], ap}
use Rattle.farm_wire.proofs.Written.{behind, joined, put_behind-joined}
use Rattle.farm_wire.proofs.WrittenOrders.{joined-orders, orders_pieces}
use Rattle.farm_wire.proofs.orders.orders_text.Goals as goal

pub returns : goal.returns
returns c =
    c.into_text.ensures
    ∙ behind _ c.in_ok-put-2.ensures (behind _ c.in_ok-put_orders.ensures (behind _ c.in_ok-put.ensures
    c.in_ok-out.ensures))
    ∙ put_behind-joined [] (orders_pieces c.as_slice.result.now)
    ∙ ap (λ lines. joined (orders_pieces lines)) c.as_slice.ensures
    ∙ joined-orders c.args.page.now
