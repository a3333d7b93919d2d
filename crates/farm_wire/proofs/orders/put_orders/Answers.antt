use Rattle.std.proofs.lemmas.Result.{on_ok_weaker}
use Rattle.farm_wire.specs.Replies.{order_data}
use Rattle.farm_wire.proofs.WrittenItems.{items-none, items-some, no-items}
use Rattle.farm_wire.proofs.orders.put_orders.Goals as goal

pub returns-in_ok-put_order-in-Some : goal.returns-in_ok-put_order-in-Some
returns-in_ok-put_order-in-Some c =
    on_ok_weaker c.put_more.result
    (λ put. items-some order_data c.args.out.now c.put_order.new.out c.put_more.new.out c.args.lines.now
    c.in-Some.more.now c.in-Some.first.now c.in-Some.ensures.cases.0 c.in_ok-put_order-in-Some.ensures put)
    c.put_more.ensures

pub returns-in-None : goal.returns-in-None
returns-in-None c =
    on_ok_weaker c.put.result
    (λ put. items-none order_data c.args.out.now c.put.new.self c.args.lines.now
    (no-items c.args.lines.now c.in-None.ensures.cases) put)
    c.put.ensures
