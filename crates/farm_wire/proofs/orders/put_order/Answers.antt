use Rattle.std.proofs.Common.{◌∙◌, ◌++◌, ap}
use Rattle.std.proofs.lemmas.Result.{on_ok_weaker}
use Rattle.farm_wire.proofs.Written.{behind, joined, put_behind-joined}
use Rattle.farm_wire.proofs.WrittenOrders.{joined-order, order_pieces}
use Rattle.farm_wire.proofs.orders.put_order.Goals as goal

pub returns : goal.returns
returns c =
    let old = c.args.out.now in
    let piece = c.args.piece.now in
    let line = c.args.line.now in
    let agent = c.text.result.now in
    on_ok_weaker c.put-2.result
    (λ put.
    behind _ put (behind _ c.in_ok-put_number-2.ensures (behind _ c.in_ok-put_number.ensures
    (behind _ c.in_ok-put_text-2.ensures (behind _ c.in_ok-put_commit.ensures (behind _ c.in_ok-put_text.ensures
    c.in_ok-put.ensures)))))
    ∙ put_behind-joined old (order_pieces piece line agent c.args.date.now)
    ∙ ap (λ text. old ++ joined (order_pieces piece line text c.args.date.now)) c.text.ensures.text
    ∙ ap (λ date. old ++ joined (order_pieces piece line line.agent date)) c.requires
    ∙ ap (λ text. old ++ text) (joined-order piece line))
    c.put-2.ensures
