use Rattle.std.proofs.Common.{◌∙◌, ◌++◌, codes, refl, ap}
use Rattle.std.proofs.lemmas.Result.{on_ok_weaker}
use Rattle.serde_json.specs.Written.{compact_text}
use Rattle.farm_entry.specs.declared.order_page.OrderLine.{OrderLine}
use Rattle.farm_wire.specs.Replies.{order_data}
use Rattle.farm_wire.proofs.WrittenItems.{items-all, items-next}
use Rattle.farm_wire.proofs.orders.put_more.Goals as goal

pub loop-line-init : goal.loop-line-init
loop-line-init c = (refl, c.requires.date)

pub loop-line-preserved : goal.loop-line-preserved
loop-line-preserved c =
    let l = c.loop-line in (
      items-next order_data l.out c.put_order.new.out c.args.lines.now l.line-index c.line-item.result
          c.loop-line-test.true
          (c.in_ok-put_order.ensures
          ∙ ap (λ (line : OrderLine). l.out ++ (codes "," ++ compact_text (order_data line))) c.line-item.is)
          ∙ l.invariant.0,
      c.in_ok-date.ensures,
    )

pub returns : goal.returns
returns c =
    on_ok_weaker c.put.result
    (λ put. items-all order_data c.args.out.now c.loop-line.out c.put.new.self c.args.lines.now c.loop-line.line-index
    c.loop-line-test.false c.loop-line.invariant.0 put)
    c.put.ensures
