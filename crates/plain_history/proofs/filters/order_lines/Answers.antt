use Rattle.std.proofs.Common.{◌<◌, ◌++◌, [], length, take, List, Option, refl, sym, ap, ◌∙◌, arith}
use Rattle.std.specs.List.{cons_option}
use Rattle.farm_entry.specs.History.{order_in, order_lines}
use Rattle.farm_entry.specs.declared.order_page.OrderLine.{OrderLine}
use Rattle.plain_history.proofs.Passes.{order_lines-upto}
use Rattle.plain_history.proofs.filters.order_lines.Goals as goal

pub loop-entry-preserved : goal.loop-entry-preserved
loop-entry-preserved c =
    let H = c.args.history.now in
    let i = c.loop-entry.entry-index in
    let e = c.entry-item.result in
    let below : i < length H = omega arith in
    c.in_ok-push_some.ensures.added
    ∙ ap (λ (xs : List OrderLine). xs ++ cons_option c.in_ok-order.field-0 []) c.loop-entry.invariant
    ∙ ap (λ (o : Option OrderLine). order_lines (take i H) ++ cons_option o []) c.in_ok-order.ensures
    ∙ sym (order_lines-upto H i e (order_in e.what) below c.entry-item.is refl)
