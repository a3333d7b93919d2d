use Rattle.std.proofs.Common.{◌<◌, ℕ, List, [], ◌++◌, length, sym, ap, ◌∙◌, arith}
use Rattle.std.specs.List.{cons_option}
use Rattle.farm_entry.specs.declared.entry.Entry.{Entry}
use Rattle.farm_entry.specs.declared.order_page.OrderLine.{OrderLine}
use Rattle.kept_farm.proofs.Places.{lines-upto}
use Rattle.kept_farm.proofs.order_places.lines_at.Goals as goal

pub loop-place-preserved : goal.loop-place-preserved
loop-place-preserved c =
    let H : List Entry = c.args.history.now in
    let places : List ℕ = c.args.places.now in
    let i : ℕ = c.loop-place.place-index in
    let below : i < length places = omega arith in
    c.in_ok-push_some.ensures.added
    ∙ ap (λ (ls : List OrderLine). ls ++ cons_option c.in_ok-line_at.field-0 []) c.loop-place.invariant
    ∙ sym (lines-upto H places i c.in_ok-line_at.field-0 below c.in_ok-line_at.ensures)
