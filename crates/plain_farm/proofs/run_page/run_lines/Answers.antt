use Rattle.std.proofs.Common.{◌<◌, ◌++◌, [], length, take, List, Option, sym, ap, ◌∙◌, arith}
use Rattle.std.specs.List.{cons_option, filter_map}
use Rattle.farm_entry.specs.RunPages.{run_line}
use Rattle.farm_entry.specs.declared.entry.Entry.{Entry}
use Rattle.farm_entry.specs.declared.run_page.RunLine.{RunLine}
use Rattle.plain_history.proofs.Passes.{filtered-upto}
use Rattle.plain_farm.proofs.run_page.run_lines.Goals as goal

pub loop-entry-preserved : goal.loop-entry-preserved
loop-entry-preserved c =
    let H = c.args.history.now in
    let i = c.loop-entry.entry-index in
    let below : i < length H = omega arith in
    let one = λ (e : Entry). run_line H c.args.opening.now e.at e.what in
    c.in_ok-push_some.ensures.added
    ∙ ap (λ (xs : List RunLine). xs ++ cons_option c.in_ok-run_line.field-0 []) c.loop-entry.invariant
    ∙ ap (λ (d : Option RunLine). filter_map one (take i H) ++ cons_option d []) c.in_ok-run_line.ensures
    ∙ sym (filtered-upto one H i c.entry-item.result below c.entry-item.is)
