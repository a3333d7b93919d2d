use Rattle.std.proofs.Common.{◌<◌, ◌++◌, [], length, take, List, Option, sym, ap, ◌∙◌, arith}
use Rattle.std.specs.List.{cons_option, filter_map}
use Rattle.std.specs.Option.{option_map}
use Rattle.farm_entry.specs.History.{opening_in}
use Rattle.farm_entry.specs.SearchLines.{search_line}
use Rattle.farm_entry.specs.declared.entry.Entry.{Entry}
use Rattle.farm_entry.specs.declared.search_list.SearchLine.{SearchLine}
use Rattle.plain_history.proofs.Holding.{is_held}
use Rattle.plain_history.proofs.Passes.{filtered-upto}
use Rattle.plain_farm.proofs.search_lines.search_lines.Goals as goal

pub search_line_in-requires-clause-held : goal.search_line_in-requires-clause-held
search_line_in-requires-clause-held c =
    let below : c.loop-entry.entry-index < length c.args.history.now = omega arith in
    is_held c.args.history.now c.loop-entry.entry-index c.entry-item.result below c.entry-item.is

pub loop-entry-preserved : goal.loop-entry-preserved
loop-entry-preserved c =
    let H = c.args.history.now in
    let i = c.loop-entry.entry-index in
    let below : i < length H = omega arith in
    let one = λ (e : Entry). option_map (search_line H e.at) (opening_in e.what) in
    c.in_ok-push_some.ensures.added
    ∙ ap (λ (xs : List SearchLine). xs ++ cons_option c.in_ok-search_line_in.field-0 []) c.loop-entry.invariant
    ∙ ap (λ (d : Option SearchLine). filter_map one (take i H) ++ cons_option d []) c.in_ok-search_line_in.ensures
    ∙ sym (filtered-upto one H i c.entry-item.result below c.entry-item.is)
