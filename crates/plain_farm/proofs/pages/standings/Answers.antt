use Rattle.std.proofs.Common.{◌<◌, ◌++◌, [], length, map, take, List, Option, sym, ap, ◌∙◌, arith}
use Rattle.std.specs.List.{cons_option}
use Rattle.farm_entry.specs.History.{openings}
use Rattle.farm_entry.specs.Standing.{standing}
use Rattle.farm_entry.specs.declared.standing.Standing.{Standing}
use Rattle.plain_history.proofs.Holding.{is_held}
use Rattle.plain_history.proofs.Passes.{mapped-upto}
use Rattle.plain_farm.proofs.pages.standings.Goals as goal

pub standing_in-requires-clause-held : goal.standing_in-requires-clause-held
standing_in-requires-clause-held c =
    let below : c.loop-entry.entry-index < length c.args.history.now = omega arith in
    is_held c.args.history.now c.loop-entry.entry-index c.entry-item.result below c.entry-item.is

pub loop-entry-preserved : goal.loop-entry-preserved
loop-entry-preserved c =
    let H = c.args.history.now in
    let i = c.loop-entry.entry-index in
    let below : i < length H = omega arith in
    c.in_ok-push_some.ensures.added
    ∙ ap (λ (xs : List Standing). xs ++ cons_option c.in_ok-standing_in.field-0 []) c.loop-entry.invariant
    ∙ ap (λ (d : Option Standing). map (standing H) (openings (take i H)) ++ cons_option d []) c.in_ok-standing_in.ensures
    ∙ sym (mapped-upto (standing H) H i c.entry-item.result below c.entry-item.is)
