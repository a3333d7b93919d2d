use Rattle.std.proofs.Common.{◌<◌, ◌++◌, [], length, take, List, Option, sym, ap, ◌∙◌, arith}
use Rattle.std.specs.List.{cons_option, filter_map}
use Rattle.farm_rules.specs.declared.orders.Candidate.{Candidate}
use Rattle.farm_entry.specs.History.{openings}
use Rattle.farm_entry.specs.Orders.{confirmed_at}
use Rattle.farm_entry.specs.Standing.{standing}
use Rattle.farm_entry.specs.declared.opening.Opening.{Opening}
use Rattle.plain_history.proofs.Holding.{is_held}
use Rattle.plain_history.proofs.Passes.{made-upto}
use Rattle.plain_farm.proofs.orders.confirmed_by.Goals as goal

pub confirmed_in-requires-clause-held : goal.confirmed_in-requires-clause-held
confirmed_in-requires-clause-held c =
    let below : c.loop-entry.entry-index < length c.args.history.now = omega arith in
    is_held c.args.history.now c.loop-entry.entry-index c.entry-item.result below c.entry-item.is

pub loop-entry-preserved : goal.loop-entry-preserved
loop-entry-preserved c =
    let H = c.args.history.now in
    let i = c.loop-entry.entry-index in
    let below : i < length H = omega arith in
    let one = λ (o : Opening). confirmed_at (standing H o) o in
    c.in_ok-push_some.ensures.added
    ∙ ap (λ (xs : List Candidate). xs ++ cons_option c.in_ok-confirmed_in.field-0 []) c.loop-entry.invariant
    ∙ ap (λ (d : Option Candidate). filter_map one (openings (take i H)) ++ cons_option d []) c.in_ok-confirmed_in.ensures
    ∙ sym (made-upto one H i c.entry-item.result below c.entry-item.is)
