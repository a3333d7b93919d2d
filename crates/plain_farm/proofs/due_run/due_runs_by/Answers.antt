use Rattle.std.proofs.Common.{◌<◌, ◌++◌, [], length, take, List, Option, sym, ap, ◌∙◌, arith}
use Rattle.std.specs.List.{cons_option, filter_map}
use Rattle.farm_types.specs.Moment.{moment_ms}
use Rattle.farm_entry.specs.Due.{due}
use Rattle.farm_entry.specs.History.{openings}
use Rattle.farm_entry.specs.declared.lease.DueRun.{DueRun}
use Rattle.farm_entry.specs.declared.opening.Opening.{Opening}
use Rattle.plain_history.proofs.Holding.{is_held}
use Rattle.plain_history.proofs.Passes.{made-upto}
use Rattle.plain_farm.proofs.due_run.due_runs_by.Goals as goal

pub due_in-requires-clause-held : goal.due_in-requires-clause-held
due_in-requires-clause-held c =
    let below : c.loop-entry.entry-index < length c.args.history.now = omega arith in
    is_held c.args.history.now c.loop-entry.entry-index c.entry-item.result below c.entry-item.is

pub loop-entry-preserved : goal.loop-entry-preserved
loop-entry-preserved c =
    let H = c.args.history.now in
    let i = c.loop-entry.entry-index in
    let below : i < length H = omega arith in
    let run_of = λ (o : Opening). due H o (moment_ms c.args.moment) in
    c.in_ok-push_some.ensures.added
    ∙ ap (λ (xs : List DueRun). xs ++ cons_option c.in_ok-due_in.field-0 []) c.loop-entry.invariant
    ∙ ap (λ (d : Option DueRun). filter_map run_of (openings (take i H)) ++ cons_option d []) c.in_ok-due_in.ensures
    ∙ sym (made-upto run_of H i c.entry-item.result below c.entry-item.is)
