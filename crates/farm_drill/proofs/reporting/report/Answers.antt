use Rattle.std.proofs.Common.{◌≡◌, Bool, true, List, MatchBool, ap, subst, sym, ◌∙◌}
use Rattle.weight_exact.specs.declared.run.Verdict.{Verdict}
use Rattle.farm_types.specs.declared.moment.Moment.{Moment}
use Rattle.farm_entry.specs.Decision.{decide}
use Rattle.farm_entry.specs.History.{is_reported}
use Rattle.farm_entry.specs.Playing.{after}
use Rattle.farm_entry.specs.declared.command.Command.TheVariants.{Report}
use Rattle.farm_entry.specs.declared.entry.Entry.{Entry}
use Rattle.drill_plan.specs.Plan.{planned_verdict}
use Rattle.shared_farm.proofs.ByCommands.{by-whole}
use Rattle.farm_drill.specs.Ends.{IsFull}
use Rattle.farm_drill.proofs.Deciding.{reported-goes}
use Rattle.farm_drill.proofs.Steps.{asked-after, report-says}
use Rattle.farm_drill.proofs.reporting.report.Goals as goal

pub returns-clause-said : goal.returns-clause-said
returns-clause-said c =
    let H : List Entry = c.args.store.now.history in
    let lease = c.args.lease in
    asked-after H c.ask.new.store.history (Report lease.run c.planned_verdict.result) c.drill_moment.result
    c.in_ok-given.given (c.in_ok-given.ensures.says c.requires.decided)
    ∙ ap (λ (v : Verdict). after H (decide H (Report lease.run v) c.drill_moment.result)) c.planned_verdict.ensures
    ∙ ap (λ (m : Moment). after H (decide H (Report lease.run (planned_verdict lease.search lease.position)) m))
    c.drill_moment.ensures

pub returns-clause-planned : goal.returns-clause-planned
returns-clause-planned c goes =
    let H : List Entry = c.args.store.now.history in
    let lease = c.args.lease in
    reported-goes H c.ask.new.store.history lease c.drill_moment.result c.requires.legal c.requires.lease
    (asked-after H c.ask.new.store.history (Report lease.run c.planned_verdict.result) c.drill_moment.result
    c.in_ok-given.given (c.in_ok-given.ensures.says c.requires.decided)
    ∙ ap (λ (v : Verdict). after H (decide H (Report lease.run v) c.drill_moment.result)) c.planned_verdict.ensures)
    goes

pub returns-clause-reported : goal.returns-clause-reported
returns-clause-reported c =
    let said = report-says c.args.store.now.history c.args.lease c.planned_verdict.result c.drill_moment.result
    c.in_ok-given.given c.ask.new.store.history c.requires.legal c.requires.by_commands.unclosed c.requires.lease
    (c.in_ok-given.ensures.says c.requires.decided) in
    subst (λ (b : Bool). MatchBool b (is_reported c.ask.new.store.history c.args.lease.run ≡ true)
    (IsFull c.ask.new.store.history)) (sym c.is_ok.ensures.value) said.reported

pub returns-clause-leases : goal.returns-clause-leases
returns-clause-leases c =
    let said = report-says c.args.store.now.history c.args.lease c.planned_verdict.result c.drill_moment.result
    c.in_ok-given.given c.ask.new.store.history c.requires.legal c.requires.by_commands.unclosed c.requires.lease
    (c.in_ok-given.ensures.says c.requires.decided) in
    said.leases

pub returns-clause-keys : goal.returns-clause-keys
returns-clause-keys c =
    let said = report-says c.args.store.now.history c.args.lease c.planned_verdict.result c.drill_moment.result
    c.in_ok-given.given c.ask.new.store.history c.requires.legal c.requires.by_commands.unclosed c.requires.lease
    (c.in_ok-given.ensures.says c.requires.decided) in
    said.keys

pub returns-clause-by_commands : goal.returns-clause-by_commands
returns-clause-by_commands c = c.in_ok-given.ensures.by_commands
    (by-whole c.args.store.now.history c.args.store.now.pending c.requires.decided c.requires.by_commands)
