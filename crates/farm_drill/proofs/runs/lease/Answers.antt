use Rattle.std.proofs.Common.{◌≡◌, ◌⊎◌, List, Option, IfSome, IfNone, subst, sym}
use Rattle.farm_entry.specs.declared.entry.Entry.{Entry}
use Rattle.farm_entry.specs.declared.lease.LeasedRun.{LeasedRun}
use Rattle.shared_farm.proofs.ByCommands.{by-whole}
use Rattle.farm_drill.specs.Ends.{IsFull}
use Rattle.farm_drill.specs.Steps.{FindsNone, HandsOut}
use Rattle.farm_drill.proofs.Leases.{lease-says}
use Rattle.farm_drill.proofs.runs.lease.Goals as goal

pub returns-clause-leased : goal.returns-clause-leased
returns-clause-leased c =
    let H : List Entry = c.args.store.now.history in
    let new : List Entry = c.ask.new.store.history in
    let said = lease-says H c.args.key c.in_ok-worker.worker c.drill_moment.result c.in_ok-given.given new
    c.requires.legal
    c.requires.by_commands.unclosed c.requires.free c.drill_moment.ensures (c.in_ok-given.ensures.says c.requires.decided) in
    subst (λ (o : Option LeasedRun). IfSome o (λ (l : LeasedRun). HandsOut H c.args.key l new))
    (sym c.run_given.ensures)
    said.leased

pub returns-clause-none : goal.returns-clause-none
returns-clause-none c =
    let H : List Entry = c.args.store.now.history in
    let new : List Entry = c.ask.new.store.history in
    let said = lease-says H c.args.key c.in_ok-worker.worker c.drill_moment.result c.in_ok-given.given new
    c.requires.legal
    c.requires.by_commands.unclosed c.requires.free c.drill_moment.ensures (c.in_ok-given.ensures.says c.requires.decided) in
    subst (λ (o : Option LeasedRun). IfNone o ((new ≡ H) × (IsFull new ⊎ FindsNone new)))
    (sym c.run_given.ensures) said.none

pub returns-clause-by_commands : goal.returns-clause-by_commands
returns-clause-by_commands c = c.in_ok-given.ensures.by_commands
    (by-whole c.args.store.now.history c.args.store.now.pending c.requires.decided c.requires.by_commands)
