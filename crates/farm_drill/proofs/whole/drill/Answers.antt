use Rattle.shared_farm.proofs.ByCommands.{by-whole}
use Rattle.farm_drill.proofs.Growing.{founded-start}
use Rattle.farm_drill.proofs.Starts.{start-by_commands, start-goes}
use Rattle.farm_drill.proofs.whole.drill.Goals as goal

pub run_workers-requires-clause-by_commands : goal.run_workers-requires-clause-by_commands
run_workers-requires-clause-by_commands g c κs within =
    let opened = c.in_ok-opened in
    by-whole opened.opened.history opened.opened.pending opened.ensures.decided
    (start-by_commands c.args.searches opened.opened.history opened.ensures.start)

pub run_workers-requires-clause-planned : goal.run_workers-requires-clause-planned
run_workers-requires-clause-planned g c κs within =
    let opened = c.in_ok-opened in start-goes c.args.searches opened.opened.history opened.ensures.start

pub end_drill-requires-clause-founded : goal.end_drill-requires-clause-founded
end_drill-requires-clause-founded g c =
    founded-start c.args.searches c.in_ok-opened.opened.history c.in_ok-store.store.history
    c.in_ok-opened.ensures.start c.in_ok-store.ensures.longer

pub returns-in-Ok-clause-drilled : goal.returns-in-Ok-clause-drilled
returns-in-Ok-clause-drilled g c =
    c.in-Ok.ensures.drilled c.args.searches c.in_ok-opened.opened.history c.in_ok-opened.ensures.start
    c.in_ok-store.ensures.longer
