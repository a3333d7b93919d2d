use Rattle.std.proofs.Common.{refl}
use Rattle.farm_disk.specs.contracts.in_memory.calm_disk.CalmDiskDisk.TheImpl.{ghosts}
use Rattle.farm_drill.proofs.Turns.{turn-keeps}
use Rattle.farm_drill.proofs.worker.report.Goals as goal

pub returns-in-Ok-clause-keeps : goal.returns-in-Ok-clause-keeps
returns-in-Ok-clause-keeps g c =
    turn-keeps ghosts.count (λ d. refl) c.args.farm.now c.report_of-command.result c.drill_moment.result c.enter.result
    c.args.pass.now c.enter.new.pass c.enter.ensures.turn c.enter.ensures.keeps c.requires.by_plan
    (c.report_of-command.ensures c.args.pass.now.seen c.requires.tested)

pub returns-clause-keeps : goal.returns-clause-keeps
returns-clause-keeps g c =
    turn-keeps ghosts.count (λ d. refl) c.args.farm.now c.report_of-command.result c.drill_moment.result c.enter.result
    c.args.pass.now c.enter.new.pass c.enter.ensures.turn c.enter.ensures.keeps c.requires.by_plan
    (c.report_of-command.ensures c.args.pass.now.seen c.requires.tested)
