use Rattle.std.proofs.Common.{Option, Ok, ap, refl, ◌∙◌}
use Rattle.farm_disk.specs.contracts.in_memory.calm_disk.CalmDiskDisk.TheImpl.{ghosts}
use Rattle.farm_entry.specs.declared.lease.LeasedRun.{LeasedRun}
use Rattle.farm_drill.proofs.Turns.{turn-keeps, turn-leased}
use Rattle.farm_drill.proofs.Work.{lease-asks, taken-came}
use Rattle.farm_drill.proofs.worker.Worker.lease.Goals as goal

pub returns-in-Ok-clause-keeps : goal.returns-in-Ok-clause-keeps
returns-in-Ok-clause-keeps g c =
    let asked = c.put_key.new.self.request in
    turn-keeps ghosts.count (λ d. refl) c.args.farm.now asked c.drill_moment.result c.enter.result c.args.pass.now
    c.enter.new.pass c.enter.ensures.turn c.enter.ensures.keeps c.requires.by_plan
    (lease-asks c.args.pass.now.seen asked c.put_key.ensures.asks)

pub returns-in-Err-Refused-NoRun-clause-keeps : goal.returns-in-Err-Refused-NoRun-clause-keeps
returns-in-Err-Refused-NoRun-clause-keeps g c =
    let asked = c.put_key.new.self.request in
    turn-keeps ghosts.count (λ d. refl) c.args.farm.now asked c.drill_moment.result c.enter.result c.args.pass.now
    c.enter.new.pass c.enter.ensures.turn c.enter.ensures.keeps c.requires.by_plan
    (lease-asks c.args.pass.now.seen asked c.put_key.ensures.asks)

pub returns-in-Err-clause-keeps : goal.returns-in-Err-clause-keeps
returns-in-Err-clause-keeps g c =
    let asked = c.put_key.new.self.request in
    turn-keeps ghosts.count (λ d. refl) c.args.farm.now asked c.drill_moment.result c.enter.result c.args.pass.now
    c.enter.new.pass c.enter.ensures.turn c.enter.ensures.keeps c.requires.by_plan
    (lease-asks c.args.pass.now.seen asked c.put_key.ensures.asks)

pub returns-in-Ok-clause-came : goal.returns-in-Ok-clause-came
returns-in-Ok-clause-came g c =
    let asked = c.put_key.new.self.request in
    taken-came c.enter.new.pass.seen c.args.key c.in-Ok.run' c.take.result c.take.new.self.held c.take.ensures.takes
    (λ l is. turn-leased ghosts.count c.args.farm.now asked c.drill_moment.result c.enter.result c.args.pass.now
    c.enter.new.pass l c.enter.ensures.turn c.enter.ensures.keeps
    (lease-asks c.args.pass.now.seen asked c.put_key.ensures.asks)
    (c.in-Ok.is ∙ ap (λ (r : Option LeasedRun). Ok r) is))
