use Rattle.std.proofs.lemmas.Bool.{leb-false, leb-true}
use Rattle.farm_rules.proofs.PlanEntries.{first_entry-next, struck-next}
use Rattle.farm_rules.proofs.due.is_left.Goals as goal

pub returns-clause-left : goal.returns-clause-left
returns-clause-left c enough after =
    first_entry-next c.args.before.now c.args.outstanding.now after c.args.position c.requires
    (rw (c.times_at.ensures, c.times_at-2.ensures) at (leb-true c.times_at.result c.times_at-2.result enough))

pub returns-clause-struck : goal.returns-clause-struck
returns-clause-struck c fewer =
    struck-next c.args.before.now c.args.outstanding.now c.args.position c.requires
    (rw (c.times_at.ensures, c.times_at-2.ensures) at (leb-false c.times_at.result c.times_at-2.result fewer))
