use Rattle.farm_journal.proofs.Openings.{opens-holds, gate-holds, holds-opens}
use Rattle.farm_journal.proofs.laws.opens_by_parts.Goals as goal

pub returns-clause-parts : goal.returns-clause-parts
returns-clause-parts c v ps g bytes held = (opens-holds v ps g bytes held, gate-holds v ps g bytes held)

pub returns-clause-no_other : goal.returns-clause-no_other
returns-clause-no_other c = holds-opens
