use Rattle.farm_journal.proofs.Damages.{damaged-fault, fault-damaged}
use Rattle.farm_journal.proofs.laws.damage_by_parts.Goals as goal

pub returns-clause-parts : goal.returns-clause-parts
returns-clause-parts c = fault-damaged

pub returns-clause-no_other : goal.returns-clause-no_other
returns-clause-no_other c = damaged-fault
