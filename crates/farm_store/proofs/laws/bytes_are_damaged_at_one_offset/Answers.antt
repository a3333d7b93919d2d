use Rattle.farm_store.proofs.Excluded.{damaged-born, damaged-once}
use Rattle.farm_store.proofs.laws.bytes_are_damaged_at_one_offset.Goals as goal

pub returns-clause-one : goal.returns-clause-one
returns-clause-one c = damaged-once

pub returns-clause-born : goal.returns-clause-born
returns-clause-born c = damaged-born
