use Rattle.farm_store.proofs.Excluded.{stands-born, stands-not_damaged}
use Rattle.farm_store.proofs.Standing.{stands-unique}
use Rattle.farm_store.proofs.laws.bytes_stand_for_one_history.Goals as goal

pub returns-clause-one : goal.returns-clause-one
returns-clause-one c = stands-unique

pub returns-clause-born : goal.returns-clause-born
returns-clause-born c = stands-born

pub returns-clause-sound : goal.returns-clause-sound
returns-clause-sound c = stands-not_damaged
