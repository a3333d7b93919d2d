use Rattle.farm_disk.proofs.CertainBytes.{certain-is-allowed, allowed-is-certain}
use Rattle.farm_disk.proofs.laws.certain_bytes.Goals as goal

pub returns-clause-certain : goal.returns-clause-certain
returns-clause-certain c = certain-is-allowed

pub returns-clause-no_other : goal.returns-clause-no_other
returns-clause-no_other c = allowed-is-certain
