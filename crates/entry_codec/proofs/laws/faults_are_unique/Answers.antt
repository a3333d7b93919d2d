use Rattle.entry_codec.proofs.ListLaws.{bad-not_spelled, bad-unique}
use Rattle.entry_codec.proofs.laws.faults_are_unique.Goals as goal

pub returns-clause-one : goal.returns-clause-one
returns-clause-one c = bad-unique

pub returns-clause-none : goal.returns-clause-none
returns-clause-none c = bad-not_spelled
