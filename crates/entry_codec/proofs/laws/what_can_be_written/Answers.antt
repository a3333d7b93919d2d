use Rattle.entry_codec.proofs.Openings.{within-from_openings, within-from_spelled}
use Rattle.entry_codec.proofs.laws.what_can_be_written.Goals as goal

pub returns-clause-openings : goal.returns-clause-openings
returns-clause-openings c = within-from_openings

pub returns-clause-read : goal.returns-clause-read
returns-clause-read c = within-from_spelled
