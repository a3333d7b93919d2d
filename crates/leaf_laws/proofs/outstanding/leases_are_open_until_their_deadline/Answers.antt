use Rattle.leaf_laws.proofs.Leases.{open-says, says-open}
use Rattle.leaf_laws.proofs.outstanding.leases_are_open_until_their_deadline.Goals as goal

pub returns : goal.returns
returns c = λ H l moment. (open-says H l moment, says-open H l moment)
