use Rattle.leaf_laws.proofs.LeaseReplies.{lease-read}
use Rattle.leaf_laws.proofs.sent_leases.leases_are_read_as_leases.Goals as goal

pub returns : goal.returns
returns c = lease-read
