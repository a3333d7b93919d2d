use Rattle.leaf_laws.proofs.Bodies.{lease_body-read}
use Rattle.leaf_laws.proofs.Requested.{lease-requested}
use Rattle.leaf_laws.proofs.sent_requests.lease_requests_are_read.Goals as goal

pub returns : goal.returns
returns c = record { request = lease-requested; command = lease_body-read }
