use Rattle.leaf_laws.proofs.Verified.{suspect-kept}
use Rattle.leaf_laws.proofs.reruns.verifications_keep_their_suspect.Goals as goal

pub returns : goal.returns
returns c = suspect-kept
