use Rattle.leaf_laws.proofs.Suspects.{confirmed-standing, standing-confirmed, standing-verifying, standing-vindicated, verifying-standing, vindicated-standing}
use Rattle.leaf_laws.proofs.standings.named_suspects_stand_by_their_reruns.Goals as goal

pub returns : goal.returns
returns c = record {
  vindicated = λ H o suspect legal there. (standing-vindicated H o suspect, vindicated-standing H o suspect legal there);
  confirmed = λ H o suspect legal there. (standing-confirmed H o suspect, confirmed-standing H o suspect legal there);
  verifying = λ H o suspect legal there. (standing-verifying H o suspect, verifying-standing H o suspect legal there);
}
