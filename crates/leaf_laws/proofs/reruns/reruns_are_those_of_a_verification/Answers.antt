use Rattle.leaf_laws.proofs.Verified.{confirmed-exactly, none-rerun, reruns-asked, reruns-at_sides, reruns-went_through}
use Rattle.leaf_laws.proofs.reruns.reruns_are_those_of_a_verification.Goals as goal

pub returns : goal.returns
returns c = record {
  none = none-rerun;
  positions = reruns-at_sides;
  went_through = reruns-went_through;
  asked = reruns-asked;
  exactly = confirmed-exactly;
}
