use Rattle.leaf_laws.proofs.Views.{cancelled-standing, inconclusive-standing, standing-cancelled, standing-inconclusive}
use Rattle.leaf_laws.proofs.standings.entries_end_searches.Goals as goal

pub returns : goal.returns
returns c = record {
  cancelled = λ H o. (standing-cancelled H o, cancelled-standing H o);
  inconclusive = λ H o legal there. (standing-inconclusive H o legal there, inconclusive-standing H o legal there);
}
