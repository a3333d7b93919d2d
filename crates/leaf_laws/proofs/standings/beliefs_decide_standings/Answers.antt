use Rattle.leaf_laws.proofs.Views.{calm-standing, named-standing_names, searching-open, searching-standing, standing-calm, standing-named, standing-searching}
use Rattle.leaf_laws.proofs.standings.beliefs_decide_standings.Goals as goal

pub returns : goal.returns
returns c = record {
  suspect = λ H o suspect legal there. (standing-named H o suspect legal there, named-standing_names H o suspect legal there);
  no_culprit = λ H o legal there. (standing-calm H o, calm-standing H o legal there);
  searching = λ H o legal there. (standing-searching H o legal there, searching-standing H o legal there);
  some_open = searching-open;
}
