use Rattle.leaf_laws.proofs.Agreements.{named-judged, no_culprit-judged, searching-judged}
use Rattle.leaf_laws.proofs.evidence.standings_are_judged_alike.Goals as goal

pub returns-clause-named : goal.returns-clause-named
returns-clause-named c = named-judged

pub returns-clause-no_culprit : goal.returns-clause-no_culprit
returns-clause-no_culprit c = no_culprit-judged

pub returns-clause-searching : goal.returns-clause-searching
returns-clause-searching c = searching-judged
