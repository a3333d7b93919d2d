use Rattle.leaf_laws.proofs.Judged.{evidence-counted, evidence-judged, evidence-over, evidence-standing, text-judged}
use Rattle.leaf_laws.proofs.evidence.evidence_is_judged_alike.Goals as goal

pub returns-clause-counted : goal.returns-clause-counted
returns-clause-counted c = evidence-counted

pub returns-clause-over : goal.returns-clause-over
returns-clause-over c = evidence-over

pub returns-clause-standing : goal.returns-clause-standing
returns-clause-standing c = evidence-standing

pub returns-clause-answer : goal.returns-clause-answer
returns-clause-answer c = evidence-judged

pub returns-clause-by_number : goal.returns-clause-by_number
returns-clause-by_number c = text-judged
