use Rattle.leaf_laws.proofs.LeftOut.{evidence-ends, evidence-more, left_out-exactly, left_out-late}
use Rattle.leaf_laws.proofs.evidence.reports_are_evidence_until_an_unseen_end.Goals as goal

pub returns-clause-written : goal.returns-clause-written
returns-clause-written c = evidence-more

pub returns-clause-unseen_end : goal.returns-clause-unseen_end
returns-clause-unseen_end c = left_out-exactly

pub returns-clause-left_out : goal.returns-clause-left_out
returns-clause-left_out c = evidence-ends

pub returns-clause-late : goal.returns-clause-late
returns-clause-late c = left_out-late
