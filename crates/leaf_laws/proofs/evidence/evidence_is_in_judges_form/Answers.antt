use Rattle.leaf_laws.proofs.Judged.{evidence-asks}
use Rattle.leaf_laws.proofs.evidence.evidence_is_in_judges_form.Goals as goal

pub returns : goal.returns
returns c = evidence-asks
