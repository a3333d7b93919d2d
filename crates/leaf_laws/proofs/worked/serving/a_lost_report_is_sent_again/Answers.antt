use Rattle.std.proofs.Common.{refl}
use Rattle.weight_exact.specs.Budget.{budget_of}
use Rattle.leaf_laws.proofs.worked.serving.a_lost_report_is_sent_again.Goals as goal

pub returns : goal.returns
unfolding budget_of
returns c = record { entries = refl; runs = refl; verdicts = refl; made = refl; ends = refl }
