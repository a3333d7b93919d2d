use Rattle.std.proofs.Common.{refl}
use Rattle.weight_exact.specs.Budget.{budget_of}
use Rattle.leaf_laws.proofs.worked.skips.worked_skip_repeats.Goals as goal

pub returns-clause-skipped_again : goal.returns-clause-skipped_again
unfolding budget_of
returns-clause-skipped_again c = refl

pub returns-clause-reported_again : goal.returns-clause-reported_again
unfolding budget_of
returns-clause-reported_again c = refl

pub returns-clause-unknown : goal.returns-clause-unknown
unfolding budget_of
returns-clause-unknown c = refl
