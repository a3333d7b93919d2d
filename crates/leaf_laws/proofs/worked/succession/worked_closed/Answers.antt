use Rattle.std.proofs.Common.{refl}
use Rattle.weight_exact.specs.Budget.{budget_of}
use Rattle.leaf_laws.proofs.worked.succession.worked_closed.Goals as goal

pub returns-clause-lease : goal.returns-clause-lease
unfolding budget_of
returns-clause-lease c = refl

pub returns-clause-revert : goal.returns-clause-revert
unfolding budget_of
returns-clause-revert c = refl

pub returns-clause-same_open : goal.returns-clause-same_open
unfolding budget_of
returns-clause-same_open c = refl

pub returns-clause-same_report : goal.returns-clause-same_report
unfolding budget_of
returns-clause-same_report c = refl

pub returns-clause-page : goal.returns-clause-page
unfolding budget_of
returns-clause-page c = refl
