use Rattle.std.proofs.Common.{refl}
use Rattle.weight_exact.specs.Budget.{budget_of}
use Rattle.leaf_laws.proofs.worked.worked_first_run.Goals as goal

pub returns-clause-opening : goal.returns-clause-opening
unfolding budget_of
returns-clause-opening c = refl

pub returns-clause-opened : goal.returns-clause-opened
unfolding budget_of
returns-clause-opened c = refl

pub returns-clause-budget : goal.returns-clause-budget
unfolding budget_of
returns-clause-budget c = refl

pub returns-clause-tie : goal.returns-clause-tie
unfolding budget_of
returns-clause-tie c = refl

pub returns-clause-first_run : goal.returns-clause-first_run
unfolding budget_of
returns-clause-first_run c = refl

pub returns-clause-run_reply : goal.returns-clause-run_reply
unfolding budget_of
returns-clause-run_reply c = refl

pub returns-clause-reported : goal.returns-clause-reported
unfolding budget_of
returns-clause-reported c = refl

pub returns-clause-goes_on : goal.returns-clause-goes_on
unfolding budget_of
returns-clause-goes_on c = refl

pub returns-clause-weights : goal.returns-clause-weights
unfolding budget_of
returns-clause-weights c = refl
