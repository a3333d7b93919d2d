use Rattle.std.proofs.Common.{refl}
use Rattle.weight_exact.specs.Budget.{budget_of}
use Rattle.leaf_laws.proofs.worked.worked_repeats.Goals as goal

pub returns-clause-still_out : goal.returns-clause-still_out
unfolding budget_of
returns-clause-still_out c = refl

pub returns-clause-given_again : goal.returns-clause-given_again
unfolding budget_of
returns-clause-given_again c = refl

pub returns-clause-reported_again : goal.returns-clause-reported_again
unfolding budget_of
returns-clause-reported_again c = refl

pub returns-clause-reported_later : goal.returns-clause-reported_later
unfolding budget_of
returns-clause-reported_later c = refl

pub returns-clause-first_verdict : goal.returns-clause-first_verdict
unfolding budget_of
returns-clause-first_verdict c = refl

pub returns-clause-leased_again : goal.returns-clause-leased_again
unfolding budget_of
returns-clause-leased_again c = refl

pub returns-clause-other_worker : goal.returns-clause-other_worker
unfolding budget_of
returns-clause-other_worker c = refl
