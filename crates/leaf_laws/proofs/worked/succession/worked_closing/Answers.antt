use Rattle.std.proofs.Common.{refl}
use Rattle.weight_exact.specs.Budget.{budget_of}
use Rattle.leaf_laws.proofs.worked.succession.worked_closing.Goals as goal

pub returns-clause-busy_searching : goal.returns-clause-busy_searching
unfolding budget_of
returns-clause-busy_searching c = refl

pub returns-clause-no_longer_active : goal.returns-clause-no_longer_active
unfolding budget_of
returns-clause-no_longer_active c = refl

pub returns-clause-busy_until_ordered : goal.returns-clause-busy_until_ordered
unfolding budget_of
returns-clause-busy_until_ordered c = refl

pub returns-clause-not_before : goal.returns-clause-not_before
unfolding budget_of
returns-clause-not_before c = refl

pub returns-clause-not_too_early : goal.returns-clause-not_too_early
unfolding budget_of
returns-clause-not_too_early c = refl

pub returns-clause-may_be_closed : goal.returns-clause-may_be_closed
unfolding budget_of
returns-clause-may_be_closed c = refl

pub returns-clause-is_legal : goal.returns-clause-is_legal
unfolding budget_of
returns-clause-is_legal c = (tt, (refl, (refl, (refl, (refl, (refl, (refl, (refl, (refl, (refl, (refl, (refl, (refl, (refl, tt))))))))))))))

pub returns-clause-once : goal.returns-clause-once
unfolding budget_of
returns-clause-once c = refl

pub returns-clause-nothing_more : goal.returns-clause-nothing_more
unfolding budget_of
returns-clause-nothing_more c = refl

pub returns-clause-all_orders : goal.returns-clause-all_orders
unfolding budget_of
returns-clause-all_orders c = refl
