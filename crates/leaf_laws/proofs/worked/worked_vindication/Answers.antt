use Rattle.std.proofs.Common.{refl}
use Rattle.weight_exact.specs.Budget.{budget_of}
use Rattle.leaf_laws.proofs.worked.worked_vindication.Goals as goal

pub returns-clause-is_legal : goal.returns-clause-is_legal
unfolding budget_of
returns-clause-is_legal c = (tt, (refl, (refl, (refl, (refl, (refl, (refl, (refl, (refl, (refl, (refl, (refl, tt))))))))))))

pub returns-clause-reply : goal.returns-clause-reply
unfolding budget_of
returns-clause-reply c = refl

pub returns-clause-page : goal.returns-clause-page
unfolding budget_of
returns-clause-page c = refl

pub returns-clause-no_order : goal.returns-clause-no_order
unfolding budget_of
returns-clause-no_order c = refl

pub returns-clause-counts : goal.returns-clause-counts
unfolding budget_of
returns-clause-counts c = refl
