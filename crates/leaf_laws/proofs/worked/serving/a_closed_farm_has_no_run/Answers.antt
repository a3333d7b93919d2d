use Rattle.std.proofs.Common.{refl}
use Rattle.weight_exact.specs.Budget.{budget_of}
use Rattle.leaf_laws.proofs.worked.serving.a_closed_farm_has_no_run.Goals as goal

pub returns-clause-entries : goal.returns-clause-entries
unfolding budget_of
returns-clause-entries c = refl

pub returns-clause-closed : goal.returns-clause-closed
unfolding budget_of
returns-clause-closed c = refl

pub returns-clause-made : goal.returns-clause-made
unfolding budget_of
returns-clause-made c = refl

pub returns-clause-ends : goal.returns-clause-ends
unfolding budget_of
returns-clause-ends c = refl
