use Rattle.std.proofs.Common.{refl}
use Rattle.weight_exact.specs.Budget.{budget_of}
use Rattle.leaf_laws.proofs.worked.shown.worked_list.Goals as goal

pub returns-clause-from_first : goal.returns-clause-from_first
unfolding budget_of
returns-clause-from_first c = refl

pub returns-clause-from_second : goal.returns-clause-from_second
unfolding budget_of
returns-clause-from_second c = refl

pub returns-clause-before : goal.returns-clause-before
unfolding budget_of
returns-clause-before c = refl
