use Rattle.std.proofs.Common.{refl}
use Rattle.weight_exact.specs.Budget.{budget_of}
use Rattle.leaf_laws.proofs.worked.shown.worked_runs.Goals as goal

pub returns-clause-all_five : goal.returns-clause-all_five
unfolding budget_of
returns-clause-all_five c = refl

pub returns-clause-from_fifth : goal.returns-clause-from_fifth
unfolding budget_of
returns-clause-from_fifth c = refl

pub returns-clause-from_sixth : goal.returns-clause-from_sixth
unfolding budget_of
returns-clause-from_sixth c = refl

pub returns-clause-unknown : goal.returns-clause-unknown
unfolding budget_of
returns-clause-unknown c = refl
