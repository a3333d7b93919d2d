use Rattle.std.proofs.Common.{refl}
use Rattle.weight_exact.specs.Budget.{budget_of}
use Rattle.leaf_laws.proofs.worked.shown.worked_runs_without_verdict.Goals as goal

pub returns : goal.returns
unfolding budget_of
returns c = refl
