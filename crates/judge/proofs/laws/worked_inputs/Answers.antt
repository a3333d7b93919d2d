use Rattle.std.proofs.Common.{refl}
use Rattle.std.specs.Fmt.{digits}
use Rattle.weight_exact.specs.Budget.{budget_of}
use Rattle.judge.proofs.laws.worked_inputs.Goals as goal

pub returns-clause-named : goal.returns-clause-named
unfolding budget_of digits
returns-clause-named c = refl

pub returns-clause-with_misses : goal.returns-clause-with_misses
unfolding budget_of digits
returns-clause-with_misses c = refl
