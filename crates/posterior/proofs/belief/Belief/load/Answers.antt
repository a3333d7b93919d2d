use Rattle.std.proofs.Common.{arith}
use Rattle.posterior.proofs.belief.Belief.load.Goals as goal

pub overflow_add-result : goal.overflow_add-result
overflow_add-result c = omega (arith, c.self.invariant.kept.within, c.self.invariant.budget_is, c.self.invariant.few_runs)
