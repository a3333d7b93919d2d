use Rattle.std.proofs.Common.{arith}
use Rattle.plain_farm.proofs.Histories.{few_entries}
use Rattle.plain_farm.proofs.decision_known.known_decision.Goals as goal

pub overflow_cast-result : goal.overflow_cast-result
overflow_cast-result c = omega (arith, c.in-Some.ensures.within, few_entries c.args.history.now c.requires)
