use Rattle.std.proofs.Common.{arith}
use Rattle.farm_core.proofs.Few.{few_leases}
use Rattle.farm_core.proofs.decision_new.lease_decision.Goals as goal

pub overflow_cast-what : goal.overflow_cast-what
overflow_cast-what c =
    omega (arith, c.leases_count.ensures, few_leases c.args.farm.now c.history-history.ensures.legal)

pub overflow_add-what : goal.overflow_add-what
overflow_add-what c =
    omega (arith, c.leases_count.ensures, few_leases c.args.farm.now c.history-history.ensures.legal)
