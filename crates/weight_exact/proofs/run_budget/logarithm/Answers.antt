use Rattle.std.proofs.Common.{◌^◌, ◌<◌, arith}
use Rattle.weight_exact.proofs.Powering.{exponent_few}
use Rattle.weight_exact.proofs.run_budget.logarithm.Goals as goal

pub overflow_add-exponent : goal.overflow_add-exponent
overflow_add-exponent c =
    let fits : c.args.base ^ c.loop-power.exponent < 2 ^ 128 = rw (← c.loop-power.invariant.power) (omega arith) in
    omega (arith, exponent_few c.args.base c.loop-power.exponent c.requires.two fits)
