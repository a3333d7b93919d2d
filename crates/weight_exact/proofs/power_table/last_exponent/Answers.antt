use Rattle.std.proofs.Common.{arith}
use Rattle.weight_exact.proofs.Powering.{exponent_few}
use Rattle.weight_exact.proofs.power_table.last_exponent.Goals as goal

pub returns-else-base-lt2-clause-enough : goal.returns-else-base-lt2-clause-enough
returns-else-base-lt2-clause-enough c two e within fits = omega (arith, exponent_few c.args.base e two fits)
