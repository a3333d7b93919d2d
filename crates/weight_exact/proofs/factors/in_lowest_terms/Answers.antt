use Rattle.flake_rate.proofs.Divisors.{gcd_positive_right}
use Rattle.weight_exact.proofs.factors.in_lowest_terms.Goals as goal

pub nonzero_div-result : goal.nonzero_div-result
nonzero_div-result c = rw c.gcd-divisor.ensures (gcd_positive_right c.args.x c.args.y c.requires)

pub nonzero_div-result-2 : goal.nonzero_div-result-2
nonzero_div-result-2 c = nonzero_div-result c
