use Rattle.flake_rate.proofs.Divisors.{gcd_positive_right, gcd-quotients, IsGcd-quotients, quotients-mul, quotients_below, quotient_positive}
use Rattle.flake_rate.proofs.divisor.in_lowest_terms.Goals as goal

pub nonzero_div-result : goal.nonzero_div-result
nonzero_div-result c = rw c.gcd-common.ensures (gcd_positive_right c.args.a c.args.b c.requires)

pub nonzero_div-result-2 : goal.nonzero_div-result-2
nonzero_div-result-2 c = nonzero_div-result c

pub returns-clause-same_fraction : goal.returns-clause-same_fraction
returns-clause-same_fraction c = rw c.gcd-common.ensures (quotients-mul c.args.a c.args.b)

pub returns-clause-lowest : goal.returns-clause-lowest
returns-clause-lowest c =
    rw c.gcd-common.ensures (IsGcd-quotients c.args.a c.args.b (gcd_positive_right c.args.a c.args.b c.requires))

pub returns-clause-lowest_terms : goal.returns-clause-lowest_terms
returns-clause-lowest_terms c = rw c.gcd-common.ensures (gcd-quotients c.args.a c.args.b c.requires)

pub returns-clause-positive : goal.returns-clause-positive
returns-clause-positive c h = rw c.gcd-common.ensures (quotient_positive c.args.a c.args.b h)

pub returns-clause-below : goal.returns-clause-below
returns-clause-below c h = rw c.gcd-common.ensures (quotients_below c.args.a c.args.b h)
