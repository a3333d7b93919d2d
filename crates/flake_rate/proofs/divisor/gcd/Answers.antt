use Rattle.std.proofs.Common.{◌∙◌}
use Rattle.flake_rate.proofs.Divisors.{gcd-mod}
use Rattle.flake_rate.proofs.divisor.gcd.Goals as goal

pub loop-smaller-preserved : goal.loop-smaller-preserved
loop-smaller-preserved c = gcd-mod c.loop-smaller.larger c.loop-smaller.smaller ∙ c.loop-smaller.invariant
