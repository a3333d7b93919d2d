use Rattle.flake_rate.proofs.Divisors.{gcd_divides}
use Rattle.flake_rate.proofs.laws.gcd_divides.Goals as goal

pub returns : goal.returns
returns c = gcd_divides
