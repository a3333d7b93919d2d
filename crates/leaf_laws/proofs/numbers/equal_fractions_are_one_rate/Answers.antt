use Rattle.farm_laws.proofs.Fractions.{miss-same, rate-same}
use Rattle.leaf_laws.proofs.numbers.equal_fractions_are_one_rate.Goals as goal

pub returns : goal.returns
returns c = record { rate = rate-same; miss = miss-same }
