use Rattle.flake_rate.proofs.Values.{zero_miss_fits}
use Rattle.flake_rate.proofs.laws.zero_miss_fits.Goals as goal

pub returns : goal.returns
returns c = zero_miss_fits
