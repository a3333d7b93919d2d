use Rattle.farm_state.proofs.NeverLeased.{never_leased}
use Rattle.farm_state.proofs.leases.searches_never_leased_stand_at_the_founding.Goals as goal

pub returns : goal.returns
returns c = never_leased
