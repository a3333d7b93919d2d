use Rattle.std.proofs.Common.{refl}
use Rattle.farm_core.proofs.Fronts.{shortened_farm}
use Rattle.farm_core.proofs.farm.Farm.forget_ready.Goals as goal

pub invariant_of-self : goal.invariant_of-self
invariant_of-self c = shortened_farm c.self.inside _ c.self.invariant refl c.cut.ensures
