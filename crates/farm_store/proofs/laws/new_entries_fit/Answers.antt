use Rattle.farm_store.proofs.Sizes.{new-fit}
use Rattle.farm_store.proofs.laws.new_entries_fit.Goals as goal

pub returns : goal.returns
returns c = new-fit
