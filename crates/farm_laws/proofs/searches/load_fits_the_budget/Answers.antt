use Rattle.farm_laws.proofs.Ends.{load-fits}
use Rattle.farm_laws.proofs.Loads.{loads_fit}
use Rattle.farm_laws.proofs.searches.load_fits_the_budget.Goals as goal

pub returns : goal.returns
returns c = record { all = λ H o legal there. load-fits H legal o there; each_beginning = loads_fit }
