use Rattle.farm_laws.proofs.Ends.{runs-stop}
use Rattle.farm_laws.proofs.searches.runs_of_a_search_stop_growing.Goals as goal

pub returns : goal.returns
returns c = runs-stop
