use Rattle.leaf_laws.proofs.Adding.{standings-add_up}
use Rattle.leaf_laws.proofs.totals.standings_add_up_to_the_searches.Goals as goal

pub returns : goal.returns
returns c = standings-add_up
