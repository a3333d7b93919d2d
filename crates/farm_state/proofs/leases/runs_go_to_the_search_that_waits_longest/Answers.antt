use Rattle.farm_state.proofs.TurnOrder.{handed_out}
use Rattle.farm_state.proofs.leases.runs_go_to_the_search_that_waits_longest.Goals as goal

pub returns : goal.returns
returns c = handed_out
