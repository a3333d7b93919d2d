-- The state of a search may be handed to another thread.
use denote.Param.Send.{IsSend, sendable}
use Rattle.std.proofs.Crossing.{crosses}
use Rattle.common_types.proofs.Crossing.{told_list-send}
use Rattle.search_state.specs.contracts.state.SearchState as SearchState

pub search_state-send : IsSend SearchState.the_row
search_state-send = search (told_list-send, sendable, crosses) depth 60 fits 100000
