-- A farm with the states of its searches may be handed to another thread.
use denote.Param.Send.{IsSend, sendable}
use Rattle.std.proofs.Crossing.{crosses}
use Rattle.search_state.proofs.Crossing.{search_state-send}
use Rattle.farm_books.proofs.books.Books.TheSendSync as Books
use Rattle.farm_state.specs.contracts.state.FarmState as FarmState

pub farm_state-send : IsSend FarmState.the_row
farm_state-send = search (search_state-send, Books.the_send, sendable, crosses) depth 20
