-- A farm with its order of turns may be handed to another thread.
use denote.Param.Send.{IsSend, sendable}
use Rattle.std.proofs.Crossing.{crosses}
use Rattle.search_books.proofs.active.ActiveOrder.TheSendSync as ActiveOrder
use Rattle.farm_state.proofs.Crossing.{farm_state-send}
use Rattle.farm_state.specs.contracts.turns.FarmTurns as FarmTurns

pub farm_turns-send : IsSend FarmTurns.the_row
farm_turns-send = search (farm_state-send, ActiveOrder.the_send, sendable, crosses) depth 20
