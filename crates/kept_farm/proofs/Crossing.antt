-- A farm with the rows of its entries may be handed to another thread.
use denote.Param.Send.{IsSend, sendable}
use Rattle.std.proofs.Crossing.{crosses}
use Rattle.farm_ledger.proofs.Crossing.{ledger-send}
use Rattle.search_books.proofs.places.SearchPlaces.TheSendSync as SearchPlaces
use Rattle.kept_farm.proofs.row.Row.TheSendSync as Row
use Rattle.kept_farm.specs.contracts.farm.KeptFarm as KeptFarm

pub kept_farm-send : IsSend KeptFarm.the_row
kept_farm-send = search (ledger-send, Row.the_send, SearchPlaces.the_send, sendable, crosses) depth 20
