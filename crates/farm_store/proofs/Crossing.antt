-- A store over a disk that may be handed to another thread may be handed to one itself.
use denote.RattleType.{RattleType}
use denote.Param.Send.{IsSend, sendable}
use Rattle.std.proofs.Crossing.{crosses}
use Rattle.farm_core.proofs.Crossing.{farm-send}
use Rattle.farm_disk.specs.declared.disk.Disk.{Ghosts}
use Rattle.farm_journal.proofs.Crossing.{journal-send}
use Rattle.farm_store.specs.contracts.store.Store as Store

pub store-send : (D : RattleType) (ghosts : Ghosts D.Denot) → IsSend D → IsSend (Store.the_row D ghosts)
store-send D ghosts disk = let journal = journal-send D ghosts disk in search (farm-send, sendable, crosses) depth 20
