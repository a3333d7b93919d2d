-- A journal over a disk that may be handed to another thread may be handed to one itself.
use denote.RattleType.{RattleType}
use denote.Param.Send.{IsSend, sendable}
use Rattle.std.proofs.Crossing.{crosses}
use Rattle.common_types.proofs.Crossing.{told_list-send}
use Rattle.farm_disk.specs.declared.disk.Disk.{Ghosts}
use Rattle.farm_journal.specs.contracts.journal.Journal as Journal

pub journal-send : (D : RattleType) (ghosts : Ghosts D.Denot) → IsSend D → IsSend (Journal.the_row D ghosts)
journal-send D ghosts disk = search (told_list-send, sendable, crosses) depth 20
