-- A shared farm may be lent to several threads where its disk may be handed to another one: its lock is `Sync`, since
-- what the lock holds is `Send`, and so is the table of its callers' errands. The checker shows both of each type, but
-- not of a `ToldList`, which holds snapshots of itself, nor of what has one in it: of those each crate has the lemma on
-- its own.
use denote.RattleType.{RattleType}
use denote.Param.Send.{IsSend, IsSync, sendable}
use Rattle.std.proofs.Crossing.{crosses}
use Rattle.farm_disk.specs.declared.dated.DatedDisk as dated
use Rattle.farm_disk.specs.declared.disk.Disk.{Ghosts}
use Rattle.common_types.specs.declared.passed.Past as past
use Rattle.common_types.proofs.Crossing.{told_list-send}
use Rattle.farm_store.proofs.Crossing.{store-send}
use Rattle.turn_lock.proofs.lock.TurnLock.TheSendSync as TurnLock
use Rattle.turn_lock.proofs.pass.Pass.TheSendSync as Pass
use Rattle.farm_board.proofs.jobs.JobTable.TheSendSync as JobTable
use Rattle.shared_farm.proofs.errand.Errand.TheSendSync as Errand
use Rattle.shared_farm.proofs.errand.ErrandOutcome.TheSendSync as ErrandOutcome
use Rattle.farm_board.proofs.board.Board.TheSendSync as Board
use Rattle.farm_board.proofs.pass.BoardPass.TheSendSync as BoardPass
use Rattle.shared_farm.specs.contracts.locked.Locked as Locked
use Rattle.shared_farm.specs.contracts.farm.SharedFarm as SharedFarm
use Rattle.shared_farm.specs.declared.beginning.Beginning as beginning

-- what the lock holds, and the shared farm, each over any disk that is `Send`, as the values for its moments are
pub locked-send : (D B O : RattleType) (over : dated.Ghosts D.Denot O.Denot) (ghosts : Ghosts D.Denot)
    (at : past.Ghosts O.Denot) (begun : beginning.Ghosts B.Denot) → IsSend D → IsSend B
    → IsSend (Locked.the_row D B O over ghosts at begun)
locked-send D B O over ghosts at begun disk mark =
    let store = store-send D ghosts disk in
    search (told_list-send, Board.the_send, Board.the_sync, BoardPass.the_send, sendable, crosses) depth 20

pub shared_farm-sync : (D B O : RattleType) (over : dated.Ghosts D.Denot O.Denot) (ghosts : Ghosts D.Denot)
    (at : past.Ghosts O.Denot) (begun : beginning.Ghosts B.Denot) → IsSend D → IsSend B → IsSend O
    → IsSync (SharedFarm.the_row D B O over ghosts at begun)
shared_farm-sync D B O over ghosts at begun disk mark moment =
    let locked = locked-send D B O over ghosts at begun disk mark in
    search (TurnLock.the_sync, JobTable.the_sync, Errand.the_send, ErrandOutcome.the_send, sendable, crosses) depth 20

-- what a closure takes along to a thread beside the farm
pub ruleset along = (Pass.the_send, sendable, crosses)
