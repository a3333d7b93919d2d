-- A told list may be handed to another thread where its items may. It holds snapshots of itself, of which the checker
-- doesn't show this by itself, nor of a type that has one in it.
use denote.RattleType.{RattleType}
use denote.Param.Send.{IsSend, sendable}
use denote.Model.Local.{Parts, rows}
use denote.Model.Marks.{tied_send}
use Rattle.std.proofs.Crossing.{crosses}
use Rattle.common_types.specs.contracts.list.ToldList as ToldList
use Rattle.common_types.specs.contracts.list.ToldList.TheKnot.{frame, step, sizes, at-ToldList}
use Rattle.common_types.specs.declared.list.ToldList.TheDeep.{the_members, member-ToldList}

-- what a told list is made of, whatever the lists below it are
newest-send : (T : RattleType) (p : Parts (frame T)) → IsSend (at-ToldList T p)
newest-send T p = search (sendable, crosses) depth 20

layer-send : (T : RattleType) (p : Parts (frame T)) → ((j : the_members) → IsSend (rows (frame T) p j))
    → (i : the_members) → IsSend (rows (frame T) (step T p) i)
layer-send T p all member-ToldList =
    record { owned = λ x vs y. ((newest-send T p).owned _ vs, tt); leaving = λ k x w. tt }

pub told_list-send : (T : RattleType) → IsSend (ToldList.the_row T)
told_list-send T = tied_send (frame T) (step T) (sizes T) (layer-send T) member-ToldList
