-- What a handler takes along may be handed to its thread. The search shows that by itself where each type crosses by
-- itself, which the shared farm does by its crate's lemma alone. So the parts of the closure are written out.
use Rattle.std.proofs.Common.{◌∷◌, [], List, ℕ}
use Rattle.std.specs.Prelude.{codes}
use denote.Exit.{no}
use denote.Memory.{lone}
use denote.Param.{arg, param}
use denote.Param.Send.{IsSend, IsSync, arg_send, param_send, sendable, shr_send}
use denote.Param.SendFields.{as_row_send, declared_send}
use denote.RattleType.{RattleType}
use denote.Struct.Field.{row_field}
use denote.Struct.Tuple.{TupleAt, type_at}
use mir.Raw.{raw}
use mir.Syntax.{named}
use Rattle.std.proofs.Crossing.{crosses}
use Rattle.std.proofs.sync.ledger.Share.TheSendSync as ShareCrosses
use Rattle.std.specs.contracts.alloc.Global as Global
use Rattle.std.specs.contracts.sync.Mutex as Mutex
use Rattle.shared_farm.proofs.Crossing.{shared_farm-sync}
use Rattle.shared_farm.specs.contracts.farm.SharedFarm as SharedFarm
use Rattle.farm_serve.proofs.gate.Gate.TheSendSync as GateCrosses
use Rattle.farm_serve.specs.contracts.gate.Gate as Gate
use Rattle.farm_serve.proofs.handlers.+start_all.Goals as goal

-- the closure's type, by the name that rattle gives it
abbrev closure : List ℕ
closure = codes "farm_serve::handlers::fn::start_all::spawn_with+Self"

-- an argument that has the caller's type at the callee's type parameter 2
abbrev given : RattleType → RattleType
given T = param 2 (arg (raw (lone T.mir)) no T)

-- a closure may be handed to a thread where each of its six captures may
handed : (A B C D E F : RattleType) → IsSend A → IsSend B → IsSend C → IsSend D → IsSend E → IsSend F
    → IsSend (given (TupleAt closure (A ∷ B ∷ C ∷ D ∷ E ∷ F ∷ [])))
handed A B C D E F a b c d e f =
    let types : List RattleType = A ∷ B ∷ C ∷ D ∷ E ∷ F ∷ [] in
    let T : RattleType = TupleAt closure types in
    param_send 2 (arg (raw (lone T.mir)) no T) (arg_send (raw (lone T.mir)) no T
    (declared_send (type_at closure types) (
      as_row_send (row_field A) a,
      (
        as_row_send (row_field B) b,
        (
          as_row_send (row_field C) c,
          (as_row_send (row_field D) d, (as_row_send (row_field E) e, (as_row_send (row_field F) f, tt))),
        ),
      ),
    )))

global : IsSend Global.the_row
global = search (sendable, crosses) depth 20

-- what the bounds say, of the disk's moments by the bound of their trait
disk-send : (g : _) (t : _) (c : goal.After-split_off-mine g t) → IsSend (param 1 g.row.D)
disk-send g t c = search

over-send : (g : _) (t : _) (c : goal.After-split_off-mine g t) → IsSend (param 7 g.row.D-Over)
over-send g t c = search

beginning-send : (g : _) (t : _) (c : goal.After-split_off-mine g t) → IsSend (param 2 g.row.B)
beginning-send g t c = search

network-send : (g : _) (t : _) (c : goal.After-split_off-mine g t) → IsSend (param 3 g.row.N)
network-send g t c = search

clock-sync : (g : _) (t : _) (c : goal.After-split_off-mine g t) → IsSync (param 4 g.row.C)
clock-sync g t c = search

runtime-sync : (g : _) (t : _) (c : goal.After-split_off-mine g t) → IsSync (param 6 g.row.R)
runtime-sync g t c = search

-- the farm may be lent to several threads
farm-sync : (g : _) (t : _) (c : goal.After-split_off-mine g t)
    → IsSync (SharedFarm.the_row (param 1 g.row.D) (param 2 g.row.B) (param 7 g.row.D-Over)
    g.D.DatedDisk g.D.Disk g.D.Over.Past
    g.B.Beginning)
farm-sync g t c =
    shared_farm-sync (param 1 g.row.D) (param 2 g.row.B) (param 7 g.row.D-Over) g.D.DatedDisk g.D.Disk g.D.Over.Past
    g.B.Beginning (disk-send g t c) (beginning-send g t c) (over-send g t c)

-- and so may the lock round the network
lock-sync : (g : _) (t : _) (c : goal.After-split_off-mine g t)
    → IsSync (Mutex.the_row (Gate.the_row (param 3 g.row.N) (param 2 g.row.B) (param 5 g.row.J) (param 7 g.row.D-Over)
    (param 8 g.row.N-End)
    g.N.Network g.D.Over.Past g.N.End.Source g.N.End.Sink g.B.Beginning g.J.Naming g.J.Ledger))
lock-sync g t c =
    let held = GateCrosses.the_send (param 3 g.row.N) (param 2 g.row.B) (param 5 g.row.J) (param 7 g.row.D-Over)
    (param 8 g.row.N-End) g.N.Network g.D.Over.Past g.N.End.Source g.N.End.Sink g.B.Beginning g.J.Naming g.J.Ledger
    (network-send g t c) in
    search crosses depth 4

pub spawn_with-requires-send-F : goal.spawn_with-requires-send-F
spawn_with-requires-send-F g t c κs within =
    handed _ _ _ _ _ _ (shr_send (named 6) κs.1.1.1.1.1.1.0 _ (runtime-sync g t c)) global
    (shr_send (named 7) κs.1.1.1.1.1.1.1.0 _ (lock-sync g t c))
    (shr_send (named 8) κs.1.1.1.1.1.1.1.1.0 _ (farm-sync g t c))
    (shr_send (named 9) κs.1.1.1.1.1.1.1.1.1.0 _ (clock-sync g t c))
    (ShareCrosses.the_send (param 5 g.row.J) g.J.Ledger)
