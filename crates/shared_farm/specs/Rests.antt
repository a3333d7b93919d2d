-- What became of a store by the turns at its farm, and what a crash left meanwhile.
use Rattle.std.specs.Prelude.{◌≡◌, ◌⊎◌, ◌≤◌, ◌++◌, Bool, true, false, ℕ, List, [], ◌∷◌}
use Rattle.farm_disk.specs.Images.{DiskState, LeavesOnly}
use Rattle.farm_disk.specs.declared.disk.Disk as disk
use Rattle.farm_entry.specs.History.{is_closed}
use Rattle.farm_entry.specs.Orders.{carried}
use Rattle.farm_entry.specs.declared.entry.Entry.{Entry}
use Rattle.farm_store.specs.Bytes.{StandsFor}
use Rattle.farm_store.specs.State.{IsStored, IsWithOrWithout, StoreState}
use Rattle.common_types.specs.Counts.{Rose}
use Rattle.common_types.specs.Prefix.{IsPrefix}

-- a store at rest, before a turn or after it: its history, what is pending, what its disk told so far, and how often
-- the disk has failed
pub record Rest : Type 0 where
  pub history : List Entry
  pub pending : List Entry
  pub told : DiskState
  pub faults : ℕ

-- a store as it rests, on a disk of which this is meant
abbrev pub rest_of : {D : Type 0} → disk.Ghosts D → StoreState D → Rest
rest_of meant store = record {
  history = store.history;
  pending = store.pending;
  told = meant.told store.disk;
  faults = meant.count store.disk;
}

-- what a crash may leave while one rest becomes the next: the history from before, with or without what was pending
-- then, or the history from now with all that is pending now
abbrev pub IsLeftBetween : (old new : Rest) → List ℕ → Type 0
IsLeftBetween old new bytes =
    IsWithOrWithout old.history old.pending bytes ⊎ StandsFor (new.history ++ new.pending) bytes

-- One turn that called the store. The history went on; each image of each moment of the turn is one that it may leave,
-- and each image after it is the history, or it with what is pending. Nothing is pending unless the disk failed in
-- this turn.
pub record TurnLeaves (old new : Rest) : Type 0 where
  pub longer : IsPrefix old.history new.history
  pub leaves : LeavesOnly old.told new.told (IsLeftBetween old new)
  pub stored : IsStored new.history new.pending new.told
  pub decided : (new.pending ≡ []) ⊎ Rose old.faults new.faults
  pub never_falls : old.faults ≤ new.faults

-- turns, one after the other, took a store from a first rest to a last one. They began at these, of which the newest
-- is the first of the list
abbrev pub AreTurns : (first : Rest) → List Rest → (last : Rest) → Type 0
AreTurns first [] last = last ≡ first
AreTurns first (rest ∷ earlier) last = AreTurns first earlier rest × TurnLeaves rest last

-- every entry of a history is its founding or one that a command adds: it wasn't closed, and carried no orders over
pub record IsByCommands (H : List Entry) : Type 0 where
  pub unclosed : is_closed H ≡ false
  pub none_carried : carried H ≡ []

-- What is asked of a farm at its end, where that is picked: that commands alone added to it; or what it began with,
-- whether its disk told what it holds, and its store at rest.
pub data Begun : Type 0 where
  commanded : Begun
  rested : (tells : Bool) → Rest → Begun

-- a store came from a first rest by turns
pub record CameByTurns {D : Type 0} (meant : disk.Ghosts D) (tells : Bool) (first : Rest) (store : StoreState D)
    : Type 0 where
  pub same : meant.tells store.disk ≡ tells
  pub turns : List Rest
  pub turned : tells ≡ true → AreTurns first turns (rest_of meant store)

-- a store came from that at the beginning: by commands alone, with what is pending too, or by turns
abbrev pub CameBy : {D : Type 0} → disk.Ghosts D → Begun → StoreState D → Type 0
CameBy meant commanded store = IsByCommands (store.history ++ store.pending)
CameBy meant (rested tells first) store = CameByTurns meant tells first store

-- what a farm begins with that is shared now
abbrev pub begun_of : {D : Type 0} → disk.Ghosts D → StoreState D → Begun
begun_of meant store = rested (meant.tells store.disk) (rest_of meant store)
