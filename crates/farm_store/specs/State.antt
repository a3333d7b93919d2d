-- What contracts see of a store, and what its disk holds.
use Rattle.std.specs.Prelude.{◌≡◌, ◌⊎◌, ℕ, List, [], ◌++◌}
use Rattle.farm_disk.specs.Images.{DiskState, EachImage, IsSettled}
use Rattle.farm_entry.specs.declared.entry.Entry.{Entry}
use Rattle.farm_store.specs.Bytes.{StandsFor}

-- A store: its history, the entries of the record that a fault of the disk left undecided, how many entries the last
-- call recorded for its asks, which are the last of the history, and the disk.
pub record StoreState (D : Type 0) : Type 0 where
  pub history : List Entry
  pub pending : List Entry
  pub recorded : ℕ
  pub disk : D

-- the bytes stand for this history, or for it with all that is pending
abbrev pub IsWithOrWithout : (history pending : List Entry) → List ℕ → Type 0
IsWithOrWithout history pending bytes = StandsFor history bytes ⊎ StandsFor (history ++ pending) bytes

-- A read gives the history, or it with all that is pending, and so does each crash. Where nothing is pending, each
-- crash leaves what a read gives.
pub record IsStored (history pending : List Entry) (disk : DiskState) : Type 0 where
  pub reads : IsWithOrWithout history pending disk.bytes
  pub images : EachImage disk.steps (IsWithOrWithout history pending)
  pub settled : pending ≡ [] → IsSettled disk

-- What a crash may leave while one state becomes another: the history from before, with or without what was pending
-- then, or the history from now with all that is pending now.
abbrev pub IsLeft : {D : Type 0} → (old new : StoreState D) → List ℕ → Type 0
IsLeft old new bytes = IsWithOrWithout old.history old.pending bytes ⊎ StandsFor (new.history ++ new.pending) bytes

-- the history after a repair: what was pending was dropped, or all of it was kept
abbrev pub IsRepaired : {D : Type 0} → (old : StoreState D) → List Entry → Type 0
IsRepaired old history = (history ≡ old.history) ⊎ (history ≡ old.history ++ old.pending)

-- nothing was stored: the history is as before, with nothing pending
pub record IsAsBefore {D : Type 0} (old new : StoreState D) : Type 0 where
  pub history : new.history ≡ old.history
  pub decided : new.pending ≡ []
  pub none : new.recorded ≡ 0
