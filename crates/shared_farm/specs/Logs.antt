-- What the turns at a farm left, and since when each crash leaves it.
use Rattle.std.specs.Prelude.{◌≡◌, ◌≤◌, ◌++◌, ◌∷◌, ℕ, List, [], length, take, ⊤}
use Rattle.farm_disk.specs.Images.{DiskState, LeavesSince}
use Rattle.farm_entry.specs.declared.entry.Entry.{Entry}
use Rattle.farm_store.specs.Bytes.{StandsFor}
use Rattle.farm_store.specs.State.{StoreState}
use Rattle.common_types.specs.Rows.{IsAmong}
use Rattle.common_types.specs.declared.row.Row.{Row}
use Rattle.turn_lock.specs.Known.{Known}
use Rattle.shared_farm.specs.declared.turn_log.TurnLeft.{TurnLeft}

-- the bytes stand for a history that begins with this one
abbrev pub HoldsAll : List Entry → List ℕ → Type 0
HoldsAll history bytes = (more : List Entry) × StandsFor (history ++ more) bytes

-- what is kept of a turn, as a row
abbrev pub row_of : {O : Type 0} → (at : O → ℕ) → TurnLeft O → Row
row_of at left = record { entries = left.entries; moment = at left.over }

-- what the lock of a farm holds, as contracts see it: the store, and what each turn left, the newest first
pub record LockedState (D : Type 0) : Type 0 where
  pub store : StoreState D
  pub log : List Row

-- the entries of a row stand, and each image of each moment since its own holds them
pub record IsLogged (history : List Entry) (disk : DiskState) (row : Row) : Type 0 where
  pub within : row.entries ≤ length history
  pub since : LeavesSince row.moment disk.steps (HoldsAll (take row.entries history))

-- that of each row
abbrev pub AreLogged : List Entry → DiskState → List Row → Type 0
AreLogged history disk [] = ⊤
AreLogged history disk (row ∷ rows) = IsLogged history disk row × AreLogged history disk rows

-- the row that was told last is of now: of all entries, and of this moment of the disk
abbrev pub IsNewest : {D : Type 0} → (dated : D → ℕ) → LockedState D → Type 0
IsNewest dated locked =
    take 1 locked.log
    ≡ record { entries = length locked.store.history; moment = dated locked.store.disk } ∷ []

-- A row of the pass has all entries that it has seen, and its moment is this one.
pub record IsOver (moment : ℕ) (pass : Known) : Type 0 where
  pub row : Row
  pub known : IsAmong pass.rows row
  pub holds : length pass.seen ≤ row.entries
  pub same : row.moment ≡ moment
