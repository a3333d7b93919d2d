-- What each call on a store keeps.
use Rattle.std.specs.Prelude.{◌≡◌, ◌≢◌, ◌≤◌, ◌<◌, ◌+◌, ◌++◌, true, List, [], length}
use Rattle.farm_disk.specs.Images.{LeavesOnly, moment}
use Rattle.farm_disk.specs.declared.disk.Disk as disk
use Rattle.farm_entry.specs.Legal.{IsLegal}
use Rattle.farm_entry.specs.declared.entry.Entry.{Entry}
use Rattle.farm_journal.specs.Layout.{version_of}
use Rattle.farm_journal.specs.ReadsOnly.{ReadsOnly}
use Rattle.farm_store.specs.State.{IsLeft, IsStored, StoreState}

-- What a call keeps, of a store on a disk of which this is meant. `Answered` says what holds where the call was
-- answered.
--
-- The history never gets shorter, and stays legal. Each image of each moment of the call stands for the history from
-- before, with or without what was pending, or for the one from now with what is pending now. What records nothing
-- writes nothing: it asks the disk for nothing, or for one sync and one read where it repairs. Once the history has
-- grown, the file is of version 2.
pub record KeepsStore {D : Type 0} (meant : disk.Ghosts D) (Answered : Type 0 → Type 0) (old new : StoreState D)
    : Type 0 where
  pub same : meant.tells new.disk ≡ meant.tells old.disk
  pub longer : (more : List Entry) × (new.history ≡ old.history ++ more)
  pub legal : IsLegal (new.history ++ new.pending)
  pub any_moment : meant.tells old.disk ≡ true
      → LeavesOnly (meant.told old.disk) (meant.told new.disk) (IsLeft old new)
  pub stored : meant.tells old.disk ≡ true → IsStored new.history new.pending (meant.told new.disk)
  pub untouched : old.pending ≡ [] → new.history ≡ old.history → Answered (new.disk ≡ old.disk)
  pub only : meant.tells old.disk ≡ true → new.recorded ≡ 0
      → Answered (ReadsOnly (meant.told old.disk) (meant.told new.disk))
  pub two_calls : meant.tells old.disk ≡ true → old.pending ≢ [] → new.recorded ≡ 0
      → Answered (moment (meant.told new.disk) ≡ moment (meant.told old.disk) + 2)
  pub new_version : meant.tells old.disk ≡ true → length old.history < length new.history
      → Answered (version_of (meant.told new.disk).bytes ≡ 2)
  pub never_falls : meant.count old.disk ≤ meant.count new.disk
