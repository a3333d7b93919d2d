-- What a call of the farm's store leaves, whatever was asked.
use Rattle.std.specs.Prelude.{◌≡◌, ◌≤◌, ◌+◌, ◌-◌, ℕ, List, [], length}
use Rattle.std.specs.List.{range_with_len}
use Rattle.farm_entry.specs.Legal.{IsLegal}
use Rattle.farm_entry.specs.declared.entry.Entry.{Entry}
use Rattle.farm_store.specs.Sizes.{entries_size}
use Rattle.farm_store.specs.State.{IsRepaired, StoreState}
use Rattle.farm_store.specs.declared.asking.TheConstants.{MAX_RECORD_BYTES}
use Rattle.common_types.specs.Prefix.{IsPrefix}
use Rattle.turn_lock.specs.Known.{MayRise}

-- the places of the entries that the last call of a store recorded for its asks
abbrev pub own_places : {D : Type 0} → StoreState D → List ℕ
own_places store = range_with_len (length store.history - store.recorded) store.recorded

-- the history is the one that the repair left, and behind it what the call recorded
pub record IsGrown {D : Type 0} (old new : StoreState D) : Type 0 where
  pub repaired : List Entry
  pub found : IsRepaired old repaired
  pub begins : IsPrefix repaired new.history
  pub recorded : length new.history ≡ length repaired + new.recorded

-- these entries fit one record
abbrev pub FitRecord : List Entry → Type 0
FitRecord entries = entries_size entries ≤ MAX_RECORD_BYTES

-- A legal history went on to a legal one, by what a repair found and what was recorded then. Where the disk didn't
-- fail, nothing is pending, and never more than one record has.
pub record GoesOn {D : Type 0} (count : D → ℕ) (old new : StoreState D) : Type 0 where
  pub found : IsLegal old.history
  pub legal : IsLegal new.history
  pub longer : IsPrefix old.history new.history
  pub grown : IsGrown old new
  pub room : length old.history + new.recorded ≤ length new.history
  pub settled : count old.disk ≡ count new.disk → MayRise (count new.disk) → new.pending ≡ []
  pub never_falls : count old.disk ≤ count new.disk
  pub fit : FitRecord new.pending
