-- What founding a store leaves.
use Rattle.std.specs.Prelude.{◌≡◌, ◌⊎◌, true, false, ℕ, List, [], ◌∷◌, Result, Ok, Err, ⊤}
use Rattle.farm_types.specs.declared.moment.Moment.{Moment}
use Rattle.farm_entry.specs.declared.entry.Entry.{Entry}
use Rattle.farm_entry.specs.declared.entry.What.TheVariants.{Founded}
use Rattle.farm_entry.specs.declared.settings.Settings.{Settings}
use Rattle.farm_journal.specs.Created.{IsUnborn}
use Rattle.farm_journal.specs.Layout.{is_unborn}
use Rattle.farm_journal.specs.declared.fault.CreateFault.{CreateFault}
use Rattle.farm_journal.specs.declared.fault.CreateFault.TheVariants.{AlreadyBorn, StoreFault, Memory}
use Rattle.farm_store.specs.Bytes.{StandsFor}
use Rattle.farm_store.specs.State.{StoreState}

-- the history of a farm that was founded with these settings at this moment
abbrev pub founding : Settings → Moment → List Entry
founding settings at = record { at = at; what = Founded settings } ∷ []

-- nothing was created there, or the journal of this history
abbrev pub IsUnbornOr : List Entry → List ℕ → Type 0
IsUnbornOr H bytes = IsUnborn bytes ⊎ StandsFor H bytes

-- nothing was created there, or the journal of this founding
abbrev pub IsUnbornOrFounding : Settings → Moment → List ℕ → Type 0
IsUnbornOrFounding settings at bytes = IsUnborn bytes ⊎ StandsFor (founding settings at) bytes

-- what founding a store on a disk gives: the store, or the disk again and why
abbrev pub StoreFounding : Type 0 → Type 0
StoreFounding D = Result (StoreState D) (D × CreateFault)

-- the disk afterwards
abbrev pub disk_founded : {D : Type 0} → StoreFounding D → D
disk_founded (Ok store) = store.disk
disk_founded (Err missed) = missed.0

-- Why nothing was founded: something was created there before, and then only. A fault and running out of memory say
-- nothing of that.
abbrev pub IsRefusedBy : List ℕ → CreateFault → Type 0
IsRefusedBy bytes AlreadyBorn = is_unborn bytes ≡ false
IsRefusedBy bytes (StoreFault before after) = ⊤
IsRefusedBy bytes Memory = ⊤

-- the answer goes by whether the bytes are unborn
abbrev pub Founds : {D : Type 0} → List ℕ → StoreFounding D → Type 0
Founds bytes (Ok store) = is_unborn bytes ≡ true
Founds bytes (Err missed) = IsRefusedBy bytes missed.1
