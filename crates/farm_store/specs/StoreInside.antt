-- How a store keeps its history: a farm in memory, and a journal whose payloads spell the farm's history.
use Rattle.std.specs.Prelude.{◌≡◌, ◌≢◌, ◌≤◌, ◌+◌, ◌*◌, Bool, true, ℕ, List, [], ◌++◌, length, take, drop, Option, Some, None}
use Rattle.farm_disk.specs.Images.{DiskState}
use Rattle.farm_journal.specs.Layout.{gate_of}
use Rattle.farm_journal.specs.State.{JournalState, IsHeld, IsPending}
use Rattle.farm_journal.specs.declared.layout.TheConstants.{FIRST_GATE}
use Rattle.entry_codec.specs.Grammar.{AreSpelled}
use Rattle.entry_codec.specs.Spelling.{spelling}
use Rattle.entry_codec.specs.declared.limits.TheConstants.{MAX_ENTRY_BYTES}
use Rattle.farm_core.specs.FarmView.{FarmView}
use Rattle.farm_entry.specs.Legal.{IsLegal}
use Rattle.farm_entry.specs.declared.entry.Entry.{Entry}
use Rattle.farm_store.specs.Bytes.{Spells}
use Rattle.farm_store.specs.State.{StoreState}
use Rattle.farm_store.specs.declared.asking.TheConstants.{MAX_RECORD_BYTES}

-- the entries of the journal's pending payload are what may be committed next in the farm
abbrev pub undecided : Option (List ℕ) → List Entry → List Entry
undecided None ready = []
undecided (Some payload) ready = ready

-- a payload is pending that spells these entries, which may come next
pub record IsUndecidedAs (payload : List ℕ) (H new : List Entry) : Type 0 where
  pub some : new ≢ []
  pub spelled : AreSpelled new
  pub is : payload ≡ spelling new
  pub legal : IsLegal (H ++ new)

-- the payloads spell a legal history, and take few bytes for each entry
pub record Keeps (payloads : List (List ℕ)) (H : List Entry) : Type 0 where
  pub spells : Spells payloads H
  pub legal : IsLegal H
  pub few : gate_of payloads ≤ FIRST_GATE + (5 + MAX_ENTRY_BYTES) * length H

-- what holds of a store at any time
pub record IsStore {D : Type 0} (tells : D → Bool) (told : D → DiskState) (farm : FarmView) (journal : JournalState D)
    : Type 0 where
  pub keeps : Keeps journal.payloads farm.history
  pub undecided : (p : List ℕ) → journal.pending ≡ Some p → IsUndecidedAs p farm.history farm.ready
  pub rests : journal.pending ≡ None → tells journal.disk ≡ true → IsHeld journal.payloads (told journal.disk)
  pub waits : (p : List ℕ) → journal.pending ≡ Some p → tells journal.disk ≡ true
      → IsPending journal.payloads p (told journal.disk)

-- a store of a farm and a journal, as contracts see it
abbrev pub store_view : {D : Type 0} → FarmView → JournalState D → ℕ → StoreState D
store_view farm journal recorded = record {
  history = farm.history;
  pending = undecided journal.pending farm.ready;
  recorded = recorded;
  disk = journal.disk;
}

-- the farm is ahead of its journal by the entries from a place on, and nothing is pending
pub record IsAhead {D : Type 0} (tells : D → Bool) (told : D → DiskState) (start : ℕ) (farm : FarmView)
    (journal : JournalState D) : Type 0 where
  pub keeps : Keeps journal.payloads (take start farm.history)
  pub legal : IsLegal farm.history
  pub within : start ≤ length farm.history
  pub fits : AreSpelled (drop start farm.history) → length (spelling (drop start farm.history)) ≤ MAX_RECORD_BYTES
  pub idle : journal.pending ≡ None
  pub rests : tells journal.disk ≡ true → IsHeld journal.payloads (told journal.disk)
