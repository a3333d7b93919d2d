-- What admitting the payloads of a journal comes to, one after the other, and entries that came from elsewhere.
use Rattle.std.specs.Prelude.{◌≡◌, ◌≢◌, ◌⊎◌, ℕ, List, [], ◌∷◌, ◌++◌, length, Result, Ok, Err, ⊤}
use Rattle.entry_codec.specs.Grammar.{AreSpelled}
use Rattle.entry_codec.specs.Spelling.{spelling}
use Rattle.farm_core.specs.declared.farm.AdmitFault.{AdmitFault}
use Rattle.farm_core.specs.declared.farm.AdmitFault.TheVariants.{Illegal, Memory}
use Rattle.farm_core.specs.FarmView.{FarmView}
use Rattle.farm_entry.specs.Legal.{IsLegal}
use Rattle.farm_entry.specs.declared.entry.Entry.{Entry}
use Rattle.farm_journal.specs.declared.fault.OpeningFault.{OpeningFault}
use Rattle.farm_journal.specs.declared.fault.OpeningFault.TheVariants as opening
use Rattle.farm_journal.specs.declared.fault.JournalFault.{JournalFault}
use Rattle.farm_journal.specs.declared.fault.JournalFault.TheVariants as journal
use Rattle.farm_store.specs.Damage.{IsEmptyAt, IsUnfitAt}
use Rattle.farm_store.specs.State.{IsAsBefore, StoreState}

-- a payload spells entries that make one legal history of another
pub record GoesOn (payload : List ℕ) (H K : List Entry) : Type 0 where
  pub part : List Entry
  pub spelled : AreSpelled part
  pub is : payload ≡ spelling part
  pub whole : K ≡ H ++ part
  pub legal : IsLegal K

-- a payload spells no entries that make a legal history with those before them, unless memory ran out
abbrev pub IsMisfit : List ℕ → List Entry → AdmitFault → Type 0
IsMisfit payload H Illegal = (part : List Entry) → AreSpelled part → payload ≡ spelling part → IsLegal (H ++ part) → ⊥
IsMisfit payload H Memory = ⊤

-- a payload spells no entries, unless memory ran out
abbrev pub SpellsNone : List ℕ → AdmitFault → Type 0
SpellsNone payload Illegal = (part : List Entry) → AreSpelled part → payload ≡ spelling part → ⊥
SpellsNone payload Memory = ⊤

-- why the payloads of a journal make no farm
abbrev pub IsMissed : List (List ℕ) → OpeningFault → Type 0
IsMissed payloads opening.Unborn = ⊥
IsMissed payloads (opening.Damaged o) = IsEmptyAt payloads o ⊎ IsUnfitAt payloads o
IsMissed payloads (opening.StoreFault before after) = ⊥
IsMissed payloads opening.Memory = ⊤

-- the entry at this index is the first that can't come next behind a history: with those before it the history is
-- legal, and with it not
pub record IsStuckAt (H entries : List Entry) (i : ℕ) : Type 0 where
  pub before : List Entry
  pub entry : Entry
  pub behind : List Entry
  pub split : entries ≡ before ++ entry ∷ behind
  pub at : i ≡ length before
  pub fits : H ++ before ≢ [] → IsLegal (H ++ before)
  pub misfit : IsLegal (H ++ before ++ entry ∷ []) → ⊥

-- entries were added to a history: all of them, or none where one can't come next
abbrev pub AddsAllOrNone : (entries H : List Entry) → Result (Unit {0}) ℕ → (K : List Entry) → Type 0
AddsAllOrNone entries H (Ok _) K = K ≡ H ++ entries
AddsAllOrNone entries H (Err i) K = (K ≡ H) × IsStuckAt H entries i

-- what adding entries to a history comes to; out of memory, none is
abbrev pub Adds : {M : Type 0} → (entries H : List Entry) → Result (Result (Unit {0}) ℕ) M → (K : List Entry) → Type 0
Adds entries H (Ok added) K = AddsAllOrNone entries H added K
Adds entries H (Err _) K = K ≡ H

-- a farm is one of these entries, or one of them can't come next
abbrev pub IsFarmOf : List Entry → Result FarmView ℕ → Type 0
IsFarmOf entries (Ok farm) = farm.history ≡ entries
IsFarmOf entries (Err i) = IsStuckAt [] entries i

-- what making a farm of entries comes to; running out of memory says nothing
abbrev pub MakesFarm : {M : Type 0} → List Entry → Result (Result FarmView ℕ) M → Type 0
MakesFarm entries (Ok made) = IsFarmOf entries made
MakesFarm entries (Err _) = ⊤

-- entries were admitted, and are stored
pub record IsAdmitted {D : Type 0} (entries : List Entry) (old new : StoreState D) : Type 0 where
  pub history : new.history ≡ old.history ++ entries
  pub recorded : new.recorded ≡ length entries
  pub decided : new.pending ≡ []

-- the disk failed as they were stored: they are pending
pub record IsAdmitting {D : Type 0} (entries : List Entry) (old new : StoreState D) : Type 0 where
  pub history : new.history ≡ old.history
  pub pending : new.pending ≡ entries
  pub none : new.recorded ≡ 0

-- what a call came to in which entries were to be admitted, where nothing was pending, by its answer
abbrev pub Admits : {D : Type 0} → List Entry → Result (Result (Unit {0}) ℕ) JournalFault → (old new : StoreState D)
    → Type 0
Admits entries (Ok (Ok _)) old new = IsAdmitted entries old new
Admits entries (Ok (Err i)) old new = IsStuckAt old.history entries i × IsAsBefore old new
Admits entries (Err (journal.StoreFault before after)) old new = IsAdmitting entries old new
Admits entries (Err journal.Memory) old new = IsAsBefore old new
