-- Where the bytes of a journal stop to stand for a history.
use Rattle.std.specs.Prelude.{◌≡◌, ◌⊎◌, ℕ, List, [], ◌++◌, ◌∷◌}
use Rattle.farm_journal.specs.Layout.{damaged, holds, opens, gate_of}
use Rattle.farm_journal.specs.declared.layout.TheConstants.{FIRST_GATE}
use Rattle.entry_codec.specs.Grammar.{AreSpelled}
use Rattle.entry_codec.specs.Spelling.{spelling}
use Rattle.farm_entry.specs.Legal.{IsLegal}
use Rattle.farm_entry.specs.declared.entry.Entry.{Entry}
use Rattle.farm_store.specs.Bytes.{Spells}

-- The payload of the record at this gate is the first that doesn't fit: those before it spell a history, or there are
-- none, and it spells no entries that make a legal history with them.
pub record IsUnfitAt (payloads : List (List ℕ)) (gate : ℕ) : Type 0 where
  pub before : List (List ℕ)
  pub payload : List ℕ
  pub later : List (List ℕ)
  pub H : List Entry
  pub split : payloads ≡ before ++ payload ∷ later
  pub spells : Spells before H
  pub begun : (before ≡ []) ⊎ IsLegal H
  pub at : gate ≡ gate_of before
  pub unfit : (part : List Entry) → AreSpelled part → payload ≡ spelling part → IsLegal (H ++ part) → ⊥

-- no record is there, and the first gate is closed
pub record IsEmptyAt (payloads : List (List ℕ)) (gate : ℕ) : Type 0 where
  pub none : payloads ≡ []
  pub at : gate ≡ FIRST_GATE

-- the file is a journal whose payloads stop to fit at this gate
pub record HoldsUnfit (bytes : List ℕ) (gate : ℕ) : Type 0 where
  pub payloads : List (List ℕ)
  pub opened : opens bytes ≡ holds payloads
  pub unfit : IsEmptyAt payloads gate ⊎ IsUnfitAt payloads gate

-- the bytes are damaged at an offset, as a journal, or as the journal of a farm
abbrev pub IsDamagedAt : List ℕ → ℕ → Type 0
IsDamagedAt bytes o = (opens bytes ≡ damaged o) ⊎ HoldsUnfit bytes o
