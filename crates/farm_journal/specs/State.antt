-- What contracts see of a journal, and what its disk holds.
use Rattle.std.specs.Prelude.{ℕ, ◌≡◌, ◌<◌, ◌⊎◌, List, [], ◌∷◌, ◌++◌, Option, Some, None, Bool, true}
use Rattle.farm_disk.specs.Images.{DiskState, EachImage, IsSettled}
use Rattle.farm_journal.specs.Layout.{IsPayload, holds, opens, version_of, gate_of}
use Rattle.farm_journal.specs.Gates.{Rests, Waits}
use Rattle.farm_journal.specs.declared.layout.TheConstants.{GATE_LIMIT}

-- a journal: its payloads, the one whose append failed and wasn't repaired yet, the version, and the disk
pub record JournalState (D : Type 0) : Type 0 where
  pub payloads : List (List ℕ)
  pub pending : Option (List ℕ)
  pub version : ℕ
  pub disk : D

-- the bytes open to these payloads, or to these and the new one, and then they are of version 2
abbrev pub IsBeforeOrAfter : List (List ℕ) → List ℕ → List ℕ → Type 0
IsBeforeOrAfter ps p bytes = (opens bytes ≡ holds ps) ⊎ ((opens bytes ≡ holds (ps ++ p ∷ [])) × (version_of bytes ≡ 2))

-- a read opens to these payloads, and each crash leaves what a read gives
pub record IsHeld (ps : List (List ℕ)) (disk : DiskState) : Type 0 where
  pub reads : opens disk.bytes ≡ holds ps
  pub settled : IsSettled disk

-- An append was begun and failed: each crash leaves the payloads before it, or these and the new one, and a read gives
-- one of the two.
pub record IsPending (ps : List (List ℕ)) (p : List ℕ) (disk : DiskState) : Type 0 where
  pub reads : IsBeforeOrAfter ps p disk.bytes
  pub images : EachImage disk.steps (IsBeforeOrAfter ps p)

-- what holds of a journal at any time
pub record IsKept {D : Type 0} (tells : D → Bool) (told : D → DiskState) (ps : List (List ℕ))
    (pending : Option (List ℕ)) (gate version : ℕ) (disk : D) : Type 0 where
  pub gate_is : gate ≡ gate_of ps
  pub rests : pending ≡ None → tells disk ≡ true → Rests version ps gate (told disk)
  pub waits : (p : List ℕ) → pending ≡ Some p → tells disk ≡ true → Waits version ps gate p (told disk)
  pub fits : (p : List ℕ) → pending ≡ Some p → (gate < GATE_LIMIT) × IsPayload p
