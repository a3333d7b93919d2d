-- Where a born file is damaged, by its parts.
use Rattle.std.specs.Prelude.{ℕ, ◌≡◌, ◌≢◌, ◌≤◌, ◌+◌, ◌⊎◌, List, [], ◌∷◌, ◌++◌, length, take, slice_index}
use Rattle.farm_journal.specs.Layout.{damaged, opens}
use Rattle.farm_journal.specs.Gates.{IsRecord, Front}
use Rattle.farm_journal.specs.declared.layout.TheConstants.{MAGIC}

-- The header of a born file is right up to this offset. The byte there is missing, or isn't that of a header, whatever
-- its version.
pub record IsHeaderFault (bytes : List ℕ) (o : ℕ) : Type 0 where
  pub birth : ℕ
  pub right : ℕ
  pub rest : List ℕ
  pub born : birth ≢ 0
  pub long : 2 ≤ length bytes
  pub within : right ≤ length MAGIC
  pub whole : bytes ≡ birth ∷ take right MAGIC ++ rest
  pub at : o ≡ 1 + right
  pub other : (version : ℕ) (more : List ℕ) → rest ≡ slice_index (MAGIC ++ version ∷ []) right ∷ more → ⊥

-- The header and the records of a born file are whole up to this offset. There a gate is missing, or it is open and no
-- whole record stands behind it.
pub record IsRecordFault (bytes : List ℕ) (o : ℕ) : Type 0 where
  pub version : ℕ
  pub payloads : List (List ℕ)
  pub front : List ℕ
  pub rest : List ℕ
  pub chain : Front version payloads front
  pub whole : bytes ≡ front ++ rest
  pub at : o ≡ length front
  pub not_closed : (more : List ℕ) → rest ≡ 0 ∷ more → ⊥
  pub not_whole : (gate : ℕ) (payload written more : List ℕ) → IsRecord payload written → rest ≡ gate ∷ written ++ more
      → ⊥

-- a file that is damaged at an offset is so by its header or by its records
abbrev pub DamagedIsFault : Type 0
DamagedIsFault = (bytes : List ℕ) (o : ℕ) → opens bytes ≡ damaged o → IsHeaderFault bytes o ⊎ IsRecordFault bytes o

-- and a file with such a fault is damaged just there
abbrev pub FaultIsDamaged : Type 0
FaultIsDamaged = (bytes : List ℕ) (o : ℕ) → IsHeaderFault bytes o ⊎ IsRecordFault bytes o → opens bytes ≡ damaged o
