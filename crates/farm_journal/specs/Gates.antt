-- A file that holds payloads, by its parts.
use Rattle.std.specs.Prelude.{ℕ, ◌≡◌, ◌≢◌, ◌+◌, ◌⊎◌, List, [], ◌∷◌, ◌++◌, length}
use Rattle.farm_disk.specs.Images.{DiskState, EachImage, IsSettled}
use Rattle.std.specs.Int.{from_be_bytes, w32}
use Rattle.farm_journal.specs.Layout.{IsPayload}
use Rattle.farm_journal.specs.declared.layout.TheConstants.{MAGIC, VERSION_1}

-- the header, of a born file of this version byte
abbrev pub header : ℕ → ℕ → List ℕ
header birth version = birth ∷ MAGIC ++ version ∷ []

-- a record of this payload: its length in 4 bytes, and the payload
pub record IsRecord (p written : List ℕ) : Type 0 where
  pub size : List ℕ
  pub four : length size ≡ 4
  pub tells : from_be_bytes w32 size ≡ length p
  pub fits : IsPayload p
  pub whole : written ≡ size ++ p

-- open gates, each with its record, of these payloads
abbrev pub Chain : List (List ℕ) → List ℕ → Type 0
Chain [] bytes = bytes ≡ []
Chain (p ∷ ps) bytes =
    (gate : ℕ) × (written : List ℕ) × (rest : List ℕ) × (gate ≢ 0) × IsRecord p written
    × (bytes ≡ gate ∷ written ++ rest) × Chain ps rest

-- the header and the records of these payloads
pub record Front (version : ℕ) (ps : List (List ℕ)) (front : List ℕ) : Type 0 where
  pub birth : ℕ
  pub chained : List ℕ
  pub born : birth ≢ 0
  pub chain : Chain ps chained
  pub whole : front ≡ header birth version ++ chained

-- the bytes hold these payloads, with this version byte and their closed gate at this offset
pub record Holds (version : ℕ) (ps : List (List ℕ)) (gate : ℕ) (bytes : List ℕ) : Type 0 where
  pub front : List ℕ
  pub rest : List ℕ
  pub chain : Front version ps front
  pub at : length front ≡ gate
  pub whole : bytes ≡ front ++ 0 ∷ rest

-- the bytes hold these payloads, and where the version is known to be 2 their version byte isn't that of version 1
pub record Stands (known : ℕ) (ps : List (List ℕ)) (gate : ℕ) (bytes : List ℕ) : Type 0 where
  pub version : ℕ
  pub is_new : known ≡ 2 → version ≢ VERSION_1
  pub held : Holds version ps gate bytes

-- the bytes hold these payloads, or these and the new one
abbrev pub IsEither : ℕ → List (List ℕ) → ℕ → List ℕ → List ℕ → Type 0
IsEither known ps gate p bytes = Stands known ps gate bytes ⊎ Stands 2 (ps ++ p ∷ []) (gate + 5 + length p) bytes

-- an append was begun and failed: each crash leaves one of the two, and a read gives one of the two
pub record Waits (known : ℕ) (ps : List (List ℕ)) (gate : ℕ) (p : List ℕ) (disk : DiskState) : Type 0 where
  pub images : EachImage disk.steps (IsEither known ps gate p)
  pub reads : IsEither known ps gate p disk.bytes

-- a read gives these payloads, and each crash leaves what a read gives
pub record Rests (known : ℕ) (ps : List (List ℕ)) (gate : ℕ) (disk : DiskState) : Type 0 where
  pub stands : Stands known ps gate disk.bytes
  pub settled : IsSettled disk
