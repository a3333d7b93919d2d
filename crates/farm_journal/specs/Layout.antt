-- The journal file: what its bytes open to, as a function of them.
--
-- Byte 0 is the birth byte, bytes 1 to 14 are always the same, byte 15 is the version byte, and at 16 stands the first
-- gate. A gate is one byte, closed exactly where it is 0. Behind an open gate stands a record, the length of the
-- payload in 4 bytes and the payload, and then the next gate. What follows a closed gate means nothing.
use Rattle.std.specs.Prelude.{ℕ, zero, suc, ◌≡◌, ◌⊎◌, ◌≤◌, ◌+◌, ◌==◌, nat_le, nat_lt, Bool, ◌&&◌, ◌||◌, List, [], ◌∷◌, ◌++◌, length, take, drop, slice_index, Option, Some, None, if◌then◌else◌}
use Rattle.std.specs.Option.{option_or}
use Rattle.std.specs.Int.{to_be_bytes, from_be_bytes, w32}
use Rattle.farm_journal.specs.declared.layout.TheConstants.{MAX_PAYLOAD, FIRST_GATE, MAGIC, VERSION_1}

-- what a file is: unborn; damaged at an offset; or the payloads of its records
pub data Opening : Type 0 where
  unborn : Opening
  damaged : ℕ → Opening
  holds : List (List ℕ) → Opening

-- how long a payload may be
pub record IsPayload (payload : List ℕ) : Type 0 where
  pub some : 1 ≤ length payload
  pub most : length payload ≤ MAX_PAYLOAD

-- the bytes of a record
abbrev pub framed : List ℕ → List ℕ
framed payload = to_be_bytes w32 (length payload) ++ payload

-- the length that a record tells
abbrev pub told_length : List ℕ → ℕ
told_length bytes = from_be_bytes w32 (take 4 bytes)

-- the bytes begin with a whole record: its length is there and within its limits, and so is its payload
abbrev pub is_whole : List ℕ → Bool
is_whole bytes =
    nat_le 4 (length bytes) && nat_le 1 (told_length bytes) && nat_le (told_length bytes) MAX_PAYLOAD
    && nat_le (4 + told_length bytes) (length bytes)

-- one payload before those that were found
abbrev pub with_payload : List ℕ → Opening → Opening
with_payload payload unborn = unborn
with_payload payload (damaged o) = damaged o
with_payload payload (holds payloads) = holds (payload ∷ payloads)

-- the records from a gate at this offset on, at most so many
abbrev pub records : ℕ → ℕ → List ℕ → Opening
records zero o bytes = damaged o
records (suc n) o [] = damaged o
records (suc n) o (gate ∷ rest) =
    if gate == 0 then holds []
    else if is_whole rest
    then with_payload (take (told_length rest) (drop 4 rest))
    (records n (o + 5 + told_length rest) (drop (4 + told_length rest) rest))
    else damaged o

-- the offset of the first byte that differs from what is wanted or is missing, where the bytes begin at this offset
abbrev pub first_difference : ℕ → List ℕ → List ℕ → Option ℕ
first_difference o [] bytes = None
first_difference o (want ∷ wants) [] = Some o
first_difference o (want ∷ wants) (byte ∷ bytes) = if byte == want then first_difference (o + 1) wants bytes else Some o

-- the offset of the first byte of the header that is wrong or missing, where the version byte may be any
abbrev pub header_fault : List ℕ → Option ℕ
header_fault bytes =
    option_or (first_difference 1 MAGIC (drop 1 bytes)) (if nat_lt 15 (length bytes) then None else Some 15)

-- at most one byte, or a birth byte of 0
abbrev pub is_unborn : List ℕ → Bool
is_unborn bytes = nat_le (length bytes) 1 || slice_index bytes 0 == 0

-- what a born file opens to, by its header's fault
abbrev pub opens_born : Option ℕ → List ℕ → Opening
opens_born (Some o) bytes = damaged o
opens_born None bytes = records (length bytes) FIRST_GATE (drop FIRST_GATE bytes)

-- what a file opens to
abbrev pub opens : List ℕ → Opening
opens bytes = if is_unborn bytes then unborn else opens_born (header_fault bytes) bytes

-- the version of a file whose header is sound
abbrev pub version_of : List ℕ → ℕ
version_of bytes = if slice_index bytes 15 == VERSION_1 then 1 else 2

-- the two versions
abbrev pub IsVersion : ℕ → Type 0
IsVersion version = (version ≡ 1) ⊎ (version ≡ 2)

-- how long the records of these payloads are, each with the gate before it
abbrev pub records_length : List (List ℕ) → ℕ
records_length [] = 0
records_length (payload ∷ payloads) = 5 + length payload + records_length payloads

-- the offset of the closed gate behind these payloads
abbrev pub gate_of : List (List ℕ) → ℕ
gate_of payloads = FIRST_GATE + records_length payloads
