-- Ids of commits, and the texts that name them: hexadecimal digits, two for each byte, as git writes an object's id.
use Rattle.std.specs.Prelude.{ℕ, List, length, position, not, ◌==◌, if◌then◌else◌, Bool, Option, Some}
use Rattle.std.specs.Str.{bytes_eq}
use Rattle.std.specs.Option.{option_map}
use Rattle.hex.specs.Hex.{is_hex_digit, encode_lower}
use Rattle.farm_types.specs.declared.commit_id.CommitId.{CommitId}
use Rattle.farm_types.specs.declared.commit_id.IdFault.{IdFault}
use Rattle.farm_types.specs.declared.commit_id.IdFault.TheVariants.{Length, Digit}
use Rattle.farm_types.specs.declared.commit_id.TheConstants.{ID_DIGITS}

-- the bytes of an id, in order
abbrev pub id_bytes : CommitId → List ℕ
id_bytes id = id.bytes

-- whether two ids are the same
abbrev pub same_id : CommitId → CommitId → Bool
same_id a b = bytes_eq (id_bytes a) (id_bytes b)

-- the digits of an id, with letters in lower case
abbrev pub id_digits : CommitId → List ℕ
id_digits id = encode_lower (id_bytes id)

-- the index of the first byte of a text that is no hexadecimal digit, in either case
abbrev pub first_other : List ℕ → Option ℕ
first_other text = position (λ b. not (is_hex_digit b)) text

-- why a text is no id, if it is none: its length, and at the right length its first byte that is no digit
abbrev pub id_fault : List ℕ → Option IdFault
id_fault text = if length text == ID_DIGITS then option_map Digit (first_other text) else Some (Length (length text))
