-- What the body of an answer to an ask holds.
use Rattle.std.specs.Prelude.{◌≡◌, ◌≤◌, ℕ, List, length, codes, Option, Some, None, option_and_then, Ok, ⊤}
use Rattle.entry_codec.specs.Grammar.{AreSpelled}
use Rattle.entry_codec.specs.Spelling.{spelling}
use Rattle.farm_entry.specs.declared.entry.Entry.{Entry}
use Rattle.farm_journal.specs.declared.layout.TheConstants.{MAX_PAYLOAD}
use Rattle.farm_wire.specs.Reading.{object_in}
use Rattle.hex.specs.Hex.{decode_of}
use Rattle.serde_json.specs.Data.{Data}
use Rattle.serde_json.specs.Find.{as_number, as_str, as_u64, get}

-- the number that an object names as its first entry's
unfoldable pub first_in : Data → Option ℕ
first_in json = option_and_then as_u64 (option_and_then as_number (get (codes "from") json))

-- the text that it has for its entries
unfoldable pub text_in : Data → Option (List ℕ)
text_in json = option_and_then as_str (get (codes "entries") json)

-- hexadecimal digits are those of the bytes of these entries, which fit a record, as each page of a leader does
pub record IsHexOf (text : List ℕ) (entries : List Entry) : Type 0 where
  pub decoded : decode_of text ≡ Ok (spelling entries)
  pub spelled : AreSpelled entries
  pub fits : length (spelling entries) ≤ MAX_PAYLOAD

-- a body is the page of these entries, from the one asked for on: an object with their bytes in hexadecimal digits
pub record IsPage (from : ℕ) (body : List ℕ) (entries : List Entry) : Type 0 where
  pub json : Data
  pub text : List ℕ
  pub is : object_in body ≡ Some json
  pub first : first_in json ≡ Some from
  pub member : text_in json ≡ Some text
  pub digits : IsHexOf text entries

-- the entries of the digits, where they are of any
abbrev pub ReadsHex : (text : List ℕ) → Option (List Entry) → Type 0
ReadsHex text (Some entries) = IsHexOf text entries
ReadsHex text None = (entries : List Entry) → IsHexOf text entries → ⊥

-- the same where there may be no digits
abbrev pub ReadsText : Option (List ℕ) → Option (List Entry) → Type 0
ReadsText (Some text) found = ReadsHex text found
ReadsText None (Some entries) = ⊥
ReadsText None None = ⊤

-- the entries of the page that a body is, where it is one
abbrev pub IsFound : (from : ℕ) → (body : List ℕ) → Option (List Entry) → Type 0
IsFound from body (Some entries) = IsPage from body entries
IsFound from body None = (entries : List Entry) → IsPage from body entries → ⊥
