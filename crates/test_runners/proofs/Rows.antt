-- What is read of the lines of a table.
use Rattle.std.proofs.Common.{◌≡◌, ℕ, ◌≤◌, ◌-◌, false, nat_le, List, length, get_or, take, drop, Option, Some, None, Result, Ok, inl, inr, refl, sym, ap, subst, ◌∙◌, arith}
use Rattle.std.specs.Prelude.{is_none}
use Rattle.std.specs.Str.{IsAscii, IsUtf8}
use Rattle.std.proofs.lemmas.Bool.{and_parts, cases_lt, leb-true}
use Rattle.std.proofs.lemmas.List.{get_or_past, take_rest}
use Rattle.std.proofs.lemmas.Str.{IsUtf8-from_ascii}
use Rattle.farm_types.specs.Limits.{IsName}
use Rattle.farm_types.specs.Name.{name_fault}
use Rattle.farm_types.specs.declared.name.NameFault.{NameFault}
use Rattle.farm_types.specs.declared.name.TheConstants.{NAME_FIRST_BYTE, NAME_LAST_BYTE}
use Rattle.farm_types.proofs.NameTexts.{IsName-from_no_fault}
use Rattle.farm_types.specs.declared.commit_id.TheConstants.{ID_BYTES, ID_DIGITS}
use Rattle.hex.specs.Hex.{decode_sized}
use Rattle.hex.specs.declared.error.FromHexError.{FromHexError}
use Rattle.test_runners.specs.Rows.{IsRead, TableRow, row_by, row_of, tested_row}
use Rattle.test_runners.specs.declared.row.Row.{Row}
use Rattle.test_runners.specs.declared.row.RowFault.{RowFault}

-- a name is ASCII, and so is text
IsAscii-from_IsName : (text : List ℕ) → IsName text → IsAscii text
IsAscii-from_IsName text h i = elim (cases_lt i (length text)) [
  | inl within ↦ let byte : get_or text i 0 ≤ NAME_LAST_BYTE =
      leb-true _ _ (and_parts (nat_le NAME_FIRST_BYTE (get_or text i 0)) _ (h.printable i 0 within)).1 in
      omega (arith, byte)
  | inr past ↦ rw (get_or_past text i 0 past) (omega arith)
]

-- what isn't text is no name
pub name-other : (text : List ℕ) → (IsUtf8 text → ⊥) → is_none (name_fault text) ≡ false
name-other text other = faulty (name_fault text) refl where
  faulty : (fault : Option NameFault) → name_fault text ≡ fault → is_none fault ≡ false
  faulty None none = absurd (other (IsUtf8-from_ascii text (IsAscii-from_IsName text (IsName-from_no_fault text none))))
  faulty (Some fault) e = refl

-- a line whose first bytes are the digits of an id, and what was read of the rest
pub read-row : (line id : List ℕ) (result : Result Row RowFault) → decode_sized (take ID_DIGITS line) ID_BYTES ≡ Ok id →
    IsRead (tested_row id (take (length line - ID_DIGITS) (drop ID_DIGITS line))) result → IsRead (row_of line) result
read-row line id result e read =
    let rest : tested_row id (take (length line - ID_DIGITS) (drop ID_DIGITS line))
    ≡ tested_row id (drop ID_DIGITS line) =
    ap (λ (r : List ℕ). tested_row id r) (take_rest line ID_DIGITS) in
    let by : tested_row id (drop ID_DIGITS line) ≡ row_of line =
    ap (λ (d : Result (List ℕ) FromHexError). row_by d (drop ID_DIGITS line)) (sym e) in
    subst (λ (r : Result TableRow RowFault). IsRead r result) (rest ∙ by) read
