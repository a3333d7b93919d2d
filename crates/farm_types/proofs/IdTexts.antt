-- What `hex` answers for a text, and why that text is no id.
use Rattle.std.proofs.Common.{◌≡◌, ℕ, ◌%◌, not, List, length, get_or, option_map, Option, Some, None, Ok, Err, inl, inr, refl, sym, ap, ◌∙◌, zero-add, arith}
use Rattle.std.proofs.lemmas.Bool.{cases_eq, ne_eqb, not-false, not_from_false, not_from_true}
use Rattle.std.proofs.lemmas.List.{get_or-take, length-take}
use Rattle.std.specs.List.{AllPass}
use Rattle.hex.specs.Hex.{decode_of, decode_sized, is_hex_digit}
use Rattle.hex.specs.declared.error.FromHexError.{FromHexError}
use Rattle.hex.specs.declared.error.FromHexError.TheVariants.{InvalidHexCharacter}
use Rattle.hex.proofs.HexLemmas.{decode_of-err, decode_of-ok, decode_sized-encode_lower, decode_sized-odd, decode_sized-ok, decode_sized-other, decode_sized-twice}
use Rattle.farm_types.specs.CommitId.{first_other, id_bytes, id_digits, id_fault}
use Rattle.farm_types.specs.declared.commit_id.CommitId.{CommitId}
use Rattle.farm_types.specs.declared.commit_id.IdFault.TheVariants.{Digit, Length}
use Rattle.farm_types.proofs.FirstIndex.{fails-from_none, position-first, position-none}

-- at the right length the digits decide
id_fault-at_length : (text : List ℕ) → length text ≡ 40 → id_fault text ≡ option_map Digit (first_other text)
id_fault-at_length text len = rw len refl

-- no fault of a byte comes from no byte
no_byte : (o : Option ℕ) → option_map Digit o ≡ None → o ≡ None
no_byte None h = refl
no_byte (Some i) h = cc h

-- a text that decodes has no fault
pub id_fault-ok : (text bytes : List ℕ) → decode_sized text 20 ≡ Ok bytes → (id_fault text ≡ None) × (decode_of text ≡ Ok bytes)
id_fault-ok text bytes h =
    let len = decode_sized-ok text 20 bytes h in
    let whole : decode_of text ≡ Ok bytes = sym (decode_sized-twice text 20 len) ∙ h in
    let digits = (decode_of-ok text bytes whole).1 in
    let none = position-none (λ b. not (is_hex_digit b)) text 0 (λ k l. not_from_true _ (digits k 0 l)) in
    (id_fault-at_length text len ∙ ap (option_map Digit) none, whole)

-- a text of another length is refused for that, and never for a digit
other_length : (text : List ℕ) (e : FromHexError) → (length text ≡ 40 → ⊥) → decode_sized text 20 ≡ Err e
    → (id_fault text ≡ Some (Length (length text))) × ((c i : ℕ) → e ≡ InvalidHexCharacter c i → ⊥)
other_length text e other h =
    elim (cases_eq (length text % 2) 1) [
      | inl odd ↦
          let was = decode_sized-odd text 20 odd in
          (rw (ne_eqb _ _ other) refl, λ c i same. cc)
      | inr even ↦
          let was = decode_sized-other text 20 (omega arith) (λ half. other (omega arith)) in
          (rw (ne_eqb _ _ other) refl, λ c i same. cc)
    ]

-- at the right length only a digit is refused, and it is the first that is none
right_length : (text : List ℕ) (e : FromHexError) → length text ≡ 40 → decode_sized text 20 ≡ Err e
    → (c i : ℕ) × (e ≡ InvalidHexCharacter c i) × (id_fault text ≡ Some (Digit i))
right_length text e len h =
    let whole : decode_of text ≡ Err e = sym (decode_sized-twice text 20 len) ∙ h in
    elim (decode_of-err text e whole) [
      | inl odd ↦ absurd (omega (arith, odd.0))
      | inr bad ↦
          let k = bad.0 in
          let first =
          position-first (λ b. not (is_hex_digit b)) text 0 k bad.2
          (λ j before. not_from_true _ (sym (ap is_hex_digit (get_or-take k text j 0 before)) ∙ bad.4 j 0 (omega (arith, length-take k text))))
          (not_from_false _ bad.3) in
          (get_or text k 0, k, bad.1 ∙ ap (InvalidHexCharacter (get_or text k 0)) (zero-add k), id_fault-at_length text len ∙ ap (option_map Digit) first)
    ]

-- a byte that is no digit is named by its index
pub id_fault-digit : (text : List ℕ) (c i : ℕ) → decode_sized text 20 ≡ Err (InvalidHexCharacter c i) → id_fault text ≡ Some (Digit i)
id_fault-digit text c i h =
    elim (cases_eq (length text) 40) [
      | inl len ↦
          let r = right_length text _ len h in
          let same : i ≡ r.1 = cc in
          rw same r.3
      | inr other ↦ absurd ((other_length text _ other h).1 c i refl)
    ]

-- every other refusal is for the length
pub id_fault-length : (text : List ℕ) (e : FromHexError) → decode_sized text 20 ≡ Err e → ((c i : ℕ) → e ≡ InvalidHexCharacter c i → ⊥)
    → id_fault text ≡ Some (Length (length text))
id_fault-length text e h not_digit =
    elim (cases_eq (length text) 40) [
      | inl len ↦ let r = right_length text e len h in absurd (not_digit r.0 r.1 r.2)
      | inr other ↦ (other_length text e other h).0
    ]

-- a text with no fault is 40 digits
pub digits-from_no_fault : (text : List ℕ) → id_fault text ≡ None → (length text ≡ 40) × AllPass is_hex_digit text
digits-from_no_fault text none =
    elim (cases_eq (length text) 40) [
      | inl len ↦
          let digits = no_byte (first_other text) (sym (id_fault-at_length text len) ∙ none) in
          (len, λ k d l. not-false _ (fails-from_none (λ b. not (is_hex_digit b)) text d digits k l))
      | inr other ↦
          let wrong = ne_eqb (length text) 40 other in
          absurd (grind arith)
    ]

-- 40 digits have no fault
pub no_fault-from_digits : (text : List ℕ) → length text ≡ 40 → AllPass is_hex_digit text → id_fault text ≡ None
no_fault-from_digits text len digits =
    id_fault-at_length text len
    ∙ ap (option_map Digit) (position-none (λ b. not (is_hex_digit b)) text 0 (λ k l. not_from_true _ (digits k 0 l)))

-- the digits of an id name it
pub id_digits-back : (id : CommitId) → (id_fault (id_digits id) ≡ None) × (decode_of (id_digits id) ≡ Ok (id_bytes id))
id_digits-back id = id_fault-ok (id_digits id) (id_bytes id) (decode_sized-encode_lower id.bytes 20 id.whole id.fits)
