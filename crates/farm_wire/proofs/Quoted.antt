-- Texts that need no escape between quotes.
use Rattle.std.proofs.Common.{◌≡◌, ℕ, zero, suc, ◌/◌, ◌%◌, ◌<◌, ◌==◌, ◌&&◌, Bool, true, inl, inr, List, [], ◌∷◌, codes}
use Rattle.std.proofs.Common.{◌++◌, slice_index, refl, ap, ◌∙◌, arith}
use Rattle.std.specs.List.{list_all}
use Rattle.std.specs.Str.{IsAscii, IsUtf8}
use Rattle.std.proofs.lemmas.Bool.{and_parts, cases_lt, eqb-false, ltb-false, not-true, or_parts}
use Rattle.std.proofs.lemmas.Str.{IsUtf8-from_ascii}
use Rattle.std.proofs.lemmas.Str.Ascii.{IsAscii-cons, IsAscii-nil}
use Rattle.hex.proofs.HexLemmas.{IsAscii-encode_with}
use Rattle.hex.specs.Hex.{IsBytes, encode_lower, encode_with, lower_digits}
use Rattle.json.proofs.Printed.Strings.{escape_byte_plain}
use Rattle.json.specs.Print.{escape, escape_byte}
use Rattle.json.specs.Run.{is_plain, is_stop}

escape_byte-plain : (x : ℕ) → is_plain x ≡ true → escape_byte x ≡ x ∷ []
escape_byte-plain x plain =
    let none = or_parts _ _ (not-true (is_stop x) plain) in
    let tests = or_parts (x == 34) _ none.0 in
    escape_byte_plain x (eqb-false x 34 tests.0) (eqb-false x 92 tests.1) (ltb-false x 32 none.1)

-- a text of bytes that stand for themselves
pub escape-plain : (text : List ℕ) → list_all is_plain text ≡ true → escape text ≡ text
escape-plain [] plain = refl
escape-plain (x ∷ text) plain =
    let parts = and_parts (is_plain x) _ plain in
    λ i. escape_byte-plain x parts.0 i ++ escape-plain text parts.1 i

-- whether each of the first n digits stands for itself
abbrev digits_plain : ℕ → Bool
digits_plain zero = true
digits_plain (suc n) = is_plain (slice_index lower_digits n) && digits_plain n

digit-plain_below : (n d : ℕ) → digits_plain n ≡ true → d < n → is_plain (slice_index lower_digits d) ≡ true
digit-plain_below zero d plain low = absurd (omega (arith, low))
digit-plain_below (suc n) d plain low =
    let parts = and_parts (is_plain (slice_index lower_digits n)) _ plain in
    elim (cases_lt d n) [
      | inl less ↦ digit-plain_below n d parts.1 less
      | inr more ↦
          let same : d ≡ n = omega (arith, low, more) in
          ap (λ k. is_plain (slice_index lower_digits k)) same ∙ parts.0
    ]

digit-plain : (d : ℕ) → d < 16 → escape_byte (slice_index lower_digits d) ≡ slice_index lower_digits d ∷ []
digit-plain d low = escape_byte-plain (slice_index lower_digits d) (digit-plain_below 16 d refl low)

-- hexadecimal digits need no escape
pub escape-encode_lower : (bytes : List ℕ) → IsBytes bytes → escape (encode_lower bytes) ≡ encode_lower bytes
unfolding encode_with
escape-encode_lower [] are = refl
escape-encode_lower (b ∷ rest) are =
    let byte : b < 256 = are 0 in
    let high = digit-plain (b / 16) (omega (arith, byte)) in
    let low = digit-plain (b % 16) (omega (arith, byte)) in
    λ i. high i ++ (low i ++ escape-encode_lower rest (λ k. are (suc k)) i)

IsAscii-digits : IsAscii lower_digits
IsAscii-digits =
    IsAscii-cons 48 (codes "123456789abcdef") (omega arith)
    (IsAscii-cons 49 (codes "23456789abcdef") (omega arith)
    (IsAscii-cons 50 (codes "3456789abcdef") (omega arith)
    (IsAscii-cons 51 (codes "456789abcdef") (omega arith)
    (IsAscii-cons 52 (codes "56789abcdef") (omega arith)
    (IsAscii-cons 53 (codes "6789abcdef") (omega arith)
    (IsAscii-cons 54 (codes "789abcdef") (omega arith)
    (IsAscii-cons 55 (codes "89abcdef") (omega arith)
    (IsAscii-cons 56 (codes "9abcdef") (omega arith)
    (IsAscii-cons 57 (codes "abcdef") (omega arith)
    (IsAscii-cons 97 (codes "bcdef") (omega arith)
    (IsAscii-cons 98 (codes "cdef") (omega arith)
    (IsAscii-cons 99 (codes "def") (omega arith)
    (IsAscii-cons 100 (codes "ef") (omega arith)
    (IsAscii-cons 101 (codes "f") (omega arith)
    (IsAscii-cons 102 [] (omega arith) IsAscii-nil)))))))))))))))

pub IsUtf8-encode_lower : (bytes : List ℕ) → IsUtf8 (encode_lower bytes)
IsUtf8-encode_lower bytes =
    IsUtf8-from_ascii (encode_lower bytes) (IsAscii-encode_with lower_digits bytes IsAscii-digits)
