-- Ids of commits whose hexadecimal digits are those of a number in decimal.
use Rattle.std.specs.Prelude.{ℕ, zero, suc, ◌+◌, ◌*◌, ◌/◌, ◌%◌, ◌<◌, List, [], ◌∷◌, ◌++◌, map, replicate}
use Rattle.std.proofs.Math.Facts.{leb_yes}
use Rattle.std.proofs.Math.Nat.{lt_of_lt_of_le}
use Rattle.std.proofs.lemmas.Nat.{mod_below, mul-add-lt}
use Rattle.hex.specs.Hex.{IsBytes}

-- the byte whose two hexadecimal digits are the last two decimal digits of a number
abbrev pub two_digits : ℕ → ℕ
two_digits x = x / 10 % 10 * 16 + x % 10

-- the bytes of the id whose 40 digits are a number below 10^8 in decimal, with zeros before it
abbrev pub number_bytes : ℕ → List ℕ
number_bytes x = replicate 16 0 ++ map two_digits (x / 1_000_000 ∷ x / 10_000 ∷ x / 100 ∷ x ∷ [])

-- They are bytes.

digit_below : (x : ℕ) → x % 10 < 16
digit_below x = lt_of_lt_of_le (mod_below x 10 (leb_yes tt)) (leb_yes tt)

two_digits_below : (x : ℕ) → two_digits x < 256
two_digits_below x = mul-add-lt (x / 10 % 10) 16 (x % 10) 16 (digit_below (x / 10)) (digit_below x)

no_bytes : IsBytes []
no_bytes i = leb_yes tt

one_byte_more : (b : ℕ) (bytes : List ℕ) → b < 256 → IsBytes bytes → IsBytes (b ∷ bytes)
one_byte_more b bytes below rest zero = below
one_byte_more b bytes below rest (suc i) = rest i

digits_fit : (xs : List ℕ) → IsBytes (map two_digits xs)
digits_fit [] = no_bytes
digits_fit (x ∷ xs) = one_byte_more (two_digits x) (map two_digits xs) (two_digits_below x) (digits_fit xs)

zeros_before : (count : ℕ) (bytes : List ℕ) → IsBytes bytes → IsBytes (replicate count 0 ++ bytes)
zeros_before zero bytes rest = rest
zeros_before (suc count) bytes rest =
    one_byte_more 0 (replicate count 0 ++ bytes) (leb_yes tt) (zeros_before count bytes rest)

pub number_bytes_fit : (x : ℕ) → IsBytes (number_bytes x)
number_bytes_fit x =
    let last : List ℕ = x / 1_000_000 ∷ x / 10_000 ∷ x / 100 ∷ x ∷ [] in
    zeros_before 16 (map two_digits last) (digits_fit last)
