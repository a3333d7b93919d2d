-- Hexadecimal digits that were read, written again.
use Rattle.std.proofs.Common.{◌≡◌, ℕ, zero, suc, ◌+◌, ◌*◌, ◌/◌, ◌%◌, ◌<◌, ◌≤◌, ◌==◌, nat_lt, Bool, true, false, ◌&&◌, List, [], ◌∷◌, map, slice_index, Option, Some, None, Result, Ok, Err, refl, sym, ap, ◌∙◌, ⊎_elim, arith, true≢false}
use Rattle.std.specs.Char.{to_ascii_lowercase}
use Rattle.std.proofs.lemmas.Bool.{and_parts, cases_eq, cases_lt}
use Rattle.std.proofs.lemmas.Bool.Decides.{nat_tests}
use Rattle.std.proofs.lemmas.Option.{none-some}
use Rattle.farm_types.specs.CommitId.{id_bytes, id_digits}
use Rattle.farm_types.specs.declared.commit_id.CommitId.{CommitId}
use Rattle.hex.specs.declared.error.FromHexError.{FromHexError}
use Rattle.hex.specs.Hex.{◌>>=◌, decode_of, decode_pairs, digit_or_error, encode_lower, encode_with, hex_digit_value, lower_digits, pair_value}
use Rattle.hex.proofs.HexLemmas.{decode_of-encode_lower, decode_of-even, decode_of-ok}

-- A test of all numbers below a bound, which computes.
abbrev all_below : (ℕ → Bool) → ℕ → Bool
all_below test zero = true
all_below test (suc n) = test n && all_below test n

not_last : (k n : ℕ) → k < suc n → (k ≡ n → ⊥) → k < n
not_last k n below other = ⊎_elim (λ (less : k < n). less) (λ (more : n ≤ k).
    absurd (other (omega arith))) (cases_lt k n)

below-at : (test : ℕ → Bool) (n k : ℕ) → all_below test n ≡ true → k < n → test k ≡ true
below-at test zero k h below = absurd (omega arith)
below-at test (suc n) k h below =
    let parts = and_parts (test n) (all_below test n) h in
    ⊎_elim (λ (same : k ≡ n). ap test same ∙ parts.0)
    (λ (other : k ≡ n → ⊥). below-at test n k parts.1 (not_last k n below other))
    (cases_eq k n)

-- whether a digit is written again in lower case
abbrev is_lower : ℕ → ℕ → Bool
is_lower c v = slice_index lower_digits v == to_ascii_lowercase c

abbrev lower_if : ℕ → Option ℕ → Bool
lower_if c None = true
lower_if c (Some v) = is_lower c v

abbrev written_lower : ℕ → Bool
written_lower c = lower_if c (hex_digit_value c)

-- no digit is past `f`
past-none : (c : ℕ) → 103 ≤ c → hex_digit_value c ≡ None
past-none c high = grind (arith, nat_tests)

digit-lower_by : (c v : ℕ) → hex_digit_value c ≡ Some v → lower_if c (hex_digit_value c) ≡ true →
    slice_index lower_digits v ≡ to_ascii_lowercase c
digit-lower_by c v h t =
    let test : is_lower c v ≡ true = ap (lower_if c) (sym h) ∙ t in
    grind (arith, nat_tests, test)

digit-lower : (c v : ℕ) → hex_digit_value c ≡ Some v → slice_index lower_digits v ≡ to_ascii_lowercase c
digit-lower c v h =
    ⊎_elim
    (λ (low : c < 103). digit-lower_by c v h (below-at written_lower 103 c refl low))
    (λ (high : 103 ≤ c). absurd (none-some v (sym (past-none c high) ∙ h)))
    (cases_lt c 103)

-- a digit's value is below 16
abbrev small_if : Option ℕ → Bool
small_if None = true
small_if (Some v) = nat_lt v 16

digit-small : (c v : ℕ) → hex_digit_value c ≡ Some v → v < 16
digit-small c v h =
    ⊎_elim
    (λ (low : c < 103).
    let test : nat_lt v 16 ≡ true = ap small_if (sym h) ∙ below-at (λ n. small_if (hex_digit_value n)) 103 c refl low in
    grind (arith, nat_tests, test))
    (λ (high : 103 ≤ c). absurd (none-some v (sym (past-none c high) ∙ h)))
    (cases_lt c 103)

-- Two digits.

record Pair (a b v : ℕ) : Type 0 where
  high : ℕ
  low : ℕ
  of_a : hex_digit_value a ≡ Some high
  of_b : hex_digit_value b ≡ Some low
  is : v ≡ high * 16 + low

pair-by : (a b i v : ℕ) (x y : Option ℕ) → hex_digit_value a ≡ x → hex_digit_value b ≡ y →
    (digit_or_error a i x >>= (λ h. digit_or_error b (i + 1) y >>= (λ l. Ok (h * 16 + l)))) ≡ Ok v → Pair a b v
pair-by a b i v None y e f h = let t : true ≡ false = cc in absurd (true≢false t)
pair-by a b i v (Some p) None e f h = let t : true ≡ false = cc in absurd (true≢false t)
pair-by a b i v (Some p) (Some q) e f h =
    let same : p * 16 + q ≡ v = cc in
    record { high = p; low = q; of_a = e; of_b = f; is = sym same }

pair-of : (a b i v : ℕ) → pair_value a b i ≡ Ok v → Pair a b v
pair-of a b i v h = pair-by a b i v (hex_digit_value a) (hex_digit_value b) refl refl h

-- A text.

record Parts (a b i : ℕ) (rest bytes : List ℕ) : Type 0 where
  byte : ℕ
  more : List ℕ
  first : pair_value a b i ≡ Ok byte
  later : decode_pairs (i + 2) rest ≡ Ok more
  is : bytes ≡ byte ∷ more

parts-by : (a b i : ℕ) (rest bytes : List ℕ) (p : Result ℕ FromHexError) (d : Result (List ℕ) FromHexError) →
    pair_value a b i ≡ p →
    decode_pairs (i + 2) rest ≡ d → (p >>= (λ byte. d >>= (λ more. Ok (byte ∷ more)))) ≡ Ok bytes →
    Parts a b i rest bytes
parts-by a b i rest bytes (Err e) d first later h = let t : true ≡ false = cc in absurd (true≢false t)
parts-by a b i rest bytes (Ok x) (Err e) first later h = let t : true ≡ false = cc in absurd (true≢false t)
parts-by a b i rest bytes (Ok x) (Ok xs) first later h =
    let same : x ∷ xs ≡ bytes = cc in
    record { byte = x; more = xs; first = first; later = later; is = sym same }

divided : (h l v : ℕ) → l < 16 → v ≡ h * 16 + l → (v / 16 ≡ h) × (v % 16 ≡ l)
divided h l v below is = (omega arith, omega arith)

pub lower-decoded : (i : ℕ) (text bytes : List ℕ) → decode_pairs i text ≡ Ok bytes →
    encode_lower bytes ≡ map to_ascii_lowercase text
unfolding decode_pairs encode_with
lower-decoded i [] bytes h = let none : bytes ≡ [] = cc in ap encode_lower none
lower-decoded i (a ∷ []) bytes h = let t : true ≡ false = cc in absurd (true≢false t)
lower-decoded i (a ∷ b ∷ rest) bytes h =
    let parts = parts-by a b i rest bytes (pair_value a b i) (decode_pairs (i + 2) rest) refl refl h in
    let pair = pair-of a b i parts.byte parts.first in
    let small : pair.low < 16 = digit-small b pair.low pair.of_b in
    let split = divided pair.high pair.low parts.byte small pair.is in
    let first : slice_index lower_digits (parts.byte / 16) ≡ to_ascii_lowercase a =
    ap (slice_index lower_digits) split.0 ∙ digit-lower a pair.high pair.of_a in
    let second : slice_index lower_digits (parts.byte % 16) ≡ to_ascii_lowercase b =
    ap (slice_index lower_digits) split.1 ∙ digit-lower b pair.low pair.of_b in
    let later : encode_lower parts.more ≡ map to_ascii_lowercase rest =
    lower-decoded (i + 2) rest parts.more parts.later in
    ap encode_lower parts.is
    ∙ (λ j. first j ∷ second j ∷ later j)

pub id-lower : (text : List ℕ) (id : CommitId) → decode_of text ≡ Ok (id_bytes id) →
    id_digits id ≡ map to_ascii_lowercase text
id-lower text id h =
    let even = (decode_of-ok text (id_bytes id) h).0 in
    lower-decoded 0 text (id_bytes id) (sym (decode_of-even text even) ∙ h)

pub id-again : (id : CommitId) → decode_of (id_digits id) ≡ Ok (id_bytes id)
id-again id = decode_of-encode_lower (id_bytes id) id.fits
