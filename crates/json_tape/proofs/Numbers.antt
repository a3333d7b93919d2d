-- Numbers, by the parts of their texts.
use Rattle.std.proofs.Common.{◌≡◌, ℕ, ◌+◌, ◌-◌, ◌*◌, ◌^◌, ◌<◌, ◌≤◌, ◌&&◌, nat_le, ℤ, List, [], ◌∷◌, ◌++◌, length, take, drop, slice_index, ◌==◌, Bool, true, false, if◌then◌else◌, Float, Option, Some, None, option_and_then, refl, sym, ap, ◌∙◌, arith, append-nil, take_all, length-drop}
use Rattle.std.proofs.lemmas.Bool.{leb-true, lt-ltb, ne_eqb}
use Rattle.std.proofs.lemmas.Str.{digit_value_digit}
use Rattle.std.proofs.lemmas.Str.Parse.{digit_from_value}
use Rattle.std.specs.Char.{digit_value}
use Rattle.std.specs.Option.{IfSome}
use Rattle.std.specs.Str.Parse.{AllDigits, digits_value, digits_value_after}
use Rattle.fast_float.specs.Text.{Parts, minus, scan, text_of}
use Rattle.fast_float.proofs.Writing.{scan-text_of}
use Rattle.json.proofs.Found.{not_found, Some_inj}
use Rattle.serde_json.specs.Data.{float, negative, unsigned}
use Rattle.serde_json.specs.Find.{as_u64}
use Rattle.serde_json.specs.Read.{number_from, number_of}
use Rattle.json_tape.specs.Digits.{digit_after, digits_after}
use Rattle.json_tape.specs.declared.number.TheConstants.{MOST_BEFORE_A_DIGIT}
use Rattle.json_tape.proofs.Choices.{and_then_some}

pub number_of-minus : (s : List ℕ) → (slice_index s 0 == minus) ≡ true
    → number_of s ≡ number_from true (scan (drop 1 s))
unfolding number_of
number_of-minus s e = rw e refl

pub number_of-digits : (s : List ℕ) → (slice_index s 0 == minus) ≡ false → number_of s ≡ number_from false (scan s)
unfolding number_of
number_of-digits s e = rw e refl

-- all behind the first byte
pub scan-behind : (s : List ℕ) → scan (take (length s - 1) (drop 1 s)) ≡ scan (drop 1 s)
scan-behind s = ap scan (take_all _ (drop 1 s) (omega (arith, length-drop 1 s)))

no_whole : (is fits : Bool) (z : ℤ) (x : Float)
    → option_and_then as_u64 (if is then Some (negative z) else (if fits then Some (float x) else None)) ≡ None
no_whole true fits z x = refl
no_whole false true z x = refl
no_whole false false z x = refl

-- no number with a sign is a whole number
pub as_u64-minus : (p : Parts) → option_and_then as_u64 (number_from true p) ≡ None
as_u64-minus p = no_whole _ _ _ _

-- ---- digits alone

is_one : (n c x : ℕ) (low high room : Bool) → nat_le 48 c ≡ low → nat_le c 57 ≡ high
    → nat_le n MOST_BEFORE_A_DIGIT ≡ room
    → (if low && high && room then Some (n * 10 + (c - 48)) else None) ≡ Some x
    → (48 ≤ c) × (c ≤ 57) × (n ≤ MOST_BEFORE_A_DIGIT) × (n * 10 + (c - 48) ≡ x)
is_one n c x true true true low high room e = (leb-true _ _ low, leb-true _ _ high, leb-true _ _ room, Some_inj _ _ e)
is_one n c x true true false low high room e = not_found x e
is_one n c x true false r low high room e = not_found x e
is_one n c x false h r low high room e = not_found x e

-- the digits that are read one by one, the number that they write behind another, and its bound
digits_after-some : (n x : ℕ) (cs : List ℕ) → n < 2 ^ 64 → digits_after n cs ≡ Some x
    → AllDigits 10 cs × (digits_value_after 10 n cs ≡ x) × (x < 2 ^ 64)
digits_after-some n x [] fits e = (tt, Some_inj _ _ e, omega (arith, fits, Some_inj n x e))
digits_after-some n x (c ∷ cs) fits e =
    let first = and_then_some (λ m. digits_after m cs) (digit_after n c) x e in
    let one = is_one n c first.0 _ _ _ refl refl refl first.1 in
    let worth : digit_value c + 48 ≡ c = digit_value_digit c (one.0, one.1) in
    let below : n ≤ 1844674407370955160 = one.2 in
    let next : n * 10 + digit_value c ≡ first.0 = omega (arith, worth, one.0, one.3) in
    let more = digits_after-some first.0 x cs (omega (arith, below, one.1, one.0, one.3)) first.2 in (
      (omega (arith, worth, one.1), more.0),
      ap (λ m. digits_value_after 10 m cs) next ∙ more.1,
      more.2,
    )

abbrev plain_parts : List ℕ → Parts
plain_parts s =
    record { whole = s; point = false; fraction = []; exponent_negative = false; exponent = []; len = length s }

plain_parts-scan : (s : List ℕ) → AllDigits 10 s → scan s ≡ plain_parts s
plain_parts-scan s digits =
    let same : text_of (plain_parts s) ≡ s = append-nil s in
    ap scan (sym same)
    ∙ scan-text_of (plain_parts s)
    (record {
      whole_digits = digits;
      fraction_digits = tt;
      exponent_digits = tt;
      no_point = λ _. refl;
      no_exponent = λ _. refl;
      len_is = ap length (sym same);
    })

first-digit : (s : List ℕ) → 0 < length s → AllDigits 10 s → (slice_index s 0 == minus) ≡ false
first-digit [] some digits = absurd (omega (arith, some))
first-digit (c ∷ cs) some digits = let is = digit_from_value c digits.0 in ne_eqb c 45 (λ e. omega (arith, is, e))

-- the number that digits alone write
plain-number : (s : List ℕ) (x : ℕ) → 0 < length s → digits_after 0 s ≡ Some x → number_of s ≡ Some (unsigned x)
plain-number s x some e =
    let read = digits_after-some 0 x s (omega arith) e in
    let value : digits_value 10 (s ++ []) ≡ x = ap (digits_value 10) (append-nil s) ∙ read.1 in
    number_of-digits s (first-digit s some read.0)
    ∙ ap (number_from false) (plain_parts-scan s read.0)
    ∙ rw (lt-ltb 0 (length s) some, value, lt-ltb x (2 ^ 64) read.2) refl

pub plain-result : (s : List ℕ) (r : Option ℕ) → 0 < length s → r ≡ digits_after 0 s
    → IfSome r (λ x. number_of s ≡ Some (unsigned x))
plain-result s None some e = tt
plain-result s (Some x) some e = plain-number s x some (sym e)
