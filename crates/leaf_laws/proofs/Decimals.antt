-- The digits of a number, as heads and paths look at them.
use Rattle.std.proofs.Common.{◌≡◌, ◌<◌, ◌≤◌, ◌^◌, ◌==◌, ℕ, Bool, true, false, List, [], ◌∷◌, length, get_or, reverse}
use Rattle.std.proofs.Common.{decimal, Some, refl, sym, subst, arith, nat_lt}
use Rattle.std.specs.Char.{is_ascii_digit}
use Rattle.std.specs.List.{list_all}
use Rattle.std.specs.Str.{all_ascii_digits}
use Rattle.std.specs.Str.Parse.{digits_value}
use Rattle.std.proofs.lemmas.Bool.{and_parts, lt-ltb}
use Rattle.std.proofs.lemmas.Bool.Decides.{nat_tests}
use Rattle.std.proofs.lemmas.Fmt.{decimal_is_IsNumeral, decimal_nonempty, digits_decimal, first_decimal}
use Rattle.std.proofs.lemmas.List.{get_or_default}
use Rattle.std.proofs.lemmas.List.Elements.{All-cons, All-head, All-nil}
use Rattle.std.proofs.lemmas.Str.Parse.{numerals_by_value, tells_all_ascii_digits, tells_by_index}
use Rattle.httparse.specs.Grammar.{AllPass, is_ows, is_uri_byte, is_value_byte, skip_ows, trim_ows}
use Rattle.httparse.proofs.TrimLemmas.{AllPass-reverse, skip_ows_no, trim_ows_space}
use Rattle.common_types.specs.Decimals.{are_digits, number}

-- each byte of a list that passes as a whole passes
pub pass-each : (test : ℕ → Bool) (bytes : List ℕ) → list_all test bytes ≡ true → AllPass test bytes
pass-each test [] pass = All-nil (λ b. test b ≡ true)
pass-each test (b ∷ bytes) pass =
    let parts = and_parts (test b) (list_all test bytes) pass in
    All-cons (λ c. test c ≡ true) b bytes parts.0 (pass-each test bytes parts.1)

digit-range : (b : ℕ) → 48 ≤ b → b ≤ 57 → is_ascii_digit b ≡ true
digit-range b low high = grind (arith, nat_tests)

-- the bytes of a number are digits
pub digits-decimal : (n : ℕ) → n < 2 ^ 64 → AllPass is_ascii_digit (decimal n)
digits-decimal n fits i d within =
    let at = digits_decimal (numerals_by_value _ tells_by_index) n fits i within in
    subst (λ b. is_ascii_digit b ≡ true) (get_or_default (decimal n) i 0 d within) (digit-range _ at.0 at.1)

pub uri-digit : (b : ℕ) → is_ascii_digit b ≡ true → is_uri_byte b ≡ true
uri-digit b is = grind (arith, nat_tests)

pub value-digit : (b : ℕ) → is_ascii_digit b ≡ true → is_value_byte b ≡ true
value-digit b is = grind (arith, nat_tests)

pub slash-digit : (b : ℕ) → is_ascii_digit b ≡ true → (b == 47) ≡ false
slash-digit b is = grind (arith, nat_tests)

pub question-digit : (b : ℕ) → is_ascii_digit b ≡ true → (b == 63) ≡ false
question-digit b is = grind (arith, nat_tests)

ows-digit : (b : ℕ) → is_ascii_digit b ≡ true → is_ows b ≡ false
ows-digit b is = grind (arith, nat_tests)

skip-digits : (text : List ℕ) → AllPass is_ascii_digit text → skip_ows text ≡ text
skip-digits [] are = refl
skip-digits (b ∷ text) are =
    skip_ows_no refl (sym (ows-digit b (All-head (λ c. is_ascii_digit c ≡ true) b text are)))

-- digits behind a space are a field's value
pub trim-digits : (text : List ℕ) → AllPass is_ascii_digit text → trim_ows (32 ∷ text) ≡ text
trim-digits text are =
    trim_ows_space text (skip-digits text are) (skip-digits (reverse text) (AllPass-reverse is_ascii_digit text are))

pub all-digits : (n : ℕ) → n < 2 ^ 64 → all_ascii_digits (decimal n) ≡ true
all-digits n fits = digits_decimal (numerals_by_value _ tells_all_ascii_digits) n fits

pub some-digit : (n : ℕ) → n < 2 ^ 64 → nat_lt 0 (length (decimal n)) ≡ true
some-digit n fits = lt-ltb 0 (length (decimal n)) (decimal_nonempty n fits)

pub are_digits-decimal : (n : ℕ) → n < 2 ^ 64 → are_digits (decimal n) ≡ true
are_digits-decimal n fits = rw (some-digit n fits, all-digits n fits) refl

pub value-decimal : (n : ℕ) → n < 2 ^ 64 → digits_value 10 (decimal n) ≡ n
value-decimal n fits = (decimal_is_IsNumeral n fits).1

number-digits : (text : List ℕ) (n : ℕ) → 0 < length text → all_ascii_digits text ≡ true → 48 < get_or text 0 0
    → digits_value 10 text ≡ n → number text ≡ Some n
number-digits [] n some are first is = absurd (omega (arith, some))
number-digits (b ∷ text) n some are first is =
    let other : (b == 48) ≡ false = grind (arith, nat_tests) in
    rw (are, other, is) refl

-- a number from 1 on is written without zeros in front
pub number-decimal : (n : ℕ) → 0 < n → n < 2 ^ 64 → number (decimal n) ≡ Some n
number-decimal n some fits =
    number-digits (decimal n) n (decimal_nonempty n fits) (all-digits n fits) (first_decimal n some fits)
    (value-decimal n fits)
