-- Digit by digit to a number.
use Rattle.std.proofs.Common.{ℕ, ◌≡◌, ◌+◌, ◌*◌, ◌<◌, ◌≤◌, Bool, true, false, ◌&&◌, List, [], ◌∷◌, length, get_or, nat_le, None, refl, ap, arith}
use Rattle.std.specs.Char.{is_ascii_digit, digit_value}
use Rattle.std.specs.List.{list_all}
use Rattle.std.specs.Str.{all_ascii_digits}
use Rattle.std.specs.Str.Parse.{digits_value_after}
use Rattle.std.proofs.lemmas.Bool.{lt-leb}
use Rattle.common_types.specs.Decimals.{digits_behind}

-- each byte is a digit
pub list_all-digits : (text : List ℕ) → list_all is_ascii_digit text ≡ all_ascii_digits text
list_all-digits [] = refl
list_all-digits (b ∷ text) = ap (λ (v : Bool). is_ascii_digit b && v) (list_all-digits text)

-- more digits make no smaller number
pub digits_value_after-ge : (n : ℕ) (digits : List ℕ) → n ≤ digits_value_after 10 n digits
digits_value_after-ge n [] = omega arith
digits_value_after-ge n (d ∷ digits) = omega (arith, digits_value_after-ge (n * 10 + digit_value d) digits)

and-false : (b : Bool) → (b && false) ≡ false
and-false true = refl
and-false false = refl

-- a number that is past a bound with the next digit stays past it
pub digits_behind-past : (most n : ℕ) (digits : List ℕ) → 1 ≤ length digits → most < n * 10 + digit_value (get_or digits 0 0)
    → digits_behind most n digits ≡ None
digits_behind-past most n [] some past = absurd (omega arith)
digits_behind-past most n (d ∷ digits) some past =
    let next = n * 10 + digit_value d in
    let over : nat_le (digits_value_after 10 next digits) most ≡ false =
    lt-leb (digits_value_after 10 next digits) most (omega (arith, past, digits_value_after-ge next digits)) in
    rw (over, and-false (all_ascii_digits (d ∷ digits))) refl
