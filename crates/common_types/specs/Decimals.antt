-- Numbers in text, in decimal digits.
use Rattle.std.specs.Prelude.{ℕ, Bool, not, ◌&&◌, ◌||◌, ◌==◌, List, [], ◌∷◌, length, nat_le, nat_lt, Option, Some, None, if◌then◌else◌}
use Rattle.std.specs.Str.{all_ascii_digits}
use Rattle.std.specs.Str.Parse.{digits_value, digits_value_after}

-- one or more digits
abbrev pub are_digits : List ℕ → Bool
are_digits text = nat_lt 0 (length text) && all_ascii_digits text

-- the number that one or more digits write, zeros in front among them, where it is at most `most`
abbrev pub digits_up_to : (most : ℕ) → List ℕ → Option ℕ
digits_up_to most text =
    if are_digits text && nat_le (digits_value 10 text) most then Some (digits_value 10 text) else None

-- the number that a word writes: 0, or a digit from 1 to 9 and further digits
abbrev pub number : List ℕ → Option ℕ
number [] = None
number (b ∷ bs) =
    if all_ascii_digits (b ∷ bs) && (not (b == 48) || length bs == 0) then Some (digits_value 10 (b ∷ bs)) else None

-- the number that digits write behind others that write n, where it is at most `most`
abbrev pub digits_behind : (most n : ℕ) → List ℕ → Option ℕ
digits_behind most n digits =
    if all_ascii_digits digits && nat_le (digits_value_after 10 n digits) most then Some (digits_value_after 10 n digits)
    else None
