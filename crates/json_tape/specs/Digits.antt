-- The whole number that a text of digits alone writes, read digit by digit.
use Rattle.std.specs.Prelude.{ℕ, ◌+◌, ◌-◌, ◌*◌, ◌&&◌, nat_le, if◌then◌else◌, List, [], ◌∷◌, Option, Some, None, option_and_then}
use Rattle.json_tape.specs.declared.number.TheConstants.{MOST_BEFORE_A_DIGIT}

-- the number with one digit more, where the byte is a digit and 64 bits have room for any
abbrev pub digit_after : ℕ → ℕ → Option ℕ
digit_after n c = if nat_le 48 c && nat_le c 57 && nat_le n MOST_BEFORE_A_DIGIT then Some (n * 10 + (c - 48)) else None

-- and with all of them
abbrev pub digits_after : ℕ → List ℕ → Option ℕ
digits_after n [] = Some n
digits_after n (c ∷ cs) = option_and_then (λ m. digits_after m cs) (digit_after n c)
