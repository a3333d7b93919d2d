-- The values of hexadecimal digits.
use Rattle.std.specs.Prelude.{◌≡◌, ◌<◌, ℕ, List, slice_index, Some}
use Rattle.hex.specs.Hex.{hex_digit_value}

-- the first n digits of a text have these values
abbrev pub AreValues : List ℕ → List ℕ → ℕ → Type 0
AreValues text values n = (k : ℕ) → k < n
    → (hex_digit_value (slice_index text k) ≡ Some (slice_index values k)) × (slice_index values k < 16)
