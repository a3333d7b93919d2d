-- What is kept of skipped positions.
use Rattle.std.specs.Prelude.{◌≡◌, ℕ, ◌+◌, ◌/◌, ◌%◌, ◌≤◌, ◌==◌, Bool, length, get_or, List, [], ◌∷◌, true, false, reverse}
use Rattle.std.specs.Int.{bit_at}
use Rattle.weight_exact.specs.declared.limits.TheConstants.{MAX_SUSPECTS}
use Rattle.threshold_pick.specs.Open.{is_skipped}
use Rattle.threshold_pick.specs.declared.skips.Skips.TheInside.{Inside}

-- the bit of a position: the words have 64 each, from the lowest on
abbrev pub bit_of : List ℕ → ℕ → Bool
bit_of words p = bit_at (get_or words (p / 64) 0) (p % 64) == 1

-- each position's bit says whether it stands in a list
abbrev pub AreBitsOf : List ℕ → List ℕ → Type 0
AreBitsOf words skipped = (p : ℕ) → p ≤ MAX_SUSPECTS → bit_of words p ≡ is_skipped skipped p

-- whether a list has no element
abbrev pub is_none : List ℕ → Bool
is_none [] = true
is_none (x ∷ xs) = false

-- the fields stand for the positions that were told
pub record IsSkips (s : Inside) : Type 0 where
  pub whole : length s.words ≡ MAX_SUSPECTS / 64 + 1
  pub bits_are : AreBitsOf s.words (reverse s.told)
  pub empty_is : s.is_empty ≡ is_none s.told
