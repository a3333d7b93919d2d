-- The limits that the values keep, over plain numbers and lists.
use Rattle.std.specs.Prelude.{ℕ, List, length, ◌≤◌, Bool, nat_le, ◌&&◌}
use Rattle.std.specs.List.{AllPass}
use Rattle.farm_types.specs.declared.moment.TheConstants.{MOMENT_MIN_MS, MOMENT_MAX_MS}
use Rattle.farm_types.specs.declared.name.TheConstants.{NAME_MAX_BYTES, NAME_FIRST_BYTE, NAME_LAST_BYTE}

-- a number of milliseconds since 1970 that is a moment
abbrev pub IsMoment : ℕ → Type 0
IsMoment ms = (MOMENT_MIN_MS ≤ ms) × (ms ≤ MOMENT_MAX_MS)

-- the same as a test
abbrev pub is_moment : ℕ → Bool
is_moment ms = nat_le MOMENT_MIN_MS ms && nat_le ms MOMENT_MAX_MS

-- whether a byte is a printable ASCII character, the space included
abbrev pub is_printable : ℕ → Bool
is_printable b = nat_le NAME_FIRST_BYTE b && nat_le b NAME_LAST_BYTE

-- the bytes of a name
pub record IsName (bytes : List ℕ) : Type 0 where
  pub some : 1 ≤ length bytes
  pub few : length bytes ≤ NAME_MAX_BYTES
  pub printable : AllPass is_printable bytes
