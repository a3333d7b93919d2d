-- Patterns of paths, by what stands between slashes (RFC 3986, section 3.3), and the rows of a table of them.
use Rattle.std.specs.Prelude.{ℕ, Bool, true, false, ◌&&◌, ◌==◌, List, [], ◌∷◌, Option, Some, None, length, nat_lt, bytes_eq, if◌then◌else◌}
use Rattle.std.specs.List.{slice_split}

-- the byte `/`
abbrev pub slash : ℕ
slash = 47

-- what stands in a pattern between two slashes: this text, or a parameter, which may be any part that isn't empty
pub data Segment : Type 0 where
  literal : List ℕ → Segment
  parameter : Segment

-- the parts of a path between its slashes
abbrev pub parts : List ℕ → List (List ℕ)
parts path = slice_split (λ b. b == slash) path

-- the parts fit the pattern
abbrev pub fits : List Segment → List (List ℕ) → Bool
fits [] [] = true
fits [] (part ∷ rest) = false
fits (literal w ∷ segments) [] = false
fits (literal w ∷ segments) (part ∷ rest) = bytes_eq part w && fits segments rest
fits (parameter ∷ segments) [] = false
fits (parameter ∷ segments) (part ∷ rest) = nat_lt 0 (length part) && fits segments rest

-- the first row that the parts fit
abbrev pub row_in : {K : Type 0} → List (List Segment × K) → List (List ℕ) → Option K
row_in [] found = None
row_in ((pattern, value) ∷ rows) found = if fits pattern found then Some value else row_in rows found
