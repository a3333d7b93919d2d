-- A table's patterns as the router's rows, and the row that the router's walk finds, by parts.
use Rattle.std.specs.Prelude.{ℕ, Bool, true, ◌&&◌, ◌==◌, not, List, [], ◌∷◌, ◌++◌, Option, Some, None, cond, length, nat_lt, bytes_eq}
use Rattle.matchit.specs.Rows.{RowsOf, param_token}
use Rattle.matchit.specs.Seek.{or_else}
use Rattle.http_requests.specs.Segments.{Segment, literal, parameter, slash}

abbrev pub tokens_of : Segment → List ℕ
tokens_of (literal w) = w
tokens_of parameter = param_token ∷ []

-- the tokens of segments that each have a slash in front
abbrev pub after : List Segment → List ℕ
after [] = []
after (s ∷ rest) = slash ∷ (tokens_of s ++ after rest)

-- the literal is of bytes, and without slashes
abbrev pub is_plain : List ℕ → Bool
is_plain [] = true
is_plain (b ∷ rest) = nat_lt b 256 && (not (b == slash) && is_plain rest)

abbrev pub are_plain : List Segment → Bool
are_plain [] = true
are_plain (literal w ∷ rest) = is_plain w && are_plain rest
are_plain (parameter ∷ rest) = are_plain rest

module _ {K : Type 0} where
  -- the router's rows of patterns: a path has at least one part, so that no row stands for an empty pattern
  abbrev pub rows_for : List (List Segment × K) → RowsOf K
  rows_for [] = []
  rows_for (([], k) ∷ more) = rows_for more
  rows_for ((s ∷ rest, k) ∷ more) = (tokens_of s ++ after rest, k) ∷ rows_for more

  -- what is left of the rows behind a part
  abbrev pub rows_after : List (List Segment × K) → RowsOf K
  rows_after [] = []
  rows_after ((rest, k) ∷ more) = (after rest, k) ∷ rows_after more

  -- the first row with nothing left
  abbrev pub ended : List (List Segment × K) → Option K
  ended [] = None
  ended (([], k) ∷ more) = Some k
  ended ((s ∷ rest, k) ∷ more) = ended more

  -- the rows that go on with a part as a literal
  abbrev pub with_literal : List ℕ → List (List Segment × K) → List (List Segment × K)
  with_literal part [] = []
  with_literal part (([], k) ∷ more) = with_literal part more
  with_literal part ((literal w ∷ rest, k) ∷ more) = cond (bytes_eq part w) ((rest, k) ∷ with_literal part more) (with_literal part more)
  with_literal part ((parameter ∷ rest, k) ∷ more) = with_literal part more

  -- the rows that go on with a parameter
  abbrev pub with_parameter : List (List Segment × K) → List (List Segment × K)
  with_parameter [] = []
  with_parameter (([], k) ∷ more) = with_parameter more
  with_parameter ((literal w ∷ rest, k) ∷ more) = with_parameter more
  with_parameter ((parameter ∷ rest, k) ∷ more) = (rest, k) ∷ with_parameter more

  -- the row of the parts, a literal before a parameter
  abbrev pub pick : List (List Segment × K) → List (List ℕ) → Option K
  pick rows [] = ended rows
  pick rows (part ∷ rest) =
      or_else (pick (with_literal part rows) rest) (cond (nat_lt 0 (length part)) (pick (with_parameter rows) rest) None)

  -- the words of these rows are plain
  abbrev pub all_plain : List (List Segment × K) → Bool
  all_plain [] = true
  all_plain ((segments, k) ∷ more) = are_plain segments && all_plain more
