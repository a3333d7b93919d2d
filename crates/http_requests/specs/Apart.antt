-- Tables of which no two rows fit one path, and their rows in the router's order.
use Rattle.std.specs.Prelude.{ℕ, Bool, true, false, not, ◌&&◌, ◌||◌, List, [], ◌∷◌, ◌++◌, cond, bytes_eq}
use Rattle.matchit.specs.Rows.{comes_before}
use Rattle.http_requests.specs.Segments.{Segment, literal, parameter}
use Rattle.http_requests.specs.Walk.{tokens_of, after}

-- two patterns that no path fits both: they are not as long, or have two different words at one place
abbrev pub apart : List Segment → List Segment → Bool
apart [] [] = false
apart [] (t ∷ q) = true
apart (s ∷ p) [] = true
apart (literal v ∷ p) (literal w ∷ q) = not (bytes_eq v w) || apart p q
apart (literal v ∷ p) (parameter ∷ q) = apart p q
apart (parameter ∷ p) (t ∷ q) = apart p q

abbrev pub tokens : List Segment → List ℕ
tokens [] = []
tokens (s ∷ rest) = tokens_of s ++ after rest

module _ {K : Type 0} where
  abbrev pub apart_from : List Segment → List (List Segment × K) → Bool
  apart_from p [] = true
  apart_from p ((q, k) ∷ more) = apart p q && apart_from p more

  -- no two rows fit one path
  abbrev pub all_apart : List (List Segment × K) → Bool
  all_apart [] = true
  all_apart ((p, k) ∷ more) = apart_from p more && all_apart more

  -- a row in its place among rows in order
  abbrev pub into : (List Segment × K) → List (List Segment × K) → List (List Segment × K)
  into r [] = r ∷ []
  into r (x ∷ more) = cond (comes_before (tokens r.0) (tokens x.0)) (r ∷ x ∷ more) (x ∷ into r more)

  -- the rows in the router's order
  abbrev pub in_order : List (List Segment × K) → List (List Segment × K)
  in_order [] = []
  in_order (r ∷ more) = into r (in_order more)
