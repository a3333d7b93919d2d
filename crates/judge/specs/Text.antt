-- Lines, words and numbers of a text.
use Rattle.std.specs.Prelude.{ℕ, List, [], ◌∷◌, ◌++◌, ◌==◌, if◌then◌else◌, Option, Some, None, option_map}
use Rattle.common_types.specs.Decimals.{number}

-- the pieces of a text between the bytes `mark`, `piece` being what was read of the first
abbrev pub pieces_after : ℕ → List ℕ → List ℕ → List (List ℕ)
pieces_after mark piece [] = piece ∷ []
pieces_after mark piece (b ∷ bs) = if b == mark then piece ∷ pieces_after mark [] bs else pieces_after mark
    (piece ++ b ∷ []) bs

-- the words of a line: one space stands between two
abbrev pub words : List ℕ → List (List ℕ)
words line = pieces_after 32 [] line

-- the lines of a text, `line` being what was read of the first: each ends with a line feed, which the last one may
-- lack, and what follows the last line feed is no line if it is empty
abbrev pub lines_after : List ℕ → List ℕ → List (List ℕ)
lines_after [] [] = []
lines_after (b ∷ line) [] = (b ∷ line) ∷ []
lines_after line (b ∷ bs) = if b == 10 then line ∷ lines_after [] bs else lines_after (line ++ b ∷ []) bs

abbrev pub lines : List ℕ → List (List ℕ)
lines bs = lines_after [] bs

-- the text that these lines make, each with its line feed
abbrev pub text_of : List (List ℕ) → List ℕ
text_of [] = []
text_of (line ∷ others) = line ++ 10 ∷ text_of others

-- a number before a list of numbers, where both are there
abbrev pub with_first : Option ℕ → Option (List ℕ) → Option (List ℕ)
with_first None ns = None
with_first (Some n) ns = option_map (λ ms. n ∷ ms) ns

-- the numbers of a list of words, where each is a number
abbrev pub numbers : List (List ℕ) → Option (List ℕ)
numbers [] = Some []
numbers (w ∷ ws) = with_first (number w) (numbers ws)

-- the number that the first of a list of words writes, where there is one
abbrev pub first_number : List (List ℕ) → Option ℕ
first_number [] = None
first_number (w ∷ ws) = number w
