-- The lines of a text.
use Rattle.std.specs.Prelude.{ℕ, List, [], ◌∷◌, ◌++◌, ◌==◌, if◌then◌else◌}

-- the lines of a text, `line` being what was read of the first: each ends with a line feed, which the last one may
-- lack, and what follows the last line feed is no line if it is empty
abbrev pub lines_after : List ℕ → List ℕ → List (List ℕ)
lines_after [] [] = []
lines_after (b ∷ line) [] = (b ∷ line) ∷ []
lines_after line (b ∷ bs) = if b == 10 then line ∷ lines_after [] bs else lines_after (line ++ b ∷ []) bs

abbrev pub lines : List ℕ → List (List ℕ)
lines bs = lines_after [] bs
