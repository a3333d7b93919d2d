-- The lines that a reader of lines has still to give.
use Rattle.std.specs.Prelude.{◌≡◌, ℕ, ◌+◌, List, [], ◌∷◌, Option, MatchOption}
use Rattle.judge.specs.Text.{lines}
use Rattle.judge.specs.declared.lines.Line.{Line}
use Rattle.judge.specs.declared.lines.Lines.{Lines}

-- the lines that are left
abbrev pub lines_left : Lines → List (List ℕ)
lines_left reader = lines reader.rest.now

-- the number of the next line, whether or not there is one
abbrev pub next_number : Lines → ℕ
next_number reader = reader.number

-- one call: the first of the lines that were left, with its number, or nothing where none was left
abbrev pub GivesLine : Lines → Option Line → Lines → Type 0
GivesLine old given new =
    MatchOption given ((lines_left old ≡ []) × (lines_left new ≡ []) × (next_number new ≡ next_number old))
    (λ line. (lines_left old ≡ line.text.now ∷ lines_left new) × (line.number ≡ next_number old) ×
    (next_number new ≡ next_number old + 1))
