-- The words that a reader of words has still to give.
use Rattle.std.specs.Prelude.{◌≡◌, ℕ, ◌^◌, ◌≤◌, List, [], Option, Some, None, drop}
use Rattle.std.specs.Borrow.{Bor}
use Rattle.judge.specs.Text.{words, first_number}
use Rattle.judge.specs.declared.words.Words.{Words}

-- the words of what is left of a line, if anything is
abbrev pub words_of_rest : Option (Bor (List ℕ)) → List (List ℕ)
words_of_rest None = []
words_of_rest (Some rest) = words rest.now

-- the words that are left
abbrev pub words_left : Words → List (List ℕ)
words_left reader = words_of_rest reader.rest

-- the first of the old words writes n, and the new ones are those after it
pub record ReadsNumber (old : List (List ℕ)) (n : ℕ) (new : List (List ℕ)) : Type 0 where
  pub value : first_number old ≡ Some n
  pub rest : new ≡ drop 1 old

-- the first of the words writes no number below 2 ^ 32, or there is none
pub record LacksNumber (words : List (List ℕ)) : Type 0 where
  pub too_large : (n : ℕ) → first_number words ≡ Some n → 2 ^ 32 ≤ n
