-- Which words the program takes.
use Rattle.std.specs.Prelude.{ℕ, Bool, false, not, ◌&&◌, ◌==◌, List, [], ◌∷◌, length, Option, Some, None, nat_le, if◌then◌else◌, codes}
use Rattle.std.specs.List.{list_all, list_any}
use Rattle.std.specs.Str.{bytes_eq}
use Rattle.finder_words.specs.declared.matched.Matched.{Matched}
use Rattle.finder_words.specs.declared.matched.Matched.TheVariants as matched

-- a word that isn't empty and doesn't begin with a dash
abbrev pub is_plain : List ℕ → Bool
is_plain [] = false
is_plain (b ∷ bs) = not (b == 45)

-- a command: its name, and the least and the most words that may follow
pub record Row : Type 0 where
  pub name : List ℕ
  pub least : ℕ
  pub most : ℕ

-- a command that is followed by just so many words
abbrev pub taking : List ℕ → ℕ → Row
taking name count = record { name = name; least = count; most = count }

-- the table of the commands
abbrev pub rows : List Row
rows =
    taking (codes "judge") 0
    ∷ record { name = codes "run"; least = 0; most = 1 }
    ∷ taking (codes "found") 4
    ∷ taking (codes "show") 1
    ∷ taking (codes "audit") 0
    ∷ taking (codes "serve") 4
    ∷ taking (codes "work") 4
    ∷ taking (codes "rates") 1
    ∷ taking (codes "drill") 2
    ∷ taking (codes "follow") 3
    ∷ taking (codes "evidence") 2
    ∷ taking (codes "close") 1
    ∷ taking (codes "inherit") 4
    ∷ []

-- the name of the row, and as many words as it takes
abbrev pub is_of_row : List ℕ → ℕ → Row → Bool
is_of_row name count row = bytes_eq row.name name && (nat_le row.least count && nat_le count row.most)

-- no word is empty or begins with a dash, and as many follow the name of a command as it takes
abbrev pub fits : List (List ℕ) → Bool
fits [] = false
fits (name ∷ words) = list_all is_plain (name ∷ words) && list_any (is_of_row name (length words)) rows

-- the words, where they fit
abbrev pub fitting : List (List ℕ) → Option (List (List ℕ))
fitting words = if fits words then Some words else None

-- the words that were matched
abbrev pub words_of : Matched → List (List ℕ)
words_of matched.Judge = codes "judge" ∷ []
words_of matched.Run = codes "run" ∷ []
words_of (matched.RunJournal journal) = codes "run" ∷ journal.now ∷ []
words_of (matched.Found journal lease_ms daily zone) =
    codes "found" ∷ journal.now ∷ lease_ms.now ∷ daily.now ∷ zone.now ∷ []
words_of (matched.Show journal) = codes "show" ∷ journal.now ∷ []
words_of matched.Audit = codes "audit" ∷ []
words_of (matched.Serve journal address handlers links) =
    codes "serve" ∷ journal.now ∷ address.now ∷ handlers.now ∷ links.now ∷ []
words_of (matched.Work address worker runs runner) =
    codes "work" ∷ address.now ∷ worker.now ∷ runs.now ∷ runner.now ∷ []
words_of (matched.Rates journal) = codes "rates" ∷ journal.now ∷ []
words_of (matched.Drill searches workers) = codes "drill" ∷ searches.now ∷ workers.now ∷ []
words_of (matched.Follow journal address rounds) = codes "follow" ∷ journal.now ∷ address.now ∷ rounds.now ∷ []
words_of (matched.Evidence journal search) = codes "evidence" ∷ journal.now ∷ search.now ∷ []
words_of (matched.Close journal) = codes "close" ∷ journal.now ∷ []
words_of (matched.Inherit journal lease_ms daily zone) =
    codes "inherit" ∷ journal.now ∷ lease_ms.now ∷ daily.now ∷ zone.now ∷ []
