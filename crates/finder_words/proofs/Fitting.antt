-- Words that fit a command, and words that fit none.
use Rattle.std.proofs.Common.{◌≡◌, ap, refl, sym, Bool, true, false, List, ℕ, Some, None, if◌then◌else◌}
use Rattle.std.proofs.lemmas.Option.{none-some, same_Some}
use Rattle.finder_words.specs.Forms.{fits, fitting}

-- what was matched is what the words are, and they fit
pub words-matched : {X : Type 0} (read : List (List ℕ) → X) (none : X) (matched words : List (List ℕ))
    → Some matched ≡ fitting words → read matched ≡ (if fits words then read words else none)
words-matched read none matched words is = by_test (fits words) is
  where
    by_test : (fit : Bool) → Some matched ≡ (if fit then Some words else None) → read matched ≡ (if fit then read words else none)
    by_test true is = ap read (same_Some matched words is)
    by_test false is = absurd (none-some matched (sym is))

-- and where nothing was matched they don't
pub words-unmatched : {X : Type 0} (read : List (List ℕ) → X) (none : X) (words : List (List ℕ))
    → None ≡ fitting words → none ≡ (if fits words then read words else none)
words-unmatched read none words is = by_test (fits words) is
  where
    by_test : (fit : Bool) → None ≡ (if fit then Some words else None) → none ≡ (if fit then read words else none)
    by_test true is = absurd (none-some words is)
    by_test false is = refl
