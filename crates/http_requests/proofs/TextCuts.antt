-- The path of a target that is a text is a text: it is cut off at slashes and question marks, which are characters.
use Rattle.std.proofs.Common.{ℕ, zero, suc, ◌≡◌, ◌<◌, ◌==◌, ◌⊎◌, inl, inr, Bool, true, false, cond, List, [], ◌∷◌, codes, take, drop, if◌then◌else◌, refl, sym, ap, subst, ◌∙◌, arith}
use Rattle.std.specs.List.{onto_first, slice_index_or, slice_split}
use Rattle.std.specs.Str.{IsCharBoundary, IsUtf8}
use Rattle.std.proofs.Math.Utf8.{encode}
use Rattle.std.proofs.lemmas.Bool.Decides.{nat_tests}
use Rattle.std.proofs.lemmas.Str.{IsUtf8-drop, IsUtf8-take}
use Rattle.http_requests.specs.Texts.{same_text}
use Rattle.http_requests.specs.Paths.{before_question, from_slash, path_of, question_mark, scheme_bytes, slash}

-- a place behind a byte more
later : (b i : ℕ) (bs : List ℕ) → IsCharBoundary bs i → IsCharBoundary (b ∷ bs) (suc i)
later b i bs at = (omega (arith, at.0), λ inside big. at.1 (omega (arith, inside)) big)

-- a place before an ASCII byte
before : (b : ℕ) (bs : List ℕ) → b < 128 → IsCharBoundary (b ∷ bs) 0
before b bs small = (omega arith, λ inside big. absurd (omega (arith, small, big)))

nothing : IsCharBoundary [] 0
nothing = (omega arith, λ inside big. absurd (omega (arith, inside)))

onto_first-first : (b : ℕ) (ps : List (List ℕ)) → slice_index_or (onto_first b ps) 0 [] ≡ b ∷ slice_index_or ps 0 []
onto_first-first b [] = refl
onto_first-first b (part ∷ ps) = refl

-- what stands before the first question mark is cut off at a character
before-cut : (text : List ℕ) → (i : ℕ) × IsCharBoundary text i × (before_question text ≡ take i text)
before-cut [] = (0, nothing, refl)
before-cut (b ∷ bs) = go (b == question_mark) refl (before-cut bs)
  where
    go : (v : Bool) → (b == question_mark) ≡ v → (i : ℕ) × IsCharBoundary bs i × (before_question bs ≡ take i bs)
        → (i : ℕ) × IsCharBoundary (b ∷ bs) i
        × (slice_index_or (cond v ([] ∷ slice_split (λ c. c == question_mark) bs) (onto_first b (slice_split (λ c. c == question_mark) bs))) 0 []
        ≡ take i (b ∷ bs))
    go true is found = (0, before b bs (grind (arith, nat_tests, is)), refl)
    go false is found = (
      suc found.0,
      later b found.0 bs found.1,
      onto_first-first b (slice_split (λ c. c == question_mark) bs) ∙ ap (λ (l : List ℕ). b ∷ l) found.2,
    )

-- where some bytes of a text are left out, and then all up to the first slash
abbrev IsCut : List ℕ → List ℕ → Type 0
IsCut text rest = (rest ≡ slash ∷ []) ⊎ ((i : ℕ) × IsCharBoundary text i × (rest ≡ drop i text))

cut-later : (b : ℕ) (bs rest : List ℕ) → IsCut bs rest → IsCut (b ∷ bs) rest
cut-later b bs rest (inl alone) = inl alone
cut-later b bs rest (inr found) = inr (suc found.0, later b found.0 bs found.1, found.2)

from-cut : (text : List ℕ) → IsCut text (from_slash text)
from-cut [] = inl refl
from-cut (b ∷ bs) = go (b == slash) refl (from-cut bs)
  where
    go : (v : Bool) → (b == slash) ≡ v → IsCut bs (from_slash bs) → IsCut (b ∷ bs) (if v then b ∷ bs else from_slash bs)
    go true is found = inr (0, before b bs (grind (arith, nat_tests, is)), refl)
    go false is found = cut-later b bs (from_slash bs) found

behind-cut : (k : ℕ) (text : List ℕ) → IsCut text (from_slash (drop k text))
behind-cut zero text = from-cut text
behind-cut (suc k) [] = inl refl
behind-cut (suc k) (b ∷ bs) = cut-later b bs (from_slash (drop k bs)) (behind-cut k bs)

slash-text : IsUtf8 (slash ∷ [])
unfolding encode
slash-text = (slash ∷ [], (refl, refl))

cut-text : (text rest : List ℕ) → IsUtf8 text → IsCut text rest → IsUtf8 rest
cut-text text rest is (inl alone) = subst IsUtf8 (sym alone) slash-text
cut-text text rest is (inr found) = subst IsUtf8 (sym found.2) (IsUtf8-drop text found.0 is found.1)

before-text : (text : List ℕ) → IsUtf8 text → IsUtf8 (before_question text)
before-text text is = let found = before-cut text in subst IsUtf8 (sym found.2) (IsUtf8-take text found.0 is found.1)

pub path-text : (target : List ℕ) → IsUtf8 target → IsUtf8 (path_of target)
unfolding path_of
path-text target is = go (same_text (take scheme_bytes target) (codes "http://"))
  where
    go : (v : Bool) → IsUtf8 (before_question (if v then from_slash (drop scheme_bytes target) else target))
    go true = before-text (from_slash (drop scheme_bytes target))
        (cut-text target (from_slash (drop scheme_bytes target)) is (behind-cut scheme_bytes target))
    go false = before-text target is
