-- The search line, piece by piece.
use Rattle.std.proofs.Common.{◌≡◌, ℕ, List, [], ◌∷◌, ◌++◌, map, sym, ap, ◌∙◌, append_assoc, append-nil}
use Rattle.std.specs.Fmt.{decimal}
use Rattle.std.specs.Prelude.{codes}
use Rattle.judge.specs.Text.{text_of}
use Rattle.search_evidence.specs.Evidence.{SPACE, line_of, spaced}

-- a word and numbers on a line
pub line_of-spaced : (first : List ℕ) (numbers : List ℕ) → line_of (first ∷ map decimal numbers)
    ≡ first ++ spaced numbers
line_of-spaced first [] = sym (append-nil first)
line_of-spaced first (n ∷ numbers) = ap (λ (text : List ℕ). first ++ SPACE ∷ text) (line_of-spaced (decimal n) numbers)

regrouped : (old a b t u calm rest : List ℕ)
    → ((old ++ (codes "search " ++ (a ++ SPACE ∷ (b ++ SPACE ∷ (t ++ SPACE ∷ (u ++ SPACE ∷ calm)))))) ++ rest)
    ++ 10 ∷ []
    ≡ old ++ ((codes "search" ++ SPACE ∷ (a ++ SPACE ∷ (b ++ SPACE ∷ (t ++ SPACE ∷ (u ++ SPACE ∷ (calm ++ rest))))))
    ++ 10 ∷ [])
regrouped old a b t u calm rest = simp append_assoc

-- what is written piece by piece is the search line
pub search-spelled : (old head body text weights : List ℕ) (a b t u calm a' b' t' u' calm' : ℕ)
    → a ≡ a' → b ≡ b' → t ≡ t' → u ≡ u' → calm ≡ calm'
    → head ≡ old ++ (codes "search " ++ (decimal a ++ SPACE ∷ (decimal b ++ SPACE ∷ (decimal t
    ++ SPACE ∷ (decimal u ++ SPACE ∷ decimal calm)))))
    → body ≡ head ++ spaced weights → text ≡ body ++ 10 ∷ []
    → text ≡ old ++ text_of (line_of (codes "search" ∷ map decimal (a' ∷ b' ∷ t' ∷ u' ∷ calm' ∷ weights)) ∷ [])
search-spelled old head body text weights a b t u calm a' b' t' u' calm' a-is b-is t-is u-is calm-is first more end =
    end
    ∙ ap (λ (x : List ℕ). x ++ 10 ∷ []) (more ∙ ap (λ (x : List ℕ). x ++ spaced weights) first)
    ∙ regrouped old (decimal a) (decimal b) (decimal t) (decimal u) (decimal calm) (spaced weights)
    ∙ sym (ap (λ (line : List ℕ). old ++ (line ++ 10 ∷ [])) (line_of-spaced (codes "search")
    (a ∷ b ∷ t ∷ u ∷ calm ∷ weights)))
    ∙ (λ i. old
    ++ (line_of (codes "search" ∷ map decimal (a-is i ∷ b-is i ∷ t-is i ∷ u-is i ∷ calm-is i ∷ weights)) ++ 10 ∷ []))
