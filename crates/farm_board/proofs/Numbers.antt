-- Lemmas on rows of numbers.
use Rattle.std.proofs.Common.{◌≡◌, ◌⊎◌, ◌++◌, ◌∷◌, [], List, ℕ, zero, suc, ◌+◌, ◌<◌, ◌≤◌, length, take, drop, set, get_or, arith, refl, ap, sym, inl, inr, ⊎_elim, ◌∙◌, add-one}

-- all of a list that is no longer
pub take-all : (n : ℕ) (xs : List ℕ) → length xs ≤ n → take n xs ≡ xs
take-all zero [] h = refl
take-all zero (x ∷ xs) h = absurd (omega arith)
take-all (suc n) [] h = refl
take-all (suc n) (x ∷ xs) h = ap (λ (l : List ℕ). x ∷ l) (take-all n xs (omega arith))

-- a number of a longer list is an old one, or the last
pub old_or_last : (xs : List ℕ) (x k : ℕ) → k < length (xs ++ x ∷ [])
    → ((k < length xs) × (get_or (xs ++ x ∷ []) k 0 ≡ get_or xs k 0)) ⊎
    ((k ≡ length xs) × (get_or (xs ++ x ∷ []) k 0 ≡ x))
old_or_last [] x zero h = inr (refl, refl)
old_or_last [] x (suc k) h = absurd (omega arith)
old_or_last (y ∷ ys) x zero h = inl (omega arith, refl)
old_or_last (y ∷ ys) x (suc k) h =
    ⊎_elim
    (λ t. let l = t.0 in inl (omega arith, t.1))
    (λ t. let l = t.0 in inr (omega arith, t.1))
    (old_or_last ys x k (omega arith))

-- the first numbers of one list, and the rest of another
abbrev pub mixed : ℕ → List ℕ → List ℕ → List ℕ
mixed k xs ys = take k xs ++ drop k ys

pub length-mixed : (k : ℕ) (xs ys : List ℕ) → length xs ≡ length ys → length (mixed k xs ys) ≡ length xs
length-mixed zero xs ys h = sym h
length-mixed (suc k) [] [] h = refl
length-mixed (suc k) [] (y ∷ ys) h = absurd (omega arith)
length-mixed (suc k) (x ∷ xs) [] h = absurd (omega arith)
length-mixed (suc k) (x ∷ xs) (y ∷ ys) h = ap suc (length-mixed k xs ys (omega arith))

-- what stands there next is of the other list
pub mixed-at : (k : ℕ) (xs ys : List ℕ) → length xs ≡ length ys → k < length xs
    → get_or (mixed k xs ys) k 0 ≡ get_or ys k 0
mixed-at zero xs ys h l = refl
mixed-at (suc k) [] ys h l = absurd (omega arith)
mixed-at (suc k) (x ∷ xs) [] h l = absurd (omega arith)
mixed-at (suc k) (x ∷ xs) (y ∷ ys) h l = mixed-at k xs ys (omega arith) (omega arith)

-- one number more of the first list
mixed-next : (k : ℕ) (xs ys : List ℕ) → length xs ≡ length ys → k < length xs
    → set (mixed k xs ys) k (get_or xs k 0) ≡ mixed (suc k) xs ys
mixed-next k [] ys h l = absurd (omega arith)
mixed-next k (x ∷ xs) [] h l = absurd (omega arith)
mixed-next zero (x ∷ xs) (y ∷ ys) h l = refl
mixed-next (suc k) (x ∷ xs) (y ∷ ys) h l =
    ap (λ (l : List ℕ). x ∷ l) (mixed-next k xs ys (omega arith) (omega arith))

pub mixed-set : (k : ℕ) (xs ys : List ℕ) → length xs ≡ length ys → k < length xs
    → set (mixed k xs ys) k (get_or xs k 0) ≡ mixed (k + 1) xs ys
mixed-set k xs ys h l = mixed-next k xs ys h l ∙ ap (λ (n : ℕ). mixed n xs ys) (sym (add-one k))

-- all of the first list
pub mixed-all : (k : ℕ) (xs ys : List ℕ) → length xs ≡ length ys → length xs ≤ k → mixed k xs ys ≡ xs
mixed-all zero [] [] h l = refl
mixed-all zero [] (y ∷ ys) h l = absurd (omega arith)
mixed-all zero (x ∷ xs) ys h l = absurd (omega arith)
mixed-all (suc k) [] [] h l = refl
mixed-all (suc k) [] (y ∷ ys) h l = absurd (omega arith)
mixed-all (suc k) (x ∷ xs) [] h l = absurd (omega arith)
mixed-all (suc k) (x ∷ xs) (y ∷ ys) h l =
    ap (λ (l : List ℕ). x ∷ l) (mixed-all k xs ys (omega arith) (omega arith))
