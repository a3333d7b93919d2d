-- Lists of which some member passes a test.
use Rattle.std.proofs.Common.{◌≡◌, ℕ, zero, suc, ◌<◌, Bool, false, ◌||◌, List, [], ◌∷◌, ◌++◌, length, position, get_or, None, refl, sym, ap, ◌∙◌, arith}
use Rattle.std.specs.List.{list_any}
use Rattle.std.proofs.Math.Bool.{or_assoc}
use Rattle.std.proofs.lemmas.Bool.{or_parts}
use Rattle.farm_types.proofs.FirstIndex.{fails-from_none, position-none}

pub any-append : {X : Type 0} (p : X → Bool) (xs ys : List X) → list_any p (xs ++ ys) ≡ (list_any p xs || list_any p ys)
any-append p [] ys = refl
any-append p (x ∷ xs) ys =
    ap (λ (b : Bool). p x || b) (any-append p xs ys) ∙ sym (or_assoc (p x) (list_any p xs) (list_any p ys))

-- where none passes, each fails
any-at : {X : Type 0} (p : X → Bool) (xs : List X) (d : X) → list_any p xs ≡ false → (i : ℕ) → i < length xs
    → p (get_or xs i d) ≡ false
any-at p [] d h i below = absurd (omega arith)
any-at p (x ∷ xs) d h zero below = (or_parts (p x) (list_any p xs) h).0
any-at p (x ∷ xs) d h (suc i) below = any-at p xs d (or_parts (p x) (list_any p xs) h).1 i (omega arith)

pub any-none : {X : Type 0} (p : X → Bool) (xs : List X) → list_any p xs ≡ false → position p xs ≡ None
any-none p [] h = refl
any-none p (x ∷ xs) h = position-none p (x ∷ xs) x (any-at p (x ∷ xs) x h)

-- no member at a place passes, so none does
none-passes : {X : Type 0} (p : X → Bool) (xs : List X) (d : X) → ((k : ℕ) → k < length xs → p (get_or xs k d) ≡ false)
    → list_any p xs ≡ false
none-passes p [] d fails = refl
none-passes p (x ∷ xs) d fails =
    let first : p x ≡ false = fails 0 (omega arith) in
    ap (λ (b : Bool). b || list_any p xs) first ∙ none-passes p xs d (λ k below. fails (suc k) (omega arith))

pub any-from_none : {X : Type 0} (p : X → Bool) (xs : List X) → position p xs ≡ None → list_any p xs ≡ false
any-from_none p [] none = refl
any-from_none p (x ∷ xs) none = none-passes p (x ∷ xs) x (λ k below. fails-from_none p (x ∷ xs) x none k below)
