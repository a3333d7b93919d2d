-- Lists after at most one element more, and lists of the parts that elements have.
use Rattle.std.proofs.Common.{◌≡◌, List, [], ◌∷◌, ◌++◌, Option, Some, None, All, AllPairs, refl, sym, subst, append-nil, arith}
use Rattle.std.specs.List.{cons_option, filter_map}
use Rattle.std.proofs.lemmas.List.Elements.{All-cons, All-head, All-nil, All-tail}
use Rattle.std.proofs.lemmas.List.Quantifiers.{all_pairs_push}

-- no two elements
pub AllPairs-nil : {X : Type 0} (R : X → X → Type 0) → AllPairs R []
AllPairs-nil R = λ i j d before below. absurd (omega arith)

-- each two elements, and one more that stands so to each of them
pub AllPairs-more : {X : Type 0} (R : X → X → Type 0) (xs : List X) (o : Option X) →
    AllPairs R xs → ((y : X) → o ≡ Some y → All (λ x. R x y) xs) → AllPairs R (xs ++ cons_option o [])
AllPairs-more {X} R xs None pairs more = subst (λ (ys : List X). AllPairs R ys) (sym (append-nil xs)) pairs
AllPairs-more R xs (Some y) pairs more = all_pairs_push R xs y pairs (more y refl)

-- what holds of a part that is there, and of others
All-option : {Y : Type 0} (P : Y → Type 0) (o : Option Y) (ys : List Y) → ((y : Y) → o ≡ Some y → P y) → All P ys → All P (cons_option o ys)
All-option P None ys here rest = rest
All-option P (Some y) ys here rest = All-cons P y ys (here y refl) rest

-- what holds of each part that an element has
pub All-parts : {X Y : Type 0} (part : X → Option Y) (P : Y → Type 0) (xs : List X) →
    All (λ x. (y : Y) → part x ≡ Some y → P y) xs → All P (filter_map part xs)
All-parts part P [] each = All-nil P
All-parts {X} {Y} part P (x ∷ xs) each =
    let Fits : X → Type 0 = λ x. (y : Y) → part x ≡ Some y → P y in
    All-option P (part x) (filter_map part xs) (All-head Fits x xs each) (All-parts part P xs (All-tail Fits x xs each))
