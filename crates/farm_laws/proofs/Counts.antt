-- How many elements of a filtered list pass a test.
use Rattle.std.proofs.Common.{◌≡◌, ℕ, ◌+◌, ◌≤◌, Bool, true, false, List, [], ◌∷◌, ◌++◌, length, map, filter, count_by, cond, All, refl, sym, ap, ◌∙◌, ◌⊎◌, inl, inr, arith, true≢false}
use Rattle.std.proofs.lemmas.List.Elements.{All-head, All-tail}
use Rattle.std.proofs.lemmas.List.Sums.{sum_by-append, sum_by-cons}

pub count_by-cons : {X : Type 0} (t : X → Bool) (x : X) (xs : List X) → count_by t (x ∷ xs) ≡ cond (t x) 1 0 + count_by t xs
count_by-cons t x xs = sum_by-cons (λ y. cond (t y) 1 0) x xs

pub count_by-append : {X : Type 0} (t : X → Bool) (xs ys : List X) → count_by t (xs ++ ys) ≡ count_by t xs + count_by t ys
count_by-append t xs ys = sum_by-append (λ y. cond (t y) 1 0) xs ys

-- a test that passes where another does counts no less
mark-le : (a b : Bool) → (a ≡ true → b ≡ true) → cond a 1 0 ≤ cond b 1 0
mark-le true true more = omega arith
mark-le true false more = absurd (true≢false (sym (more refl)))
mark-le false b more = omega arith

pub count_by-le : {X : Type 0} (s t : X → Bool) (xs : List X) → ((x : X) → s x ≡ true → t x ≡ true) →
    count_by s xs ≤ count_by t xs
count_by-le s t [] more = omega arith
count_by-le s t (x ∷ xs) more =
    omega (arith, count_by-cons s x xs, count_by-cons t x xs, count_by-le s t xs more, mark-le (s x) (t x) (more x))

-- all elements pass the test that always passes
pub count_by-all : {X : Type 0} (xs : List X) → count_by (λ (x : X). true) xs ≡ length xs
count_by-all [] = refl
count_by-all {X} (x ∷ xs) = omega (arith, count_by-cons (λ (y : X). true) x xs, count_by-all xs)

-- a count of what is made of the elements
pub count_by-map : {X Y : Type 0} (t : Y → Bool) (f : X → Y) (xs : List X) → count_by t (map f xs) ≡ count_by (λ (x : X). t (f x)) xs
count_by-map t f [] = refl
count_by-map {X} t f (x ∷ xs) =
    omega (arith, count_by-cons t (f x) (map f xs), count_by-cons (λ (y : X). t (f y)) x xs, count_by-map t f xs)

-- a filter that no element passes keeps none
pub filter-none : {X : Type 0} (p : X → Bool) (xs : List X) → All (λ x. p x ≡ false) xs → filter p xs ≡ []
filter-none p [] none = refl
filter-none {X} p (x ∷ xs) none =
    let P : X → Type 0 = λ y. p y ≡ false in
    ap (λ b. cond b (x ∷ filter p xs) (filter p xs)) (All-head P x xs none) ∙ filter-none p xs (All-tail P x xs none)

fewer_if : {X : Type 0} (t : X → Bool) (x : X) (ps qs : List X) (b c : Bool) → (b ≡ true → c ≡ true) → count_by t ps ≤ count_by t qs →
    count_by t (cond b (x ∷ ps) ps) ≤ count_by t (cond c (x ∷ qs) qs)
fewer_if t x ps qs true true more few = omega (arith, few, count_by-cons t x ps, count_by-cons t x qs)
fewer_if t x ps qs true false more few = absurd (true≢false (sym (more refl)))
fewer_if t x ps qs false true more few = omega (arith, few, count_by-cons t x qs)
fewer_if t x ps qs false false more few = few

-- a filter that less passes keeps fewer
pub filter-fewer : {X : Type 0} (t p q : X → Bool) (xs : List X) → ((x : X) → p x ≡ true → q x ≡ true) →
    count_by t (filter p xs) ≤ count_by t (filter q xs)
filter-fewer t p q [] more = omega arith
filter-fewer t p q (x ∷ xs) more = fewer_if t x (filter p xs) (filter q xs) (p x) (q x) (more x) (filter-fewer t p q xs more)

-- One element passes two filters and a test, or none is counted.

-- an element that passes both filters and the test
pub record IsCounted {X : Type 0} (t p q : X → Bool) (x : X) : Type 0 where
  pub first : q x ≡ true
  pub second : p x ≡ true
  pub test : t x ≡ true

counted_one : {X : Type 0} (t p q : X → Bool) (x : X) (c : Bool) → q x ≡ true → p x ≡ true → t x ≡ c →
    (count_by t (x ∷ []) ≡ 0) ⊎ (IsCounted t p q x × (count_by t (x ∷ []) ≡ 1))
counted_one t p q x true first second test =
    let mark : Bool → ℕ = λ b. cond b 1 0 in
    let one : mark (t x) ≡ 1 = ap mark test in
    inr (record { first = first; second = second; test = test }, omega (arith, one, count_by-cons t x []))
counted_one t p q x false first second test =
    let mark : Bool → ℕ = λ b. cond b 1 0 in
    let none : mark (t x) ≡ 0 = ap mark test in
    inl (omega (arith, none, count_by-cons t x []))

counted_second : {X : Type 0} (t p q : X → Bool) (x : X) (b : Bool) → q x ≡ true → p x ≡ b →
    (count_by t (cond b (x ∷ []) []) ≡ 0) ⊎ (IsCounted t p q x × (count_by t (cond b (x ∷ []) []) ≡ 1))
counted_second t p q x true first second = counted_one t p q x (t x) first second refl
counted_second t p q x false first second = inl refl

counted_first : {X : Type 0} (t p q : X → Bool) (x : X) (a : Bool) → q x ≡ a →
    (count_by t (filter p (cond a (x ∷ []) [])) ≡ 0)
    ⊎ (IsCounted t p q x × (count_by t (filter p (cond a (x ∷ []) [])) ≡ 1))
counted_first t p q x true first = counted_second t p q x (p x) first refl
counted_first t p q x false first = inl refl

pub counted_cases : {X : Type 0} (t p q : X → Bool) (x : X) →
    (count_by t (filter p (filter q (x ∷ []))) ≡ 0)
    ⊎ (IsCounted t p q x × (count_by t (filter p (filter q (x ∷ []))) ≡ 1))
counted_cases t p q x = counted_first t p q x (q x) refl
