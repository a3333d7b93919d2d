-- Lists: what is left out of one, and what stands in what is made of one.
use Rattle.std.proofs.Common.{◌≡◌, ℕ, zero, suc, ◌+◌, ◌≤◌, Bool, true, false, if◌then◌else◌, List, [], ◌∷◌, length, filter, slice_get, Contains, Option, Some, None, refl, sym, ap, ◌∙◌, arith, true≢false}
use Rattle.std.specs.List.{cons_option, filter_map}
use Rattle.std.proofs.lemmas.Option.{none-some}

pub contains-tail : {X : Type 0} (y : X) (xs : List X) (x : X) → Contains xs x → Contains (y ∷ xs) x
contains-tail y xs x h = (suc h.0, omega (arith, h.1), h.2)

pub contains-head : {X : Type 0} (xs : List X) (x y : X) → x ≡ y → Contains (x ∷ xs) y
contains-head xs x y e = (0, omega arith, e)

pub contains-nil : {X : Type 0} (x : X) → Contains [] x → ⊥
contains-nil x h = omega (arith, h.1)

-- a member of a list is the first, or stands in the rest
pub contains-cons : {X : Type 0} (y : X) (xs : List X) (x : X) (P : Type 0) → (y ≡ x → P) → (Contains xs x → P) →
    Contains (y ∷ xs) x → P
contains-cons y xs x P first rest (zero, below, is) = first is
contains-cons y xs x P first rest (suc k, below, is) = rest (k, omega arith, is)

pub nil-cons : {X : Type 0} (x : X) (xs : List X) → x ∷ xs ≡ [] → ⊥
nil-cons x xs h = let b : true ≡ false = cc in true≢false b

-- at most one element
pub length-cons_option-le : {X : Type 0} (o : Option X) → length (cons_option o []) ≤ 1
length-cons_option-le None = omega arith
length-cons_option-le (Some x) = omega arith

-- what is made of the members is no more than they are
length-put : {Y : Type 0} (o : Option Y) (rest : List Y) → length (cons_option o rest) ≤ length rest + 1
length-put None rest = omega arith
length-put (Some y) rest = omega arith

pub length-filter_map-le : {X Y : Type 0} (f : X → Option Y) (xs : List X) → length (filter_map f xs) ≤ length xs
length-filter_map-le f [] = omega arith
length-filter_map-le f (x ∷ xs) = omega (arith, length-put (f x) (filter_map f xs), length-filter_map-le f xs)

-- Of what is made nothing is there exactly where nothing is made of each member.

made-nil : {Y : Type 0} (o : Option Y) (rest : List Y) → cons_option o rest ≡ [] → (o ≡ None) × (rest ≡ [])
made-nil None rest h = (refl, h)
made-nil (Some y) rest h = absurd (nil-cons y rest h)

pub filter_map-nil : {X Y : Type 0} (f : X → Option Y) (xs : List X) → filter_map f xs ≡ [] → (x : X) →
    Contains xs x → f x ≡ None
filter_map-nil f [] h x there = absurd (contains-nil x there)
filter_map-nil f (y ∷ xs) h x there =
    let parts = made-nil (f y) (filter_map f xs) h in
    contains-cons y xs x (f x ≡ None) (λ (same : y ≡ x). ap f (sym same)
    ∙ parts.0) (filter_map-nil f xs parts.1 x) there

pub nil-filter_map : {X Y : Type 0} (f : X → Option Y) (xs : List X) → ((x : X) → Contains xs x → f x ≡ None) →
    filter_map f xs ≡ []
nil-filter_map f [] h = refl
nil-filter_map f (y ∷ xs) h =
    ap (λ (o : Option _). cons_option o (filter_map f xs)) (h y (contains-head xs y y refl))
    ∙ nil-filter_map f xs (λ x there. h x (contains-tail y xs x there))

-- what is made of a member stands among what is made
put-there : {Y : Type 0} (o : Option Y) (rest : List Y) (y : Y) → Contains rest y → Contains (cons_option o rest) y
put-there None rest y h = h
put-there (Some z) rest y h = contains-tail z rest y h

here_put : {X Y : Type 0} (f : X → Option Y) (z : X) (xs : List X) (y : Y) (o : Option Y) → f z ≡ o → o ≡ Some y →
    Contains (cons_option o (filter_map f xs)) y
here_put f z xs y None e h = absurd (none-some y h)
here_put f z xs y (Some w) e h = contains-head (filter_map f xs) w y cc

pub filter_map-there : {X Y : Type 0} (f : X → Option Y) (xs : List X) (x : X) (y : Y) → Contains xs x →
    f x ≡ Some y → Contains (filter_map f xs) y
filter_map-there f [] x y there made = absurd (contains-nil x there)
filter_map-there f (z ∷ xs) x y there made =
    contains-cons z xs x (Contains (filter_map f (z ∷ xs)) y)
    (λ (same : z ≡ x). here_put f z xs y (f z) refl (ap f same ∙ made))
    (λ (later : Contains xs x). put-there (f z) (filter_map f xs) y (filter_map-there f xs x y later made))
    there

-- and so does what is made of what stands at a place
pub filter_map-at : {X Y : Type 0} (f : X → Option Y) (xs : List X) (place : ℕ) (x : X) (y : Y) →
    slice_get xs place ≡ Some x → f x ≡ Some y → Contains (filter_map f xs) y
filter_map-at f [] place x y there made = absurd (none-some x there)
filter_map-at f (z ∷ xs) zero x y there made =
    let same : z ≡ x = cc in here_put f z xs y (f z) refl (ap f same ∙ made)
filter_map-at f (z ∷ xs) (suc k) x y there made =
    put-there (f z) (filter_map f xs) y (filter_map-at f xs k x y there made)

-- Of a filtered list nothing is left exactly where no member passes.

kept-nil : {X : Type 0} (x : X) (rest : List X) (b : Bool) → (if b then x ∷ rest else rest) ≡ [] →
    (b ≡ false) × (rest ≡ [])
kept-nil x rest true h = absurd (nil-cons x rest h)
kept-nil x rest false h = (refl, h)

pub filter-nil : {X : Type 0} (p : X → Bool) (xs : List X) → filter p xs ≡ [] → (x : X) → Contains xs x → p x ≡ false
filter-nil p [] h x there = absurd (contains-nil x there)
filter-nil p (y ∷ xs) h x there =
    let parts = kept-nil y (filter p xs) (p y) h in
    contains-cons y xs x (p x ≡ false) (λ (same : y ≡ x). ap p (sym same) ∙ parts.0) (filter-nil p xs parts.1 x) there

pub nil-filter : {X : Type 0} (p : X → Bool) (xs : List X) → ((x : X) → Contains xs x → p x ≡ false) → filter p xs ≡ []
nil-filter p [] h = refl
nil-filter p (y ∷ xs) h =
    ap (λ (b : Bool). if b then y ∷ filter p xs else filter p xs) (h y (contains-head xs y y refl))
    ∙ nil-filter p xs (λ x there. h x (contains-tail y xs x there))

-- a member that passes is kept, and what is kept is a member that passes
kept-there : {X : Type 0} (y : X) (rest : List X) (b : Bool) (x : X) → Contains rest x →
    Contains (if b then y ∷ rest else rest) x
kept-there y rest true x h = contains-tail y rest x h
kept-there y rest false x h = h

kept-here : {X : Type 0} (y : X) (rest : List X) (b : Bool) (x : X) → b ≡ true → y ≡ x →
    Contains (if b then y ∷ rest else rest) x
kept-here y rest true x passes same = contains-head rest y x same
kept-here y rest false x passes same = absurd (true≢false (sym passes))

pub filter-there : {X : Type 0} (p : X → Bool) (xs : List X) (x : X) → Contains xs x → p x ≡ true →
    Contains (filter p xs) x
filter-there p [] x there passes = absurd (contains-nil x there)
filter-there p (y ∷ xs) x there passes =
    contains-cons y xs x (Contains (filter p (y ∷ xs)) x)
    (λ (same : y ≡ x). kept-here y (filter p xs) (p y) x (ap p same ∙ passes) same)
    (λ (later : Contains xs x). kept-there y (filter p xs) (p y) x (filter-there p xs x later passes)) there

there-kept : {X : Type 0} (p : X → Bool) (y : X) (xs : List X) (b : Bool) (x : X) → p y ≡ b →
    (Contains (filter p xs) x → Contains xs x × (p x ≡ true)) → Contains
    (if b then y ∷ filter p xs else filter p xs) x →
    Contains (y ∷ xs) x × (p x ≡ true)
there-kept p y xs true x e later h =
    contains-cons y (filter p xs) x (Contains (y ∷ xs) x × (p x ≡ true))
    (λ (same : y ≡ x). (contains-head xs y x same, ap p (sym same) ∙ e))
    (λ (rest : Contains (filter p xs) x). let l = later rest in (contains-tail y xs x l.0, l.1)) h
there-kept p y xs false x e later h = let l = later h in (contains-tail y xs x l.0, l.1)

pub there-filter : {X : Type 0} (p : X → Bool) (xs : List X) (x : X) → Contains (filter p xs) x →
    Contains xs x × (p x ≡ true)
there-filter p [] x h = absurd (contains-nil x h)
there-filter p (y ∷ xs) x h = there-kept p y xs (p y) x refl (there-filter p xs x) h
