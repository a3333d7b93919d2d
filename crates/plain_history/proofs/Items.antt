-- Lists, an item at a time.
use Rattle.std.proofs.Common.{◌≡◌, ℕ, ◌+◌, ◌<◌, ◌||◌, Bool, true, false, List, [], ◌∷◌, ◌++◌, length, map, filter, count_by, cond, get_or, take, drop, Option, Some, None, is_some, refl, sym, ap, ◌∙◌, arith}
use Rattle.std.specs.List.{cons_option, filter_map, list_any}
use Rattle.plain_history.specs.Tests.{is_some_and}
use Rattle.std.proofs.lemmas.List.{drop_more, take_more}
use Rattle.std.proofs.lemmas.List.Recursion.{is_count_by}
use Rattle.std.proofs.lemmas.List.Sums.{length-filter}

-- the rest of a list from a place on, where the item there is known
pub drop-at : {X : Type 0} (xs : List X) (i : ℕ) (x : X) → i < length xs → x ≡ get_or xs i x → drop i xs ≡ x ∷ drop (i + 1) xs
drop-at xs i x below is = drop_more xs i x below ∙ ap (λ y. y ∷ drop (i + 1) xs) (sym is)

-- the beginning of a list up to a place and with it
pub take-at : {X : Type 0} (xs : List X) (i : ℕ) (x : X) → i < length xs → x ≡ get_or xs i x → take (i + 1) xs ≡ take i xs ++ x ∷ []
take-at xs i x below is = take_more xs i x below ∙ ap (λ y. take i xs ++ y ∷ []) (sym is)

length-cons_option : {Y : Type 0} (o : Option Y) (ys : List Y) → length (cons_option o ys) ≡ cond (is_some o) (1 + length ys) (length ys)
length-cons_option None ys = refl
length-cons_option (Some y) ys = omega arith

-- how many items something is made of
pub length-filter_map : {X Y : Type 0} (f : X → Option Y) (xs : List X) → length (filter_map f xs) ≡ count_by (λ x. is_some (f x)) xs
length-filter_map f xs =
    is_count_by (λ ys. length (filter_map f ys)) (λ x. is_some (f x)) refl (λ x ys. length-cons_option (f x) (filter_map f ys)) xs

-- a test of what items are made into

pub list_any-map : {X Y : Type 0} (p : Y → Bool) (f : X → Y) (xs : List X) → list_any p (map f xs) ≡ list_any (λ x. p (f x)) xs
list_any-map p f [] = refl
list_any-map p f (x ∷ xs) = ap (λ b. p (f x) || b) (list_any-map p f xs)

-- how many of what is made of items pass a test

length-kept : {Y : Type 0} (b : Bool) (y : Y) (ys : List Y) → length (cond b (y ∷ ys) ys) ≡ cond b (1 + length ys) (length ys)
length-kept true y ys = omega arith
length-kept false y ys = refl

length-filter-cons_option : {Y : Type 0} (p : Y → Bool) (o : Option Y) (ys : List Y) →
    length (filter p (cons_option o ys)) ≡ cond (is_some_and p o) (1 + length (filter p ys)) (length (filter p ys))
length-filter-cons_option p None ys = refl
length-filter-cons_option p (Some y) ys = length-kept (p y) y (filter p ys)

pub count_by-filter_map : {X Y : Type 0} (p : Y → Bool) (f : X → Option Y) (xs : List X) →
    count_by p (filter_map f xs) ≡ count_by (λ x. is_some_and p (f x)) xs
count_by-filter_map p f xs =
    sym (length-filter p (filter_map f xs))
    ∙ is_count_by (λ zs. length (filter p (filter_map f zs))) (λ x. is_some_and p (f x)) refl
    (λ x zs. length-filter-cons_option p (f x) (filter_map f zs)) xs

pub count_by-map : {X Y : Type 0} (p : Y → Bool) (f : X → Y) (xs : List X) → count_by p (map f xs) ≡ count_by (λ x. p (f x)) xs
count_by-map p f xs =
    sym (length-filter p (map f xs))
    ∙ is_count_by (λ zs. length (filter p (map f zs))) (λ x. p (f x)) refl
    (λ x zs. length-kept (p (f x)) (f x) (filter p (map f zs))) xs
