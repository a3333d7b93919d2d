-- What is found in a history is one of its searches, and is few.
use Rattle.std.proofs.Common.{◌≡◌, ℕ, ◌+◌, ◌<◌, ◌≤◌, Bool, List, [], ◌∷◌, ◌++◌, length, map, filter, get_or, take, drop, Option, Some, None, Contains, IfSome, count_by, is_some, refl, sym, ap, subst, ◌∙◌, arith}
use Rattle.std.specs.List.{filter_map}
use Rattle.std.proofs.lemmas.List.{take-append-drop}
use Rattle.std.proofs.lemmas.List.Elements.{Contains-append_left, Contains-push, filter_map-append}
use Rattle.std.proofs.lemmas.List.Sums.{count_by-le-length, length-filter}
use Rattle.farm_entry.specs.History.{opening_in, openings}
use Rattle.farm_entry.specs.Pages.{searches_that}
use Rattle.farm_entry.specs.Standing.{standing}
use Rattle.farm_entry.specs.declared.entry.Entry.{Entry}
use Rattle.farm_entry.specs.declared.opening.Opening.{Opening}
use Rattle.farm_entry.specs.declared.standing.Standing.{Standing}
use Rattle.plain_history.specs.Held.{IsHeld}
use Rattle.plain_history.proofs.Items.{count_by-map, length-filter_map}
use Rattle.plain_history.proofs.Passes.{openings-upto}

-- what is made of items is no longer than they are
pub length-filter_map-le : {X Y : Type 0} (f : X → Option Y) (xs : List X) → length (filter_map f xs) ≤ length xs
length-filter_map-le f xs = omega (arith, length-filter_map f xs, count_by-le-length (λ x. is_some (f x)) xs)

pub length-filter-le : {X : Type 0} (p : X → Bool) (xs : List X) → length (filter p xs) ≤ length xs
length-filter-le p xs = omega (arith, length-filter p xs, count_by-le-length p xs)

-- the same, by what the entry holds
pub held_as : (H : List Entry) (i : ℕ) (e : Entry) (o : Option Opening) → i < length H → e ≡ get_or H i e → opening_in e.what ≡ o →
    IfSome o (Contains (openings H))
held_as H i e None below is holds = tt
held_as H i e (Some o) below is holds =
    let split : take (i + 1) H ++ drop (i + 1) H ≡ H = take-append-drop (i + 1) H in
    let here : openings (take (i + 1) H) ≡ openings (take i H) ++ o ∷ [] = openings-upto H i e (Some o) below is holds in
    let early : Contains (openings (take (i + 1) H)) o =
    subst (λ (os : List Opening). Contains os o) (sym here) (Contains-push (openings (take i H)) o) in
    subst (λ (L : List Entry). Contains (openings L) o) split
    (subst (λ (os : List Opening). Contains os o) (sym (filter_map-append (λ (x : Entry). opening_in x.what) (take (i + 1) H) (drop (i + 1) H)))
    (Contains-append_left (openings (take (i + 1) H)) (openings (drop (i + 1) H)) o early))

-- a search that an entry opened is one of the history's
pub is_held : (H : List Entry) (i : ℕ) (e : Entry) → i < length H → e ≡ get_or H i e → IsHeld H e.what
is_held H i e below is = held_as H i e (opening_in e.what) below is refl

-- and of the history up to that entry and with it
early_as : (H : List Entry) (i : ℕ) (e : Entry) (o : Option Opening) → i < length H → e ≡ get_or H i e → opening_in e.what ≡ o →
    IfSome o (Contains (openings (take (i + 1) H)))
early_as H i e None below is holds = tt
early_as H i e (Some o) below is holds =
    let here : openings (take (i + 1) H) ≡ openings (take i H) ++ o ∷ [] = openings-upto H i e (Some o) below is holds in
    subst (λ (os : List Opening). Contains os o) (sym here) (Contains-push (openings (take i H)) o)

pub is_held_early : (H : List Entry) (i : ℕ) (e : Entry) → i < length H → e ≡ get_or H i e → IsHeld (take (i + 1) H) e.what
is_held_early H i e below is = early_as H i e (opening_in e.what) below is refl

-- how many searches stand so, by where each stands
pub searches_that-counted : (H : List Entry) (found : List Standing) (test : Standing → Bool) → found ≡ map (standing H) (openings H) →
    count_by test found ≡ searches_that test H
searches_that-counted H found test are = ap (count_by test) are ∙ count_by-map test (standing H) (openings H)
