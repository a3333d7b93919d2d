-- The front of a legal list.
use Rattle.std.proofs.Common.{◌≡◌, ◌≢◌, ℕ, zero, suc, ◌+◌, ◌<◌, ◌≤◌, List, [], ◌∷◌, ◌++◌, length, take, drop, slice_get, Some, sym, ap, subst, ◌∙◌, arith, length-append}
use Rattle.std.proofs.lemmas.List.{append-nil, length-take-le, take-append-drop, take-append-le}
use Rattle.std.proofs.lemmas.Option.{none-some}
use Rattle.farm_entry.specs.Legal.{IsLegal}
use Rattle.farm_entry.specs.declared.entry.Entry.{Entry}
use Rattle.farm_laws.proofs.Induct.{IsLegal-first}
use Rattle.farm_core.specs.FarmInside.{IsFarm, farm_view}
use Rattle.farm_core.specs.FarmView.{FarmView}
use Rattle.farm_core.specs.declared.farm.Farm.TheInside.{Inside}

-- a front of some entries of a legal list is legal
pub legal-front : (L : List Entry) (n : ℕ) → IsLegal L → 0 < n → n ≤ length L → IsLegal (take n L)
legal-front L n legal some within =
    let long : length (take n L) ≡ n = length-take-le n L within in
    let filled : take n L ≢ [] = λ h.
    let none : length (take n L) ≡ 0 = ap length h in absurd (omega (arith, long, none)) in
    IsLegal-first (take n L) (drop n L) filled (subst IsLegal (sym (take-append-drop n L)) legal)

-- a front of a front
pub take-of_take : {X : Type 0} (xs : List X) (n k : ℕ) → k ≤ n → n ≤ length xs → take k (take n xs) ≡ take k xs
take-of_take xs n k before within =
    let long : length (take n xs) ≡ n = length-take-le n xs within in
    sym (take-append-le k (take n xs) (drop n xs) (omega arith)) ∙ ap (λ l. take k l) (take-append-drop n xs)

-- more is dropped after some was
pub drop-after : {X : Type 0} (xs : List X) (n m : ℕ) → drop m (drop n xs) ≡ drop (n + m) xs
drop-after xs zero m = let same : m ≡ 0 + m = omega arith in ap (λ k. drop k xs) same
drop-after [] (suc n) zero = let same : suc n ≡ suc n + 0 = omega arith in ap (λ k. drop k []) same
drop-after [] (suc n) (suc m) = let same : suc (n + suc m) ≡ suc n + suc m = omega arith in ap (λ k. drop k []) same
drop-after (x ∷ xs) (suc n) m =
    let same : suc (n + m) ≡ suc n + m = omega arith in
    drop-after xs n m ∙ ap (λ k. drop k (x ∷ xs)) same

-- where nothing is left after a front, it is the whole list
pub all-front : {X : Type 0} (xs front rest : List X) (n : ℕ) → take n xs ≡ front → drop n xs ≡ rest → rest ≡ []
    → xs ≡ front
all-front xs front rest n is left none =
    sym (take-append-drop n xs)
    ∙ ap (λ l. take n xs ++ l) (left ∙ none)
    ∙ append-nil (take n xs)
    ∙ is

-- where nothing is ready, all that is kept is the history
pub all-history : (f : Inside) (v : FarmView) → farm_view f ≡ v → v.ready ≡ [] → f.kept ≡ v.history
all-history f v same none =
    all-front f.kept v.history v.ready f.committed (ap (λ (g : FarmView). g.history) same)
    (ap (λ (g : FarmView). g.ready) same) none

-- the history of a farm is legal
pub legal-history : (f : Inside) (v : FarmView) → IsFarm f → farm_view f ≡ v → IsLegal v.history
legal-history f v is same =
    subst (λ (g : FarmView). IsLegal g.history) same (legal-front f.kept f.committed is.legal is.begun is.within)

-- the first of what is ready
pub first-ready : {X : Type 0} (xs : List X) (x : X) → slice_get xs 0 ≡ Some x → take 1 xs ≡ x ∷ []
first-ready [] x is = absurd (none-some x is)
first-ready (y ∷ xs) x is = let same : y ≡ x = cc in ap (λ z. z ∷ []) same

-- what a farm keeps after its fields changed, by what they hold

-- only its history
pub shortened_farm : (f g : Inside) → IsFarm f → g.committed ≡ f.committed → g.kept ≡ take f.committed f.kept → IsFarm g
shortened_farm f g old same front =
    let n = f.committed in
    let long : length g.kept ≡ n = ap length front ∙ length-take-le n f.kept old.within in
    record {
      legal = subst IsLegal (sym front) (legal-front f.kept n old.legal old.begun old.within);
      begun = let some = old.begun in omega (arith, same);
      within = omega (arith, same, long);
    }

-- an entry appended, that may come next
pub lengthened_farm : (f g : Inside) (e : Entry) → IsFarm f → IsLegal (f.kept ++ e ∷ []) → g.committed ≡ f.committed
    → g.kept ≡ f.kept ++ e ∷ [] → IsFarm g
lengthened_farm f g e old legal same more =
    let L = f.kept in
    let long : length g.kept ≡ length L + 1 = ap length more ∙ length-append L (e ∷ []) in
    record {
      legal = subst IsLegal (sym more) legal;
      begun = let some = old.begun in omega (arith, same);
      within = let low = old.within in omega (arith, same, long);
    }

-- the same
pub stays_farm : (f g : Inside) → IsFarm f → g.committed ≡ f.committed → g.kept ≡ f.kept → IsFarm g
stays_farm f g old same kept = record {
  legal = subst IsLegal (sym kept) old.legal;
  begun = let some = old.begun in omega (arith, same);
  within = let low = old.within in let long : length g.kept ≡ length f.kept = ap length kept in omega (arith, same);
}
