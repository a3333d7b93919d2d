-- The search with the smallest number among candidates.
use Rattle.std.proofs.Common.{◌≡◌, ◌<◌, ◌≤◌, true, false, nat_le, List, [], ◌∷◌, ◌++◌, Option, Some, None, if◌then◌else◌, All, refl, sym, ap, subst, ◌∙◌, ⊎_elim, arith, le-leb}
use Rattle.std.proofs.lemmas.Bool.{cases_lt, lt-leb}
use Rattle.std.proofs.lemmas.List.Elements.{All-cons, All-contains_itself, All-head, All-nil, All-tail, All-weaker}
use Rattle.std.specs.List.{Contains}
use Rattle.farm_rules.specs.Orders.{earlier, earliest}
use Rattle.farm_rules.specs.declared.orders.Candidate.{Candidate}

-- what holds of a search and of the best of others holds of the earlier of them
earlier-all : (P : Candidate → Type 0) (x : Candidate) (o : Option Candidate) → P x → ((y : Candidate) → o ≡ Some y → P y) → P (earlier x o)
earlier-all P x None here rest = here
earlier-all P x (Some y) here rest =
    elim (nat_le x.search y.search) as (λ b. P (if b then x else y)) [ true ↦ here | false ↦ rest y refl ]

-- what holds of each search holds of the earliest
pub earliest-all : (P : Candidate → Type 0) (xs : List Candidate) (c : Candidate) → All P xs → earliest xs ≡ Some c → P c
earliest-all P [] c all is = absurd (cc)
earliest-all P (x ∷ xs) c all is =
    let same : earlier x (earliest xs) ≡ c = cc in
    subst P same (earlier-all P x (earliest xs) (All-head P x xs all) (λ y best. earliest-all P xs y (All-tail P x xs all) best))

-- the earliest is one of them
pub earliest-contained : (xs : List Candidate) (c : Candidate) → earliest xs ≡ Some c → Contains xs c
earliest-contained xs c is = earliest-all (Contains xs) xs c (All-contains_itself xs) is

-- there is one unless there are none
pub earliest-none : (xs : List Candidate) → earliest xs ≡ None → xs ≡ []
earliest-none [] is = refl
earliest-none (x ∷ xs) is = cc

-- of two searches the one with the smaller number stands, and on a tie the first
pub earlier-first : (x y : Candidate) → x.search ≤ y.search → earlier x (Some y) ≡ x
earlier-first x y h = let test : nat_le x.search y.search ≡ true = le-leb x.search y.search h in rw test refl

pub earlier-second : (x y : Candidate) → y.search < x.search → earlier x (Some y) ≡ y
earlier-second x y h = let test : nat_le x.search y.search ≡ false = lt-leb x.search y.search h in rw test refl

-- no search of a list has a smaller number than its earliest
pub earliest-least : (xs : List Candidate) (c : Candidate) → earliest xs ≡ Some c → All (λ (o : Candidate). c.search ≤ o.search) xs
earliest-least [] c is = All-nil (λ (o : Candidate). c.search ≤ o.search)
earliest-least (x ∷ xs) c is = by (earliest xs) refl (λ y best. earliest-least xs y best)
  where
    P : Candidate → Candidate → Type 0
    P best o = best.search ≤ o.search

    by : (o : Option Candidate) → earliest xs ≡ o → ((y : Candidate) → earliest xs ≡ Some y → All (P y) xs) → All (P c) (x ∷ xs)
    by None none rest =
        let same : x ≡ c = cc in
        let others : All (P c) xs = subst (All (P c)) (sym (earliest-none xs none)) (All-nil (P c)) in
        All-cons (P c) x xs (subst (λ (k : Candidate). c.search ≤ k.search) (sym same) (omega arith)) others
    by (Some y) best rest =
        let found : earlier x (Some y) ≡ c = cc in
        ⊎_elim
        (λ (less : y.search < x.search).
        let same : y ≡ c = sym (earlier-second x y less) ∙ found in
        subst (λ (k : Candidate). All (P k) (x ∷ xs)) same (All-cons (P y) x xs (omega (arith, less)) (rest y best)))
        (λ (most : x.search ≤ y.search).
        let same : x ≡ c = sym (earlier-first x y most) ∙ found in
        subst (λ (k : Candidate). All (P k) (x ∷ xs)) same
        (All-cons (P x) x xs (omega arith) (All-weaker (P y) (P x) (λ o h. omega (arith, most, h)) xs (rest y best))))
        (cases_lt y.search x.search)

-- the first of those with the smallest number is the earliest
pub earliest-first : (before after : List Candidate) (c : Candidate) → All (λ (o : Candidate). c.search < o.search) before →
    All (λ (o : Candidate). c.search ≤ o.search) after → earliest (before ++ c ∷ after) ≡ Some c
earliest-first [] after c none later = ap Some (by (earliest after) refl)
  where
    by : (o : Option Candidate) → earliest after ≡ o → earlier c o ≡ c
    by None is = refl
    by (Some y) is = earlier-first c y (earliest-all (λ (o : Candidate). c.search ≤ o.search) after y later is)
earliest-first (x ∷ before) after c greater later =
    let P : Candidate → Type 0 = λ o. c.search < o.search in
    ap (λ (o : Option Candidate). Some (earlier x o)) (earliest-first before after c (All-tail P x before greater) later)
    ∙ ap Some (earlier-second x c (All-head P x before greater))
