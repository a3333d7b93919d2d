-- The orders that items stand for.
use Rattle.std.proofs.Common.{◌≡◌, ◌≢◌, ◌+◌, ◌<◌, ℕ, zero, suc, true, false, List, [], ◌∷◌, ◌++◌, length, get_or, ap, sym, subst, ◌∙◌, refl, arith, length-append, ⊎_elim}
use Rattle.std.proofs.lemmas.Bool.{cases_eq, or_parts}
use Rattle.std.specs.List.{AllPairs}
use Rattle.farm_rules.specs.Orders.{Ordered, has_order}
use Rattle.farm_types.proofs.SameValues.{same_id-Decides}
use Rattle.farm_types.specs.CommitId.{same_id}
use Rattle.farm_types.specs.declared.commit_id.CommitId.{CommitId}
use Rattle.farm_rules.specs.Book.{IsOnePerCommit, commits_of, ordered}
use Rattle.farm_rules.specs.OrderChains.{orders_in}
use Rattle.farm_rules.specs.declared.order_chains.Item.{Item}

pub length-orders_in : (items : List Item) → length (orders_in items) ≡ length items
length-orders_in [] = refl
length-orders_in (x ∷ items) = omega (arith, length-orders_in items)

-- orders for commits that differ

module _ {X : Type 0} where
  front : (xs : List X) (x d : X) (i : ℕ) → i < length xs → get_or (xs ++ x ∷ []) i d ≡ get_or xs i d
  front [] x d i low = absurd (omega (arith, low))
  front (y ∷ xs) x d zero low = refl
  front (y ∷ xs) x d (suc i) low = front xs x d i (omega (arith, low))

  end : (xs : List X) (x d : X) → get_or (xs ++ x ∷ []) (length xs) d ≡ x
  end [] x d = refl
  end (y ∷ xs) x d = end xs x d

  -- values that all differ from each other, and from one more
  AllPairs-push : (xs : List X) (x : X) → AllPairs (λ a b. a ≢ b) xs → ((k : ℕ) (d : X) → k < length xs → get_or xs k d ≢ x) →
      AllPairs (λ a b. a ≢ b) (xs ++ x ∷ [])
  AllPairs-push xs x apart other = λ i j d before within.
      let long : length (xs ++ x ∷ []) ≡ length xs + 1 = length-append xs (x ∷ []) in
      ⊎_elim
      (λ (e : j ≡ length xs).
      let low : i < length xs = omega (arith, before, e) in
      λ same. other i d low
      (sym (front xs x d i low) ∙ (same ∙ (ap (λ (k : ℕ). get_or (xs ++ x ∷ []) k d) e ∙ end xs x d))))
      (λ (ne : j ≢ length xs).
      let low : j < length xs = omega (arith, within, long, ne) in
      λ same. apart i j d before low
      (sym (front xs x d i (omega (arith, before, low))) ∙ (same ∙ front xs x d j low)))
      (cases_eq j (length xs))

  AllPairs-front : (xs : List X) (x : X) → AllPairs (λ a b. a ≢ b) (xs ++ x ∷ []) → AllPairs (λ a b. a ≢ b) xs
  AllPairs-front xs x apart = λ i j d before within.
      let long : length (xs ++ x ∷ []) ≡ length xs + 1 = length-append xs (x ∷ []) in
      λ same. apart i j d before (omega (arith, within, long))
      (front xs x d i (omega (arith, before, within)) ∙ (same ∙ sym (front xs x d j within)))

commits_of-snoc : (orders : List Ordered) (o : Ordered) → commits_of (orders ++ o ∷ []) ≡ commits_of orders ++ o.commit ∷ []
commits_of-snoc [] o = refl
commits_of-snoc (p ∷ orders) o = ap (λ (rest : List CommitId). p.commit ∷ rest) (commits_of-snoc orders o)

-- a commit without an order is none of the commits that have one
has_order-differs : (orders : List Ordered) (commit : CommitId) → has_order orders commit ≡ false → (k : ℕ) (d : CommitId) →
    k < length (commits_of orders) → get_or (commits_of orders) k d ≢ commit
has_order-differs [] commit lacks k d low = absurd (omega (arith, low))
has_order-differs (o ∷ orders) commit lacks zero d low = λ same.
    let told : same_id o.commit commit ≡ true = (same_id-Decides o.commit commit).1 same in
    let not : same_id o.commit commit ≡ false = (or_parts _ _ lacks).0 in
    absurd (cc)
has_order-differs (o ∷ orders) commit lacks (suc k) d low =
    has_order-differs orders commit (or_parts (same_id o.commit commit) _ lacks).1 k d (omega (arith, low))

-- an order for a commit without one leaves one for each, and so does taking the last one back
pub IsOnePerCommit-push : (orders : List Ordered) (commit : CommitId) (day : ℕ) → IsOnePerCommit orders →
    has_order orders commit ≡ false → IsOnePerCommit (orders ++ ordered commit day ∷ [])
IsOnePerCommit-push orders commit day apart lacks =
    subst (AllPairs (λ (a b : CommitId). a ≢ b)) (sym (commits_of-snoc orders (ordered commit day)))
    (AllPairs-push (commits_of orders) commit apart (has_order-differs orders commit lacks))

pub IsOnePerCommit-front : (orders : List Ordered) (o : Ordered) → IsOnePerCommit (orders ++ o ∷ []) → IsOnePerCommit orders
IsOnePerCommit-front orders o apart =
    AllPairs-front (commits_of orders) o.commit
    (subst (AllPairs (λ (a b : CommitId). a ≢ b)) (commits_of-snoc orders o) apart)
