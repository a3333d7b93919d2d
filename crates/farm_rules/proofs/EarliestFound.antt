-- The earliest of the candidates, found from the first to the last.
use Rattle.std.proofs.Common.{◌≡◌, Bool, true, false, nat_le, List, [], ◌∷◌, Option, Some, None, if◌then◌else◌, ⊎_elim, ◌<◌, ◌≤◌, ap, sym, subst, ◌∙◌, refl, arith}
use Rattle.std.proofs.lemmas.Bool.{cases_Bool, cases_lt}
use Rattle.std.proofs.lemmas.Bool.Decides.{nat_tests}
use Rattle.farm_rules.specs.Orders.{Ordered, candidates, earlier, earliest, has_order}
use Rattle.farm_rules.specs.declared.orders.Candidate.{Candidate}
use Rattle.farm_rules.specs.Earlier.{earlier_of}

-- the choice among three goes by the search numbers alone
chosen : (a b c : Candidate) → earlier a (Some (earlier b (Some c))) ≡ earlier (earlier a (Some b)) (Some c)
chosen a b c =
    ⊎_elim
    (λ (ba : b.search < a.search). ⊎_elim
    (λ (cb : c.search < b.search). grind (arith, nat_tests))
    (λ (bc : b.search ≤ c.search). grind (arith, nat_tests)) (cases_lt c.search b.search))
    (λ (ab : a.search ≤ b.search). ⊎_elim
    (λ (cb : c.search < b.search). grind (arith, nat_tests))
    (λ (bc : b.search ≤ c.search). grind (arith, nat_tests)) (cases_lt c.search b.search))
    (cases_lt b.search a.search)

-- a candidate joins the best so far, or the best of the rest
pub earlier_of-assoc : (best : Option Candidate) (c : Candidate) (rest : Option Candidate)
    → earlier_of best (Some (earlier c rest)) ≡ earlier_of (earlier_of best (Some c)) rest
earlier_of-assoc None c rest = refl
earlier_of-assoc (Some best) c None = refl
earlier_of-assoc (Some best) c (Some other) = ap Some (chosen best c other)

module _ (orders : List Ordered) (c : Candidate) (rest : List Candidate) where
  -- a search whose commit has an order is passed over
  pub earliest-passed : has_order orders c.commit ≡ true → earliest (candidates (c ∷ rest) orders) ≡ earliest (candidates rest orders)
  earliest-passed has = rw has refl

  -- and one whose commit has none counts
  pub earliest-counted : has_order orders c.commit ≡ false
      → earliest (candidates (c ∷ rest) orders) ≡ Some (earlier c (earliest (candidates rest orders)))
  earliest-counted lacks = rw lacks refl

  -- so the best so far stays the best
  pub joined-passed : (best : Option Candidate) → has_order orders c.commit ≡ true
      → earlier_of best (earliest (candidates (c ∷ rest) orders)) ≡ earlier_of best (earliest (candidates rest orders))
  joined-passed best has = ap (earlier_of best) (earliest-passed has)

  -- or it joins the best so far
  pub joined-counted : (best : Option Candidate) → has_order orders c.commit ≡ false
      → earlier_of best (earliest (candidates (c ∷ rest) orders)) ≡ earlier_of (earlier_of best (Some c)) (earliest (candidates rest orders))
  joined-counted best lacks = ap (earlier_of best) (earliest-counted lacks) ∙ earlier_of-assoc best c (earliest (candidates rest orders))

-- the earlier of a search and the best of others lacks an order where they do
free_of : (orders : List Ordered) (x : Candidate) (others : Option Candidate) (c : Candidate) → has_order orders x.commit ≡ false
    → ((o : Candidate) → others ≡ Some o → has_order orders o.commit ≡ false) → earlier x others ≡ c → has_order orders c.commit ≡ false
free_of orders x None c lacks rest e = subst (λ (k : Candidate). has_order orders k.commit ≡ false) e lacks
free_of orders x (Some o) c lacks rest e = by (nat_le x.search o.search) e
  where
    by : (b : Bool) → (if b then x else o) ≡ c → has_order orders c.commit ≡ false
    by true same = subst (λ (k : Candidate). has_order orders k.commit ≡ false) same lacks
    by false same = subst (λ (k : Candidate). has_order orders k.commit ≡ false) same (rest o refl)

-- the commit of the earliest candidate has no order
pub earliest-free : (searches : List Candidate) (orders : List Ordered) (c : Candidate)
    → earliest (candidates searches orders) ≡ Some c → has_order orders c.commit ≡ false
earliest-free [] orders c e = cc e
earliest-free (x ∷ rest) orders c e =
    ⊎_elim
    (λ (has : has_order orders x.commit ≡ true). earliest-free rest orders c (sym (earliest-passed orders x rest has) ∙ e))
    (λ (lacks : has_order orders x.commit ≡ false).
    let is : Some (earlier x (earliest (candidates rest orders))) ≡ Some c = sym (earliest-counted orders x rest lacks) ∙ e in
    free_of orders x (earliest (candidates rest orders)) c lacks (λ o best. earliest-free rest orders o best) (cc is))
    (cases_Bool (has_order orders x.commit))
