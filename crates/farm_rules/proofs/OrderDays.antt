-- How many orders stand on a day, when the last one comes or goes.
use Rattle.std.proofs.Common.{◌≡◌, ℕ, ◌+◌, ◌==◌, Bool, true, false, List, [], ◌∷◌, ◌++◌, cond, ap, arith, eq-eqb, ◌⊎◌, inl, inr}
use Rattle.std.proofs.lemmas.Bool.{cases_Bool}
use Rattle.std.proofs.lemmas.List.Sums.{sum_by-append}
use Rattle.std.specs.Int.{from_bool}
use Rattle.farm_rules.specs.Orders.{Ordered, orders_of}

module _ (day : ℕ) (orders : List Ordered) (o : Ordered) where
  -- one more, by whether it is of that day
  orders_of-snoc : (b : Bool) → (o.day == day) ≡ b → orders_of day (orders ++ o ∷ []) ≡ orders_of day orders + cond b 1 0
  orders_of-snoc b is =
      let split = sum_by-append (λ (other : Ordered). cond (other.day == day) 1 0) orders (o ∷ []) in
      let here : cond (o.day == day) 1 0 ≡ cond b 1 0 = ap {B = ℕ} (λ (t : Bool). cond t 1 0) is in
      omega (arith, split, here)

  -- as a number
  pub orders_of-more : orders_of day (orders ++ o ∷ []) ≡ orders_of day orders + from_bool (o.day == day)
  orders_of-more = tell (cases_Bool (o.day == day))
    where
      tell : ((o.day == day) ≡ true) ⊎ ((o.day == day) ≡ false) →
          orders_of day (orders ++ o ∷ []) ≡ orders_of day orders + from_bool (o.day == day)
      tell (inl is) = omega (arith, orders_of-snoc true is, ap from_bool is)
      tell (inr is) = omega (arith, orders_of-snoc false is, ap from_bool is)

  pub orders_of-same : o.day ≡ day → orders_of day (orders ++ o ∷ []) ≡ orders_of day orders + 1
  orders_of-same same = orders_of-snoc true (eq-eqb o.day day same)
