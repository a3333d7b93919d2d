-- The walk down a chain, to the order for a commit.
use Rattle.std.proofs.Common.{◌≡◌, ◌≢◌, ◌<◌, ◌≤◌, ◌+◌, ℕ, zero, suc, List, [], ◌∷◌, length, get_or, Bool, true, false, ◌||◌, ap, subst, sym, ◌∙◌, ⊎_elim, arith, refl}
use Rattle.std.proofs.lemmas.Bool.{cases_eq}
use Rattle.farm_rules.specs.Orders.{has_order}
use Rattle.farm_types.specs.CommitId.{same_id}
use Rattle.farm_types.specs.declared.commit_id.CommitId.{CommitId}
use Rattle.farm_types.proofs.SameValues.{same_id-Decides}
use Rattle.farm_rules.specs.OrderChains.{blank, home_of, homes, top, IsLinked, orders_in}
use Rattle.farm_rules.specs.declared.order_chains.Item.{Item}
use Rattle.farm_rules.proofs.ChainTops.{top-le, top-above, top-hit}

-- no item for the commit lies at `at` or above it
pub record IsSought (commit : CommitId) (heads : List ℕ) (items : List Item) (at : ℕ) : Type 0 where
  pub within : at ≤ length items
  pub passed : (k : ℕ) → k < length items → same_id (get_or items k blank).commit commit ≡ true → k < at
  pub here : (m : ℕ) → at ≡ m + 1 → homes (length heads) items m ≡ home_of (length heads) commit

module _ (commit : CommitId) (heads : List ℕ) (items : List Item) (linked : IsLinked heads items) where
  -- an item for the commit is in its bucket
  at_home : (k : ℕ) → same_id (get_or items k blank).commit commit ≡ true → homes (length heads) items k ≡ home_of (length heads) commit
  at_home k same = ap (home_of (length heads)) ((same_id-Decides (get_or items k blank).commit commit).0 same)

  pub sought-start : home_of (length heads) commit < length heads → (at : ℕ) → at ≡ get_or heads (home_of (length heads) commit) 0
      → IsSought commit heads items at
  sought-start low at is =
      let h = homes (length heads) items in
      let b = home_of (length heads) commit in
      let first : at ≡ top h b (length items) = is ∙ linked.head b low in
      record {
        within = omega (arith, first, top-le h b (length items));
        passed = λ k below same. omega (arith, first, top-above h b k (length items) below (at_home k same));
        here = λ m hit. (top-hit h b (length items) m (sym first ∙ hit)).1;
      }

  below_is : (at m : ℕ) → IsSought commit heads items at → at ≡ m + 1 →
      (get_or items m blank).below ≡ top (homes (length heads) items) (home_of (length heads) commit) m
  below_is at m s is =
      linked.below m (omega (arith, is, s.within)) ∙ ap (λ (c : ℕ). top (homes (length heads) items) c m) (s.here m is)

  pub sought-next : (at m : ℕ) → IsSought commit heads items at → at ≡ m + 1
      → same_id (get_or items m blank).commit commit ≡ false → IsSought commit heads items (get_or items m blank).below
  sought-next at m s is other =
      let h = homes (length heads) items in
      let b = home_of (length heads) commit in
      let next = below_is at m s is in
      record {
        within = omega (arith, next, is, s.within, top-le h b m);
        passed = λ k below same.
            let up : k < at = s.passed k below same in
            ⊎_elim
            (λ (e : k ≡ m).
            let here : same_id (get_or items m blank).commit commit ≡ true = subst (λ (i : ℕ). same_id (get_or items i blank).commit commit ≡ true) e same in
            absurd (cc))
            (λ (ne : k ≢ m). omega (arith, next, top-above h b k m (omega (arith, up, is, ne)) (at_home k same)))
            (cases_eq k m);
        here = λ j hit. (top-hit h b m j (sym next ∙ hit)).1;
      }

  pub sought-smaller : (at m : ℕ) → IsSought commit heads items at → at ≡ m + 1 → (get_or items m blank).below < at
  sought-smaller at m s is =
      omega (arith, below_is at m s is, is, top-le (homes (length heads) items) (home_of (length heads) commit) m)

or_true : (b : Bool) → (b || true) ≡ true
or_true true = refl
or_true false = refl

-- an item that is for a commit is an order for it
pub has_order-item : (items : List Item) (commit : CommitId) (m : ℕ) → m < length items
    → same_id (get_or items m blank).commit commit ≡ true → has_order (orders_in items) commit ≡ true
has_order-item [] commit m low same = absurd (omega (arith, low))
has_order-item (x ∷ items) commit zero low same = rw same refl
has_order-item (x ∷ items) commit (suc m) low same =
    rw (has_order-item items commit m (omega (arith, low)) same) (or_true (same_id x.commit commit))

-- where no item is, no order is
pub has_order-no_item : (items : List Item) (commit : CommitId)
    → ((k : ℕ) → k < length items → same_id (get_or items k blank).commit commit ≡ false) → has_order (orders_in items) commit ≡ false
has_order-no_item [] commit none = refl
has_order-no_item (x ∷ items) commit none =
    rw (none 0 (omega arith)) (has_order-no_item items commit (λ k low. none (suc k) (omega (arith, low))))

-- the end of a chain
pub has_order-end : (heads : List ℕ) (items : List Item) (commit : CommitId) (at : ℕ) → at ≡ 0 → IsSought commit heads items at
    → has_order (orders_in items) commit ≡ false
has_order-end heads items commit at none s =
    has_order-no_item items commit
    (λ k low. by (same_id (get_or items k blank).commit commit) (λ same. s.passed k low same))
  where
    by : {k : ℕ} (b : Bool) → (b ≡ true → k < at) → b ≡ false
    by true up = absurd (omega (arith, up refl, none))
    by false up = refl
