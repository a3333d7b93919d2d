-- The walks down a chain.
use Rattle.std.proofs.Common.{◌≡◌, ◌≢◌, ◌<◌, ◌≤◌, ◌+◌, ◌-◌, ℕ, suc, List, length, get_or, ap, subst, sym, ◌∙◌, ⊎_elim, arith}
use Rattle.std.proofs.lemmas.Bool.{cases_eq}
use Rattle.search_books.specs.Bucket.{home_of}
use Rattle.search_books.specs.KeyChains.{blank, homes, top, IsLinked, IsDown, IsAbove}
use Rattle.search_books.specs.declared.key_chains.Item.{Item}
use Rattle.search_books.proofs.KeyTops.{top-le, top-above, top-hit, top-down}

-- no item with the key lies at `at` or above it
pub record IsSought (key b : ℕ) (heads : List ℕ) (items : List Item) (at : ℕ) : Type 0 where
  pub within : at ≤ length items
  pub passed : (k : ℕ) → k < length items → (get_or items k blank).key ≡ key → k < at
  pub here : (m : ℕ) → at ≡ m + 1 → homes (length heads) items m ≡ b

-- where the walk to the pointer is
pub record IsWalk (heads : List ℕ) (items : List Item) (b at above next : ℕ) : Type 0 where
  pub within : next ≤ length items
  pub above_within : above ≤ length items
  pub above_at : (m : ℕ) → above ≡ m + 1 → (at < m) × (next ≤ m)
  pub linked : (h : ℕ → ℕ) → IsLinked h at heads items → IsAbove h b at (length items) above next

module _ (key : ℕ) (heads : List ℕ) (items : List Item)
    (linked : IsLinked (homes (length heads) items) (length items) heads items) where
  pub sought-start : home_of (length heads) key < length heads → (at : ℕ)
      → at ≡ get_or heads (home_of (length heads) key) 0
      → IsSought key (home_of (length heads) key) heads items at
  sought-start low at is =
      let h = homes (length heads) items in
      let b = home_of (length heads) key in
      let first : at ≡ top h b (length items) = is ∙ linked.head b low in
      record {
        within = omega (arith, first, top-le h b (length items));
        passed = λ k below same.
            omega (
              arith,
              first,
              top-above h b k (length items) below
                  (ap (λ (x : ℕ). home_of (length heads) x) same),
            );
        here = λ m hit. (top-hit h b (length items) m (sym first ∙ hit)).1;
      }

  pub sought-next : (at m : ℕ) → IsSought key (home_of (length heads) key) heads items at → at ≡ m + 1
      → (get_or items m blank).key ≢ key
      → IsSought key (home_of (length heads) key) heads items (get_or items m blank).below
  sought-next at m s is other =
      let h = homes (length heads) items in
      let b = home_of (length heads) key in
      let within : m < length items = omega (arith, is, s.within) in
      let next : (get_or items m blank).below ≡ top h b m = linked.below m within (omega arith)
      ∙ ap (λ (c : ℕ). top h c m) (s.here m is) in
      record {
        within = omega (arith, next, within, top-le h b m);
        passed = λ k below same.
            let up : k < at = s.passed k below same in
            ⊎_elim
            (λ (e : k ≡ m). absurd (other (subst (λ (i : ℕ). (get_or items i blank).key ≡ key) e same)))
            (λ (ne : k ≢ m). omega (
              arith,
              next,
              top-above h b k m (omega (arith, up, is, ne)) (ap (λ (x : ℕ). home_of (length heads) x) same),
            ))
            (cases_eq k m);
        here = λ j hit. (top-hit h b m j (sym next ∙ hit)).1;
      }

  pub sought-smaller : (at m : ℕ) → IsSought key (home_of (length heads) key) heads items at → at ≡ m + 1
      → (get_or items m blank).below < at
  sought-smaller at m s is =
      let h = homes (length heads) items in
      let b = home_of (length heads) key in
      let within : m < length items = omega (arith, is, s.within) in
      let next : (get_or items m blank).below ≡ top h b m = linked.below m within (omega arith)
      ∙ ap (λ (c : ℕ). top h c m) (s.here m is) in
      omega (arith, next, is, top-le h b m)

-- the walk leads to an item of the bucket
pub above-hit : (h : ℕ → ℕ) (b at n above next m : ℕ) → IsAbove h b at n above next → next ≡ m + 1 → (m < n)
    × (h m ≡ b)
above-hit h b at n above next m w is =
    ⊎_elim
    (λ (e : above ≡ 0). top-hit h b n m (sym (w.from_head e) ∙ is))
    (λ (ne : above ≢ 0).
    let item = w.from_item (above - 1) (omega (arith, ne)) in
    let hit = top-hit h b (above - 1) m (sym item.3 ∙ is) in
    (omega (arith, item.1, hit.0), hit.1))
    (cases_eq above 0)

pub walk-next : (heads : List ℕ) (items : List Item) (b at above next m : ℕ) → IsDown heads items
    → IsWalk heads items b at above next
    → at + 1 < next → next ≡ m + 1 → IsWalk heads items b at next (get_or items m blank).below
walk-next heads items b at above next m down w far is =
    let within : m < length items = omega (arith, w.within, is) in
    let low = down.below m within in
    record {
      within = omega (arith, within, low);
      above_within = w.within;
      above_at = λ j same. (omega (arith, far, same), omega (arith, low, same, is));
      linked = λ h l. record {
        from_head = λ none. absurd (omega (arith, none, is));
        from_item = λ j same.
            let j_is : m ≡ j = omega (arith, same, is) in
            let hit = above-hit h b at (length items) above next m (w.linked h l) is in
            let next_is : (get_or items m blank).below ≡ top h b m = l.below m within (omega (arith, far, is))
            ∙ ap (λ (c : ℕ). top h c m) hit.1 in (
              omega (arith, far, same),
              omega (arith, within, j_is),
              subst (λ (i : ℕ). h i ≡ b) j_is hit.1,
              next_is
                  ∙ ap (λ (i : ℕ). top h b i) j_is,
            );
      };
    }

-- the pointer that is found
pub walk-was : (h : ℕ → ℕ) (b at n above next : ℕ) → IsAbove h b at n above next → next ≤ at + 1 → at < n
    → next ≡ top h b (suc at)
walk-was h b at n above next w low within =
    ⊎_elim
    (λ (e : above ≡ 0). let first = w.from_head e in first ∙ top-down h b n at within (omega (arith, first, low)))
    (λ (ne : above ≢ 0).
    let item = w.from_item (above - 1) (omega (arith, ne)) in
    item.3 ∙ top-down h b (above - 1) at item.0 (omega (arith, item.3, low)))
    (cases_eq above 0)
