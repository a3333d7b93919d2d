-- The chains when one item comes to a bucket or leaves it.
use Rattle.std.proofs.Common.{◌≡◌, ◌≢◌, ◌<◌, ◌≤◌, ◌+◌, ◌-◌, ℕ, zero, suc, List, length, get_or, set, refl, ap, subst, sym, ◌∙◌, ⊎_elim, arith}
use Rattle.std.proofs.lemmas.Bool.{cases_lt, cases_eq}
use Rattle.std.proofs.lemmas.List.{get_or-set_same, get_or-set_other, length-set}
use Rattle.search_books.specs.KeyChains.{blank, top, IsLinked, IsDown, IsMoved}
use Rattle.search_books.specs.declared.key_chains.Item.{Item}
use Rattle.search_books.proofs.KeyTops.{top-le, top-above, top-hit, top-same, top-past, top-here, top-down}

module _ (h k : ℕ → ℕ) (at b size : ℕ) (moved : IsMoved h k at b size) where
  -- other buckets
  pub moved-others : (c n : ℕ) → c ≢ b → c < size → top k c n ≡ top h c n
  moved-others c zero ne low = refl
  moved-others c (suc n) ne low =
      let rest = moved-others c n ne low in
      ⊎_elim
      (λ (e : n ≡ at).
      let not_h : h n ≢ c = λ (same : h n ≡ c).
      let same_at : h at ≡ c = subst (λ (i : ℕ). h i ≡ c) e same in
      let far : size ≤ h at = moved.before (λ (bad : h at ≡ b). ne (sym same_at ∙ bad)) in
      absurd (omega (arith, far, same_at, low)) in
      let not_k : k n ≢ c = λ (same : k n ≡ c).
      let same_at : k at ≡ c = subst (λ (i : ℕ). k i ≡ c) e same in
      let far : size ≤ k at = moved.after (λ (bad : k at ≡ b). ne (sym same_at ∙ bad)) in
      absurd (omega (arith, far, same_at, low)) in
      top-past k c n not_k ∙ (rest ∙ sym (top-past h c n not_h)))
      (λ (other : n ≢ at). rw (moved.others n other, rest) refl)
      (cases_eq n at)

  -- where the greatest lies above the item
  pub moved-high : (n : ℕ) → at + 1 < top h b n → top k b n ≡ top h b n
  moved-high zero high = absurd (omega (arith, high))
  moved-high (suc n) high =
      ⊎_elim
      (λ (e : n ≡ at). absurd (omega (arith, high, e, top-le h b (suc n))))
      (λ (other : n ≢ at).
      let same = moved.others n other in
      ⊎_elim
      (λ (hit : h n ≡ b). top-here k b n (same ∙ hit) ∙ sym (top-here h b n hit))
      (λ (miss : h n ≢ b).
      let past = top-past h b n miss in
      let miss_k : k n ≢ b = λ (bad : k n ≡ b). miss (sym same ∙ bad) in
      top-past k b n miss_k ∙ (moved-high n (omega (arith, high, past)) ∙ sym past))
      (cases_eq (h n) b))
      (cases_eq n at)

  -- where it lies up to the item
  pub moved-low : (n : ℕ) → at < n → top h b n ≤ at + 1 → top k b n ≡ top k b (suc at)
  moved-low n below low =
      top-down k b n at below
      (⊎_elim
      (λ (high : at + 1 < top k b n).
      let hit = top-hit k b n (top k b n - 1) (omega (arith, high)) in
      let other : top k b n - 1 ≢ at = omega (arith, high) in
      absurd (omega (arith, high, low, top-above h b (top k b n - 1) n hit.0 (sym (moved.others _ other) ∙ hit.1))))
      (λ (fine : top k b n ≤ at + 1). fine)
      (cases_lt (at + 1) (top k b n)))

  -- below the item
  pub moved-below : (c n : ℕ) → n ≤ at → top k c n ≡ top h c n
  moved-below c n below = top-same h k c n (λ i low. moved.others i (omega (arith, low, below)))

  -- a pointer that stays
  pub moved-stays : (c n : ℕ) → c < size → (at < n → c ≡ b → at + 1 < top h b n) → top k c n ≡ top h c n
  moved-stays c n low high =
      ⊎_elim
      (λ (above : at < n).
      ⊎_elim
      (λ (e : c ≡ b). subst (λ (d : ℕ). top k d n ≡ top h d n) (sym e) (moved-high n (high above e)))
      (λ (ne : c ≢ b). moved-others c n ne low)
      (cases_eq c b))
      (λ (up : n ≤ at). moved-below c n up)
      (cases_lt at n)

module _ (h k : ℕ → ℕ) (at b to next : ℕ) (heads : List ℕ) (items : List Item)
    (linked : IsLinked h at heads items) (moved : IsMoved h k at b (length heads))
    (is : to ≡ top k b (suc at)) (low : next ≤ at + 1) (at_low : at < length items) where
  kept-home : (i : ℕ) → i < length items → i ≢ at → k i < length heads
  kept-home i within other = omega (arith, moved.others i other, linked.home i within other)

  -- no pointer between the item and the one that is set leads past it
  between : (i n : ℕ) → i < n → top h b n ≤ at + 1 → at < i → h i ≡ b → at + 1 < top h b i
  between i n within top_low above hit = absurd (omega (arith, top-above h b i n within hit, top_low, above))

  pub linked-head : next ≡ top h b (length items) → b < length heads → IsLinked k at (set heads b to) items
  linked-head first b_low =
      let top_low : top h b (length items) ≤ at + 1 = omega (arith, first, low) in
      let len = length-set heads b to in
      record {
        head = λ c c_set.
            let c_low : c < length heads = omega (arith, c_set, len) in
            ⊎_elim
            (λ (e : c ≡ b).
            subst (λ (d : ℕ). get_or (set heads b to) d 0 ≡ top k d (length items)) (sym e)
            (get_or-set_same heads b to 0 b_low
            ∙ (is ∙ sym (moved-low h k at b (length heads) moved (length items) at_low top_low))))
            (λ (ne : c ≢ b).
            get_or-set_other heads b c to 0 ne
            ∙ (linked.head c c_low ∙ sym (moved-others h k at b (length heads) moved c (length items) ne c_low)))
            (cases_eq c b);
        below = λ i within other.
            linked.below i within other
            ∙ (sym (moved-stays h k at b (length heads) moved (h i) i (linked.home i within other)
            (λ above hit. between i (length items) within top_low above hit))
            ∙ ap (λ (c : ℕ). top k c i) (sym (moved.others i other)));
        home = λ i within other. omega (arith, kept-home i within other, len);
      }

  pub linked-item : (m : ℕ) → at < m → m < length items → h m ≡ b → next ≡ top h b m → (item : Item) → item.below ≡ to
      → IsLinked k at heads (set items m item)
  linked-item m above_at within_m hit_m next_is item item_is =
      let top_low : top h b m ≤ at + 1 = omega (arith, next_is, low) in
      let len = length-set items m item in
      let m_other : m ≢ at = omega (arith, above_at) in
      let size = length heads in
      record {
        head = λ c c_low.
            linked.head c c_low
            ∙ (sym (moved-stays h k at b size moved c (length items) c_low
            (λ up e. omega (arith, above_at, top-above h b m (length items) within_m hit_m)))
            ∙ ap (λ (n : ℕ). top k c n) (sym len));
        below = λ i i_set other.
            let within : i < length items = omega (arith, i_set, len) in
            ⊎_elim
            (λ (e : i ≡ m).
            subst (λ (j : ℕ). (get_or (set items m item) j blank).below ≡ top k (k j) j) (sym e)
            (ap (λ (x : Item). x.below) (get_or-set_same items m item blank within_m)
            ∙ (item_is ∙ (is ∙ (sym (moved-low h k at b size moved m above_at top_low)
            ∙ ap (λ (c : ℕ). top k c m) (sym (moved.others m m_other ∙ hit_m)))))))
            (λ (ne : i ≢ m).
            ap (λ (x : Item). x.below) (get_or-set_other items m i item blank ne)
            ∙ (linked.below i within other
            ∙ (sym (moved-stays h k at b size moved (h i) i (linked.home i within other)
            (λ above hit.
            ⊎_elim
            (λ (up : m < i). omega (arith, above_at, top-above h b m i up hit_m))
            (λ (down : i ≤ m). between i m (omega (arith, down, ne)) top_low above hit)
            (cases_lt m i)))
            ∙ ap (λ (c : ℕ). top k c i) (sym (moved.others i other)))))
            (cases_eq i m);
        home = λ i i_set other. kept-home i (omega (arith, i_set, len)) other;
      }

pub down-item : (heads : List ℕ) (items : List Item) (m : ℕ) (item : Item) → IsDown heads items → item.below ≤ m
    → m < length items
    → IsDown heads (set items m item)
down-item heads items m item down low within =
    let len = length-set items m item in
    record {
      head = λ c c_low. omega (arith, down.head c c_low, len);
      below = λ i i_set.
          ⊎_elim
          (λ (e : i ≡ m).
          subst (λ (j : ℕ). (get_or (set items m item) j blank).below ≤ j) (sym e)
          (omega (arith, ap (λ (x : Item). x.below) (get_or-set_same items m item blank within), low)))
          (λ (ne : i ≢ m). omega (
            arith,
            ap (λ (x : Item). x.below) (get_or-set_other items m i item blank ne),
            down.below i (omega (arith, i_set, len)),
          ))
          (cases_eq i m);
    }
