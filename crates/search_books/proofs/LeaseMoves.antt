-- The chains when one row comes to a chain or leaves it.
use Rattle.std.proofs.Common.{◌≡◌, ◌≢◌, ◌<◌, ◌≤◌, ◌+◌, ◌-◌, ℕ, zero, suc, List, length, get_or, set, refl, ap, subst, sym, ◌∙◌, ⊎_elim, arith}
use Rattle.std.proofs.lemmas.Bool.{cases_lt, cases_eq}
use Rattle.std.proofs.lemmas.List.{get_or-set_same, get_or-set_other, length-set}
use Rattle.search_books.specs.LeaseChains.{blank, top, IsLinked, IsMoved}
use Rattle.search_books.specs.declared.lease_chains.Row.{Row}
use Rattle.search_books.proofs.LeaseTops.{top-le, top-above, top-hit, top-same, top-past, top-here, top-down}

module _ (h k : ℕ → ℕ) (at b : ℕ) (moved : IsMoved h k at b) where
  -- other chains
  pub moved-others : (c n : ℕ) → c ≢ b → c ≢ 0 → top k c n ≡ top h c n
  moved-others c zero ne some = refl
  moved-others c (suc n) ne some =
      let rest = moved-others c n ne some in
      ⊎_elim
      (λ (e : n ≡ at).
      let not_h : h n ≢ c = λ (same : h n ≡ c).
      let same_at : h at ≡ c = subst (λ (i : ℕ). h i ≡ c) e same in
      let none : h at ≡ 0 = moved.before (λ (bad : h at ≡ b). ne (sym same_at ∙ bad)) in
      absurd (some (sym same_at ∙ none)) in
      let not_k : k n ≢ c = λ (same : k n ≡ c).
      let same_at : k at ≡ c = subst (λ (i : ℕ). k i ≡ c) e same in
      let none : k at ≡ 0 = moved.after (λ (bad : k at ≡ b). ne (sym same_at ∙ bad)) in
      absurd (some (sym same_at ∙ none)) in
      top-past k c n not_k ∙ (rest ∙ sym (top-past h c n not_h)))
      (λ (other : n ≢ at). rw (moved.others n other, rest) refl)
      (cases_eq n at)

  -- where the greatest lies above the row
  pub moved-high : (n : ℕ) → at + 1 < top h b n → top k b n ≡ top h b n
  moved-high zero high = absurd (omega (arith, high))
  moved-high (suc n) high =
      ⊎_elim
      (λ (e : n ≡ at). absurd (omega (arith, high, e, top-le h b (suc n))))
      (λ (other : n ≢ at).
      let same = moved.others n other in
      ⊎_elim
      (λ (hit : h n ≡ b). top-here k b n (same ∙ hit) ∙ sym (top-here h b n hit))
      (λ (miss : h n ≢ b).
      let past = top-past h b n miss in
      let miss_k : k n ≢ b = λ (bad : k n ≡ b). miss (sym same ∙ bad) in
      top-past k b n miss_k ∙ (moved-high n (omega (arith, high, past)) ∙ sym past))
      (cases_eq (h n) b))
      (cases_eq n at)

  -- where it lies up to the row
  pub moved-low : (n : ℕ) → at < n → top h b n ≤ at + 1 → top k b n ≡ top k b (suc at)
  moved-low n below low =
      top-down k b n at below
      (⊎_elim
      (λ (high : at + 1 < top k b n).
      let hit = top-hit k b n (top k b n - 1) (omega (arith, high)) in
      let other : top k b n - 1 ≢ at = omega (arith, high) in
      absurd (omega (arith, high, low, top-above h b (top k b n - 1) n hit.0 (sym (moved.others _ other) ∙ hit.1))))
      (λ (fine : top k b n ≤ at + 1). fine)
      (cases_lt (at + 1) (top k b n)))

  -- below the row
  pub moved-below : (c n : ℕ) → n ≤ at → top k c n ≡ top h c n
  moved-below c n below = top-same h k c n (λ i low. moved.others i (omega (arith, low, below)))

  -- a pointer that stays
  pub moved-stays : (c n : ℕ) → c ≢ 0 → (at < n → c ≡ b → at + 1 < top h b n) → top k c n ≡ top h c n
  moved-stays c n some high =
      ⊎_elim
      (λ (above : at < n).
      ⊎_elim
      (λ (e : c ≡ b). subst (λ (d : ℕ). top k d n ≡ top h d n) (sym e) (moved-high n (high above e)))
      (λ (ne : c ≢ b). moved-others c n ne some)
      (cases_eq c b))
      (λ (up : n ≤ at). moved-below c n up)
      (cases_lt at n)

module _ (h k : ℕ → ℕ) (at s to next : ℕ) (heads : List ℕ) (rows : List Row)
    (linked : IsLinked h at heads rows) (moved : IsMoved h k at (suc s))
    (is : to ≡ top k (suc s) (suc at)) (low : next ≤ at + 1) (at_low : at < length rows) where
  -- no pointer between the row and the one that is set leads past it
  between : (i n : ℕ) → i < n → top h (suc s) n ≤ at + 1 → at < i → h i ≡ suc s → at + 1 < top h (suc s) i
  between i n within top_low above hit = absurd (omega (arith, top-above h (suc s) i n within hit, top_low, above))

  pub linked-head : next ≡ top h (suc s) (length rows) → s < length heads → IsLinked k at (set heads s to) rows
  linked-head first s_low =
      let top_low : top h (suc s) (length rows) ≤ at + 1 = omega (arith, first, low) in
      let len = length-set heads s to in
      record {
        head = λ c c_set.
            let c_low : c < length heads = omega (arith, c_set, len) in
            let some : suc c ≢ 0 = omega arith in
            ⊎_elim
            (λ (e : c ≡ s).
            subst (λ (d : ℕ). get_or (set heads s to) d 0 ≡ top k (suc d) (length rows)) (sym e)
            (get_or-set_same heads s to 0 s_low
            ∙ (is ∙ sym (moved-low h k at (suc s) moved (length rows) at_low top_low))))
            (λ (ne : c ≢ s).
            let other : suc c ≢ suc s = omega (arith, ne) in
            get_or-set_other heads s c to 0 ne
            ∙ (linked.head c c_low ∙ sym (moved-others h k at (suc s) moved (suc c) (length rows) other some)))
            (cases_eq c s);
        below = λ i within other some.
            let same = moved.others i other in
            let h_some : h i ≢ 0 = λ (none : h i ≡ 0). some (same ∙ none) in
            linked.below i within other h_some
            ∙ (sym (moved-stays h k at (suc s) moved (h i) i h_some
            (λ above hit. between i (length rows) within top_low above hit))
            ∙ ap (λ (c : ℕ). top k c i) (sym same));
      }

  pub linked-row : (m : ℕ) → at < m → m < length rows → h m ≡ suc s → next ≡ top h (suc s) m → (row : Row)
      → row.below ≡ to
      → IsLinked k at heads (set rows m row)
  linked-row m above_at within_m hit_m next_is row row_is =
      let top_low : top h (suc s) m ≤ at + 1 = omega (arith, next_is, low) in
      let len = length-set rows m row in
      let m_other : m ≢ at = omega (arith, above_at) in
      record {
        head = λ c c_low.
            let some : suc c ≢ 0 = omega arith in
            linked.head c c_low
            ∙ (sym (moved-stays h k at (suc s) moved (suc c) (length rows) some
            (λ up e. omega (arith, above_at, top-above h (suc s) m (length rows) within_m hit_m)))
            ∙ ap (λ (n : ℕ). top k (suc c) n) (sym len));
        below = λ i i_set other some.
            let within : i < length rows = omega (arith, i_set, len) in
            let same = moved.others i other in
            let h_some : h i ≢ 0 = λ (none : h i ≡ 0). some (same ∙ none) in
            ⊎_elim
            (λ (e : i ≡ m).
            subst (λ (j : ℕ). (get_or (set rows m row) j blank).below ≡ top k (k j) j) (sym e)
            (ap (λ (x : Row). x.below) (get_or-set_same rows m row blank within_m)
            ∙ (row_is ∙ (is ∙ (sym (moved-low h k at (suc s) moved m above_at top_low)
            ∙ ap (λ (c : ℕ). top k c m) (sym (moved.others m m_other ∙ hit_m)))))))
            (λ (ne : i ≢ m).
            ap (λ (x : Row). x.below) (get_or-set_other rows m i row blank ne)
            ∙ (linked.below i within other h_some
            ∙ (sym (moved-stays h k at (suc s) moved (h i) i h_some
            (λ above hit.
            ⊎_elim
            (λ (up : m < i). omega (arith, above_at, top-above h (suc s) m i up hit_m))
            (λ (down : i ≤ m). between i m (omega (arith, down, ne)) top_low above hit)
            (cases_lt m i)))
            ∙ ap (λ (c : ℕ). top k c i) (sym same))))
            (cases_eq i m);
      }
