-- The chains when the newest item comes or goes.
use Rattle.std.proofs.Common.{◌≡◌, ◌≢◌, ◌<◌, ◌+◌, ℕ, zero, suc, List, [], ◌∷◌, ◌++◌, length, get_or, set, ap, subst, sym, ◌∙◌, ⊎_elim, arith, length-append, add-one, refl}
use Rattle.std.proofs.lemmas.Bool.{cases_eq}
use Rattle.std.proofs.lemmas.List.{get_or-set_same, get_or-set_other, get_or_default, length-set}
use Rattle.farm_rules.specs.OrderChains.{blank, home_of, homes, top, IsLinked}
use Rattle.farm_rules.specs.declared.order_chains.Item.{Item}
use Rattle.farm_rules.proofs.ChainTops.{top-same, top-past, top-here}

-- the items in front of the last one, and the last one
get_or-front : (xs : List Item) (x : Item) (i : ℕ) → i < length xs → get_or (xs ++ x ∷ []) i blank ≡ get_or xs i blank
get_or-front [] x i low = absurd (omega (arith, low))
get_or-front (y ∷ xs) x zero low = refl
get_or-front (y ∷ xs) x (suc i) low = get_or-front xs x i (omega (arith, low))

get_or-end : (xs : List Item) (x : Item) → get_or (xs ++ x ∷ []) (length xs) blank ≡ x
get_or-end [] x = refl
get_or-end (y ∷ xs) x = get_or-end xs x

-- what an index reads
pub read_at : (items : List Item) (i : ℕ) (x : Item) → x ≡ get_or items i x → i < length items → x ≡ get_or items i blank
read_at items i x is low = is ∙ get_or_default items i x blank low

pub read_number : (xs : List ℕ) (i x : ℕ) → x ≡ get_or xs i x → i < length xs → x ≡ get_or xs i 0
read_number xs i x is low = is ∙ get_or_default xs i x 0 low

module _ (heads : List ℕ) (items : List Item) (x : Item) where
  -- the buckets of the items in front
  front : (size i : ℕ) → i < length items → homes size (items ++ x ∷ []) i ≡ homes size items i
  front size i low = ap (λ (y : Item). home_of size y.commit) (get_or-front items x i low)

  last : (size : ℕ) → homes size (items ++ x ∷ []) (length items) ≡ home_of size x.commit
  last size = ap (λ (y : Item). home_of size y.commit) (get_or-end items x)

  -- a further item goes before the others of its bucket
  pub linked-push : IsLinked heads items → home_of (length heads) x.commit < length heads
      → x.below ≡ get_or heads (home_of (length heads) x.commit) 0 → (n : ℕ) → n ≡ length items + 1
      → IsLinked (set heads (home_of (length heads) x.commit) n) (items ++ x ∷ [])
  linked-push l b_low below_is n n_is =
      let b = home_of (length heads) x.commit in
      let size = length heads in
      let h = homes size items in
      let k = homes size (items ++ x ∷ []) in
      let len : length (items ++ x ∷ []) ≡ suc (length items) = length-append items (x ∷ []) ∙ add-one (length items) in
      let heads_len : length (set heads b n) ≡ size = length-set heads b n in
      let resized : (s : ℕ) → s ≡ size → (c i : ℕ) → top (homes size (items ++ x ∷ [])) c i ≡ top (homes s (items ++ x ∷ [])) c i =
      λ s same c i. ap (λ (t : ℕ). top (homes t (items ++ x ∷ [])) c i) (sym same) in
      record {
        head = λ c c_set.
            let c_low : c < size = omega (arith, c_set, heads_len) in
            (⊎_elim
            (λ (e : c ≡ b).
            subst (λ (d : ℕ). get_or (set heads b n) d 0 ≡ top k d (suc (length items))) (sym e)
            (get_or-set_same heads b n 0 b_low ∙ (n_is ∙ (add-one (length items) ∙ sym (top-here k b (length items) (last size))))))
            (λ (ne : c ≢ b).
            let miss : k (length items) ≢ c = λ (bad : k (length items) ≡ c). ne (sym bad ∙ last size) in
            get_or-set_other heads b c n 0 ne
            ∙ (l.head c c_low ∙ (sym (top-same h k c (length items) (λ i low. front size i low)) ∙ sym (top-past k c (length items) miss))))
            (cases_eq c b))
            ∙ (ap (λ (v : ℕ). top k c v) (sym len) ∙ resized (length (set heads b n)) heads_len c (length (items ++ x ∷ [])));
        below = λ i i_low.
            (⊎_elim
            (λ (e : i ≡ length items).
            subst (λ (j : ℕ). (get_or (items ++ x ∷ []) j blank).below ≡ top k (k j) j) (sym e)
            (ap (λ (y : Item). y.below) (get_or-end items x)
            ∙ (below_is ∙ (l.head b b_low
            ∙ (sym (top-same h k b (length items) (λ j low. front size j low))
            ∙ ap (λ (c : ℕ). top k c (length items)) (sym (last size)))))))
            (λ (ne : i ≢ length items).
            let low : i < length items = omega (arith, i_low, len, ne) in
            ap (λ (y : Item). y.below) (get_or-front items x i low)
            ∙ (l.below i low
            ∙ (sym (top-same h k (h i) i (λ j up. front size j (omega (arith, up, low))))
            ∙ ap (λ (c : ℕ). top k c i) (sym (front size i low)))))
            (cases_eq i (length items)))
            ∙ ap (λ (t : ℕ). top (homes t (items ++ x ∷ [])) (homes t (items ++ x ∷ []) i) i) (sym heads_len);
      }

  -- without it they are as before
  pub linked-pop : IsLinked heads (items ++ x ∷ []) → home_of (length heads) x.commit < length heads
      → IsLinked (set heads (home_of (length heads) x.commit) x.below) items
  linked-pop l b_low =
      let b = home_of (length heads) x.commit in
      let size = length heads in
      let h = homes size items in
      let k = homes size (items ++ x ∷ []) in
      let len : length (items ++ x ∷ []) ≡ suc (length items) = length-append items (x ∷ []) ∙ add-one (length items) in
      let heads_len : length (set heads b x.below) ≡ size = length-set heads b x.below in
      record {
        head = λ c c_set.
            let c_low : c < size = omega (arith, c_set, heads_len) in
            (⊎_elim
            (λ (e : c ≡ b).
            subst (λ (d : ℕ). get_or (set heads b x.below) d 0 ≡ top h d (length items)) (sym e)
            (get_or-set_same heads b x.below 0 b_low
            ∙ (ap (λ (y : Item). y.below) (sym (get_or-end items x))
            ∙ (l.below (length items) (omega (arith, len))
            ∙ (ap (λ (d : ℕ). top k d (length items)) (last size)
            ∙ top-same h k b (length items) (λ i low. front size i low))))))
            (λ (ne : c ≢ b).
            let miss : k (length items) ≢ c = λ (bad : k (length items) ≡ c). ne (sym bad ∙ last size) in
            get_or-set_other heads b c x.below 0 ne
            ∙ (l.head c c_low ∙ (ap (λ (v : ℕ). top k c v) len ∙ (top-past k c (length items) miss ∙ top-same h k c (length items) (λ i low. front size i low)))))
            (cases_eq c b))
            ∙ ap (λ (t : ℕ). top (homes t items) c (length items)) (sym heads_len);
        below = λ i low.
            (ap (λ (y : Item). y.below) (sym (get_or-front items x i low))
            ∙ (l.below i (omega (arith, low, len))
            ∙ (top-same h k (k i) i (λ j up. front size j (omega (arith, up, low)))
            ∙ ap (λ (c : ℕ). top h c i) (front size i low))))
            ∙ ap (λ (t : ℕ). top (homes t items) (homes t items i) i) (sym heads_len);
      }
