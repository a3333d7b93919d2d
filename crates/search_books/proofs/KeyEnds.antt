-- The chains when the newest item comes or goes.
use Rattle.std.proofs.Common.{◌≡◌, ◌≢◌, ◌<◌, ◌+◌, ℕ, zero, suc, List, [], ◌∷◌, ◌++◌, length, get_or, set, refl, ap, subst, sym, ◌∙◌, ⊎_elim, arith, length-append, add-one}
use Rattle.std.proofs.lemmas.Bool.{cases_eq}
use Rattle.std.proofs.lemmas.List.{get_or-set_same, get_or-set_other, get_or_default, length-set}
use Rattle.search_books.specs.Bucket.{home_of}
use Rattle.search_books.specs.KeyChains.{blank, homes, top, IsLinked, IsDown}
use Rattle.search_books.specs.declared.key_chains.Item.{Item}
use Rattle.search_books.proofs.KeyTops.{top-le, top-same, top-past, top-here}

pub get_or-front : (xs : List Item) (x : Item) (i : ℕ) → i < length xs
    → get_or (xs ++ x ∷ []) i blank ≡ get_or xs i blank
get_or-front [] x i low = absurd (omega (arith, low))
get_or-front (y ∷ xs) x zero low = refl
get_or-front (y ∷ xs) x (suc i) low = get_or-front xs x i (omega (arith, low))

pub get_or-end : (xs : List Item) (x : Item) → get_or (xs ++ x ∷ []) (length xs) blank ≡ x
get_or-end [] x = refl
get_or-end (y ∷ xs) x = get_or-end xs x

-- what an index reads
pub read_at : (items : List Item) (i : ℕ) (x : Item) → x ≡ get_or items i x → i < length items
    → x ≡ get_or items i blank
read_at items i x is low = is ∙ get_or_default items i x blank low

pub read_number : (xs : List ℕ) (i x : ℕ) → x ≡ get_or xs i x → i < length xs → x ≡ get_or xs i 0
read_number xs i x is low = is ∙ get_or_default xs i x 0 low

-- the pointers lead down
pub down-of : (h : ℕ → ℕ) (heads : List ℕ) (items : List Item) → IsLinked h (length items) heads items
    → IsDown heads items
down-of h heads items l = record {
  head = λ b low. omega (arith, l.head b low, top-le h b (length items));
  below = λ i low. omega (arith, l.below i low (omega (arith, low)), top-le h (h i) i);
}

-- another way to tell the buckets
pub linked-same : (h k : ℕ → ℕ) (skip : ℕ) (heads : List ℕ) (items : List Item)
    → ((i : ℕ) → i < length items → k i ≡ h i)
    → IsLinked h skip heads items → IsLinked k skip heads items
linked-same h k skip heads items same l = record {
  head = λ b low. l.head b low ∙ sym (top-same h k b (length items) same);
  below = λ i low other.
      l.below i low other
      ∙ (sym (top-same h k (h i) i (λ j up. same j (omega (arith, up, low))))
      ∙ ap (λ (c : ℕ). top k c i) (sym (same i low)));
  home = λ i low other. omega (arith, same i low, l.home i low other);
}

module _ (heads : List ℕ) (items : List Item) (x : Item) where
  -- the buckets of the items in front
  front : (size i : ℕ) → i < length items → homes size (items ++ x ∷ []) i ≡ homes size items i
  front size i low = ap (λ (y : Item). home_of size y.key) (get_or-front items x i low)

  last : (size : ℕ) → homes size (items ++ x ∷ []) (length items) ≡ home_of size x.key
  last size = ap (λ (y : Item). home_of size y.key) (get_or-end items x)

  pub linked-push : IsLinked (homes (length heads) items) (length items) heads items
      → home_of (length heads) x.key < length heads
      → x.below ≡ get_or heads (home_of (length heads) x.key) 0 → (n : ℕ) → n ≡ length items + 1
      → (size : ℕ) → size ≡ length heads
      → IsLinked (homes size (items ++ x ∷ [])) (length (items ++ x ∷ []))
      (set heads (home_of (length heads) x.key) n) (items ++ x ∷ [])
  linked-push l b_low below_is n n_is size size_is =
      let b = home_of (length heads) x.key in
      let h = homes (length heads) items in
      let k = homes (length heads) (items ++ x ∷ []) in
      let len : length (items ++ x ∷ []) ≡ suc (length items) = length-append items (x ∷ [])
      ∙ add-one (length items) in
      let heads_len = length-set heads b n in
      subst (λ (s : ℕ). IsLinked (homes s (items ++ x ∷ [])) (length (items ++ x ∷ [])) (set heads b n)
      (items ++ x ∷ [])) (sym size_is)
      (record {
        head = λ c c_set.
            let c_low : c < length heads = omega (arith, c_set, heads_len) in
            (⊎_elim
            (λ (e : c ≡ b).
            subst (λ (d : ℕ). get_or (set heads b n) d 0 ≡ top k d (suc (length items))) (sym e)
            (get_or-set_same heads b n 0 b_low
            ∙ (n_is ∙ (add-one (length items) ∙ sym (top-here k b (length items) (last (length heads)))))))
            (λ (ne : c ≢ b).
            let miss : k (length items) ≢ c = λ (bad : k (length items) ≡ c). ne (sym bad ∙ last (length heads)) in
            get_or-set_other heads b c n 0 ne
            ∙ (l.head c c_low ∙ (sym (top-same h k c (length items) (λ i low. front (length heads) i low))
            ∙ sym (top-past k c (length items) miss))))
            (cases_eq c b)) ∙ ap (λ (v : ℕ). top k c v) (sym len);
        below = λ i i_low other.
            ⊎_elim
            (λ (e : i ≡ length items).
            subst (λ (j : ℕ). (get_or (items ++ x ∷ []) j blank).below ≡ top k (k j) j) (sym e)
            (ap (λ (y : Item). y.below) (get_or-end items x)
            ∙ (below_is ∙ (l.head b b_low
            ∙ (sym (top-same h k b (length items) (λ j low. front (length heads) j low))
            ∙ ap (λ (c : ℕ). top k c (length items)) (sym (last (length heads))))))))
            (λ (ne : i ≢ length items).
            let low : i < length items = omega (arith, i_low, len, ne) in
            ap (λ (y : Item). y.below) (get_or-front items x i low)
            ∙ (l.below i low (omega (arith, low))
            ∙ (sym (top-same h k (h i) i (λ j up. front (length heads) j (omega (arith, up, low))))
            ∙ ap (λ (c : ℕ). top k c i) (sym (front (length heads) i low)))))
            (cases_eq i (length items));
        home = λ i i_low other.
            ⊎_elim
            (λ (e : i ≡ length items).
            let here : k i ≡ b = subst (λ (j : ℕ). k j ≡ b) (sym e) (last (length heads)) in
            omega (arith, here, b_low, heads_len))
            (λ (ne : i ≢ length items).
            let low : i < length items = omega (arith, i_low, len, ne) in
            omega (arith, front (length heads) i low, l.home i low (omega (arith, low)), heads_len))
            (cases_eq i (length items));
      })

  pub linked-pop : IsLinked (homes (length heads) (items ++ x ∷ [])) (length (items ++ x ∷ [])) heads
      (items ++ x ∷ [])
      → home_of (length heads) x.key < length heads
      → (size : ℕ) → size ≡ length heads
      → IsLinked (homes size items) (length items) (set heads (home_of (length heads) x.key) x.below) items
  linked-pop l b_low size size_is =
      let b = home_of (length heads) x.key in
      let h = homes (length heads) items in
      let k = homes (length heads) (items ++ x ∷ []) in
      let len : length (items ++ x ∷ []) ≡ suc (length items) = length-append items (x ∷ [])
      ∙ add-one (length items) in
      let heads_len = length-set heads b x.below in
      subst (λ (s : ℕ). IsLinked (homes s items) (length items) (set heads b x.below) items) (sym size_is)
      (record {
        head = λ c c_set.
            let c_low : c < length heads = omega (arith, c_set, heads_len) in
            ⊎_elim
            (λ (e : c ≡ b).
            subst (λ (d : ℕ). get_or (set heads b x.below) d 0 ≡ top h d (length items)) (sym e)
            (get_or-set_same heads b x.below 0 b_low
            ∙ (ap (λ (y : Item). y.below) (sym (get_or-end items x))
            ∙ (l.below (length items) (omega (arith, len)) (omega (arith, len))
            ∙ (ap (λ (d : ℕ). top k d (length items)) (last (length heads))
            ∙ top-same h k b (length items) (λ i low. front (length heads) i low))))))
            (λ (ne : c ≢ b).
            let miss : k (length items) ≢ c = λ (bad : k (length items) ≡ c). ne (sym bad ∙ last (length heads)) in
            get_or-set_other heads b c x.below 0 ne
            ∙ (l.head c c_low ∙ (ap (λ (v : ℕ). top k c v) len
            ∙ (top-past k c (length items) miss
            ∙ top-same h k c (length items) (λ i low. front (length heads) i low)))))
            (cases_eq c b);
        below = λ i low other.
            ap (λ (y : Item). y.below) (sym (get_or-front items x i low))
            ∙ (l.below i (omega (arith, low, len)) (omega (arith, low, len))
            ∙ (top-same h k (k i) i (λ j up. front (length heads) j (omega (arith, up, low)))
            ∙ ap (λ (c : ℕ). top h c i) (front (length heads) i low)));
        home = λ i low other.
            omega (
              arith,
              sym (front (length heads) i low),
              l.home i (omega (arith, low, len)) (omega (arith, low, len)),
              heads_len,
            );
      })
