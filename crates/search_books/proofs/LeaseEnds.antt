-- The chains when the newest row comes or goes.
use Rattle.std.proofs.Common.{◌≡◌, ◌≢◌, ◌<◌, ◌+◌, ℕ, zero, suc, List, [], ◌∷◌, ◌++◌, length, get_or, set, refl, ap, subst, sym, ◌∙◌, ⊎_elim, arith, length-append, add-one}
use Rattle.std.proofs.lemmas.Bool.{cases_eq}
use Rattle.std.proofs.lemmas.List.{get_or-set_same, get_or-set_other, get_or_default, length-set, map-append, map-set, set-get_or}
use Rattle.std.proofs.Math.ListN.{get_or-map}
use Rattle.search_books.specs.LeaseChains.{Kept, blank, none, chain_of, chains, kept_of, kepts, top, IsWhole}
use Rattle.search_books.specs.declared.lease_chains.Row.{Row}
use Rattle.search_books.proofs.LeaseTops.{top-same, top-past, top-here}

pub get_or-front : (rows : List Row) (row : Row) (i : ℕ) → i < length rows
    → get_or (rows ++ row ∷ []) i blank ≡ get_or rows i blank
get_or-front [] row i low = absurd (omega (arith, low))
get_or-front (y ∷ rows) row zero low = refl
get_or-front (y ∷ rows) row (suc i) low = get_or-front rows row i (omega (arith, low))

pub get_or-end : (rows : List Row) (row : Row) → get_or (rows ++ row ∷ []) (length rows) blank ≡ row
get_or-end [] row = refl
get_or-end (y ∷ rows) row = get_or-end rows row

-- what an index reads
pub read_at : (rows : List Row) (i : ℕ) (row : Row) → row ≡ get_or rows i row → i < length rows
    → row ≡ get_or rows i blank
read_at rows i row is low = is ∙ get_or_default rows i row blank low

pub read_number : (xs : List ℕ) (i x : ℕ) → x ≡ get_or xs i x → i < length xs → x ≡ get_or xs i 0
read_number xs i x is low = is ∙ get_or_default xs i x 0 low

-- what is kept of a row
pub kept-at : (rows : List Row) (i : ℕ) → get_or (kepts rows) i none ≡ kept_of (get_or rows i blank)
kept-at rows i = get_or-map kept_of rows i blank

pub kepts-length : (rows : List Row) → length (kepts rows) ≡ length rows
kepts-length [] = refl
kepts-length (row ∷ rows) = ap (λ (n : ℕ). suc n) (kepts-length rows)

pub kepts-append : (rows : List Row) (row : Row) → kepts (rows ++ row ∷ []) ≡ kepts rows ++ kept_of row ∷ []
kepts-append rows row = map-append kept_of rows (row ∷ [])

-- a pointer changes nothing that is kept
pub kepts-set : (rows : List Row) (i : ℕ) (row : Row) → kepts (set rows i row) ≡ set (kepts rows) i (kept_of row)
kepts-set rows i row = map-set kept_of rows i row

pub kepts-below : (rows : List Row) (i : ℕ) (row : Row) → kept_of row ≡ kept_of (get_or rows i blank)
    → kepts (set rows i row) ≡ kepts rows
kepts-below rows i row same =
    kepts-set rows i row
    ∙ (ap (λ (kept : Kept). set (kepts rows) i kept) (same ∙ sym (kept-at rows i)) ∙ set-get_or (kepts rows) i none)

pub chain-at : (rows : List Row) (i : ℕ) → chains (kepts rows) i ≡ chain_of (kept_of (get_or rows i blank))
chain-at rows i = ap (λ (kept : Kept). chain_of kept) (kept-at rows i)

module _ (heads : List ℕ) (rows : List Row) (row : Row) where
  -- the chains of the rows in front
  front : (i : ℕ) → i < length rows → chains (kepts (rows ++ row ∷ [])) i ≡ chains (kepts rows) i
  front i low =
      chain-at (rows ++ row ∷ []) i
      ∙ (ap (λ (y : Row). chain_of (kept_of y)) (get_or-front rows row i low) ∙ sym (chain-at rows i))

  last : chains (kepts (rows ++ row ∷ [])) (length rows) ≡ chain_of (kept_of row)
  last = chain-at (rows ++ row ∷ []) (length rows) ∙ ap (λ (y : Row). chain_of (kept_of y)) (get_or-end rows row)

  len : length (rows ++ row ∷ []) ≡ suc (length rows)
  len = length-append rows (row ∷ []) ∙ add-one (length rows)

  -- a row joins the chain of a search
  pub linked-push : (s n : ℕ) → IsWhole heads rows → s < length heads → chain_of (kept_of row) ≡ suc s
      → row.below ≡ get_or heads s 0
      → n ≡ length rows + 1 → IsWhole (set heads s n) (rows ++ row ∷ [])
  linked-push s n l s_low chain_is below_is n_is =
      let h = chains (kepts rows) in
      let k = chains (kepts (rows ++ row ∷ [])) in
      let heads_len = length-set heads s n in
      record {
        head = λ c c_set.
            let c_low : c < length heads = omega (arith, c_set, heads_len) in
            (⊎_elim
            (λ (e : c ≡ s).
            subst (λ (d : ℕ). get_or (set heads s n) d 0 ≡ top k (suc d) (suc (length rows))) (sym e)
            (get_or-set_same heads s n 0 s_low
            ∙ (n_is ∙ (add-one (length rows) ∙ sym (top-here k (suc s) (length rows) (last ∙ chain_is))))))
            (λ (ne : c ≢ s).
            let miss : k (length rows) ≢ suc c = λ (bad : k (length rows) ≡ suc c).
            absurd (omega (arith, sym (last ∙ chain_is) ∙ bad, ne)) in
            get_or-set_other heads s c n 0 ne
            ∙ (l.head c c_low
            ∙ (sym (top-same h k (suc c) (length rows) (λ i low. front i low))
            ∙ sym (top-past k (suc c) (length rows) miss))))
            (cases_eq c s)) ∙ ap (λ (v : ℕ). top k (suc c) v) (sym len);
        below = λ i i_low other some.
            ⊎_elim
            (λ (e : i ≡ length rows).
            subst (λ (j : ℕ). (get_or (rows ++ row ∷ []) j blank).below ≡ top k (k j) j) (sym e)
            (ap (λ (y : Row). y.below) (get_or-end rows row)
            ∙ (below_is ∙ (l.head s s_low
            ∙ (sym (top-same h k (suc s) (length rows) (λ j low. front j low))
            ∙ ap (λ (c : ℕ). top k c (length rows)) (sym (last ∙ chain_is)))))))
            (λ (ne : i ≢ length rows).
            let low : i < length rows = omega (arith, i_low, len, ne) in
            let h_some : h i ≢ 0 = λ (bad : h i ≡ 0). some (front i low ∙ bad) in
            ap (λ (y : Row). y.below) (get_or-front rows row i low)
            ∙ (l.below i low (omega (arith, low)) h_some
            ∙ (sym (top-same h k (h i) i (λ j up. front j (omega (arith, up, low))))
            ∙ ap (λ (c : ℕ). top k c i) (sym (front i low)))))
            (cases_eq i (length rows));
      }

  -- what the pointers in front lead to, when the last row goes
  stays : (l : IsWhole heads (rows ++ row ∷ [])) (i : ℕ) → i < length rows → chains (kepts rows) i ≢ 0
      → (get_or rows i blank).below ≡ top (chains (kepts rows)) (chains (kepts rows) i) i
  stays l i low some =
      let h = chains (kepts rows) in
      let k = chains (kepts (rows ++ row ∷ [])) in
      let k_some : k i ≢ 0 = λ (bad : k i ≡ 0). some (sym (front i low) ∙ bad) in
      ap (λ (y : Row). y.below) (sym (get_or-front rows row i low))
      ∙ (l.below i (omega (arith, low, len)) (omega (arith, low, len)) k_some
      ∙ (top-same h k (k i) i (λ j up. front j (omega (arith, up, low)))
      ∙ ap (λ (c : ℕ). top h c i) (front i low)))

  passes : (l : IsWhole heads (rows ++ row ∷ [])) (c : ℕ) → c < length heads → chain_of (kept_of row) ≢ suc c
      → get_or heads c 0 ≡ top (chains (kepts rows)) (suc c) (length rows)
  passes l c c_low ne =
      let h = chains (kepts rows) in
      let k = chains (kepts (rows ++ row ∷ [])) in
      let miss : k (length rows) ≢ suc c = λ (bad : k (length rows) ≡ suc c). ne (sym last ∙ bad) in
      l.head c c_low
      ∙ (ap (λ (v : ℕ). top k (suc c) v) len
      ∙ (top-past k (suc c) (length rows) miss ∙ top-same h k (suc c) (length rows) (λ i low. front i low)))

  -- the last row leaves the chain of a search
  pub linked-pop : (s : ℕ) → IsWhole heads (rows ++ row ∷ []) → s < length heads → chain_of (kept_of row) ≡ suc s
      → IsWhole (set heads s row.below) rows
  linked-pop s l s_low chain_is =
      let h = chains (kepts rows) in
      let k = chains (kepts (rows ++ row ∷ [])) in
      let heads_len = length-set heads s row.below in
      let k_some : k (length rows) ≢ 0 = λ (bad : k (length rows) ≡ 0).
      absurd (omega (arith, sym (last ∙ chain_is) ∙ bad)) in
      record {
        head = λ c c_set.
            let c_low : c < length heads = omega (arith, c_set, heads_len) in
            ⊎_elim
            (λ (e : c ≡ s).
            subst (λ (d : ℕ). get_or (set heads s row.below) d 0 ≡ top h (suc d) (length rows)) (sym e)
            (get_or-set_same heads s row.below 0 s_low
            ∙ (ap (λ (y : Row). y.below) (sym (get_or-end rows row))
            ∙ (l.below (length rows) (omega (arith, len)) (omega (arith, len)) k_some
            ∙ (ap (λ (d : ℕ). top k d (length rows)) (last ∙ chain_is)
            ∙ top-same h k (suc s) (length rows) (λ i low. front i low))))))
            (λ (ne : c ≢ s).
            let other : chain_of (kept_of row) ≢ suc c = λ (bad : chain_of (kept_of row) ≡ suc c).
            absurd (omega (arith, sym chain_is ∙ bad, ne)) in
            get_or-set_other heads s c row.below 0 ne ∙ passes l c c_low other)
            (cases_eq c s);
        below = λ i low other some. stays l i low some;
      }

  -- the last row, which is in no chain, goes
  pub linked-drop : IsWhole heads (rows ++ row ∷ []) → chain_of (kept_of row) ≡ 0 → IsWhole heads rows
  linked-drop l chain_is = record {
    head = λ c c_low. passes l c c_low
        (λ (bad : chain_of (kept_of row) ≡ suc c). absurd (omega (arith, sym chain_is ∙ bad)));
    below = λ i low other some. stays l i low some;
  }
