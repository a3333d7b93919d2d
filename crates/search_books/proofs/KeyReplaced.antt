-- The chains when an item gets another key.
use Rattle.std.proofs.Common.{◌≡◌, ◌≢◌, ◌<◌, ◌+◌, ℕ, zero, suc, true, false, cond, nat_eq, List, [], ◌∷◌, length, get_or, set, refl, ap, subst, sym, ◌∙◌, ⊎_elim, arith, add-one}
use Rattle.std.proofs.lemmas.Bool.{cases_eq}
use Rattle.std.proofs.lemmas.Bool.Decides.{nat_tests}
use Rattle.std.proofs.lemmas.List.{get_or-set_same, get_or-set_other, length-set}
use Rattle.search_books.specs.Bucket.{home_of}
use Rattle.search_books.specs.KeyChains.{blank, homes, top, IsLinked, IsMoved}
use Rattle.search_books.specs.KeyTable.{entry_of, entries_of}
use Rattle.search_books.specs.declared.key_chains.Item.{Item}
use Rattle.search_books.proofs.KeyTops.{top-past, top-here}
use Rattle.search_books.proofs.KeyMoves.{moved-below}
use Rattle.search_books.proofs.KeyEnds.{linked-same}

-- h, but for the item `at`
abbrev pub but : (ℕ → ℕ) → ℕ → ℕ → ℕ → ℕ
but h at b i = cond (nat_eq i at) b (h i)

pub but-here : (h : ℕ → ℕ) (at b : ℕ) → but h at b at ≡ b
but-here h at b = let test : nat_eq at at ≡ true = grind (arith, nat_tests) in rw test refl

pub but-other : (h : ℕ → ℕ) (at b i : ℕ) → i ≢ at → but h at b i ≡ h i
but-other h at b i ne = let test : nat_eq i at ≡ false = grind (arith, nat_tests) in rw test refl

module _ (h : ℕ → ℕ) (at size : ℕ) where
  -- the item leaves its bucket
  pub moved-out : IsMoved h (but h at size) at (h at) size
  moved-out = record {
    others = λ i ne. but-other h at size i ne;
    before = λ ne. absurd (ne refl);
    after = λ ne. omega (arith, but-here h at size);
  }

  -- and comes to another
  pub moved-in : (b : ℕ) → IsMoved (but h at size) (but h at b) at b size
  moved-in b = record {
    others = λ i ne. but-other h at b i ne ∙ sym (but-other h at size i ne);
    before = λ ne. omega (arith, but-here h at size);
    after = λ ne. absurd (ne (but-here h at b));
  }

  pub to-out : h at < size → top h (h at) at ≡ top (but h at size) (h at) (suc at)
  to-out low =
      let miss : but h at size at ≢ h at = λ (bad : but h at size at ≡ h at).
      absurd (omega (arith, bad, low, but-here h at size)) in
      sym (moved-below h (but h at size) at (h at) size moved-out (h at) at (omega arith))
      ∙ sym (top-past (but h at size) (h at) at miss)

  pub to-in : (b : ℕ) → at + 1 ≡ top (but h at b) b (suc at)
  to-in b = add-one at ∙ sym (top-here (but h at b) b at (but-here h at b))

  pub below-in : (b : ℕ) → b < size → top (but h at size) b (suc at) ≡ top (but h at b) b at
  below-in b low =
      let miss : but h at size at ≢ b = λ (bad : but h at size at ≡ b).
      absurd (omega (arith, bad, low, but-here h at size)) in
      top-past (but h at size) b at miss
      ∙ sym (moved-below (but h at size) (but h at b) at b size (moved-in b) b at (omega arith))

-- the pointer from one item is left out
pub linked-skip : (h : ℕ → ℕ) (at : ℕ) (heads : List ℕ) (items : List Item) → IsLinked h (length items) heads items
    → IsLinked h at heads items
linked-skip h at heads items l = record {
  head = l.head;
  below = λ i low other. l.below i low (omega (arith, low));
  home = λ i low other. l.home i low (omega (arith, low));
}

-- and is set
pub linked-whole : (h : ℕ → ℕ) (at : ℕ) (heads : List ℕ) (items : List Item) (item : Item) → IsLinked h at heads items
    → at < length items
    → item.below ≡ top h (h at) at → h at < length heads
    → IsLinked h (length (set items at item)) heads (set items at item)
linked-whole h at heads items item l low is home_low =
    let len = length-set items at item in
    record {
      head = λ c c_low. l.head c c_low ∙ ap (λ (n : ℕ). top h c n) (sym len);
      below = λ i i_low other.
          ⊎_elim
          (λ (e : i ≡ at).
          subst (λ (j : ℕ). (get_or (set items at item) j blank).below ≡ top h (h j) j) (sym e)
          (ap (λ (x : Item). x.below) (get_or-set_same items at item blank low) ∙ is))
          (λ (ne : i ≢ at). ap (λ (x : Item). x.below) (get_or-set_other items at i item blank ne)
          ∙ l.below i (omega (arith, i_low, len)) ne)
          (cases_eq i at);
      home = λ i i_low other.
          ⊎_elim
          (λ (e : i ≡ at). subst (λ (j : ℕ). h j < length heads) (sym e) home_low)
          (λ (ne : i ≢ at). l.home i (omega (arith, i_low, len)) ne)
          (cases_eq i at);
    }

-- all of it, where the keys of the other items stayed
pub replaced : (heads : List ℕ) (items0 items : List Item) (at : ℕ) (item : Item) (size : ℕ) → size ≡ length heads
    → IsLinked (but (homes size items0) at (home_of size item.key)) at heads items
    → length items ≡ length items0
    → ((i : ℕ) → (get_or items i blank).key ≡ (get_or items0 i blank).key)
    → at < length items → item.below ≡ top (but (homes size items0) at (home_of size item.key))
    (home_of size item.key) at
    → home_of size item.key < size
    → IsLinked (homes size (set items at item)) (length (set items at item)) heads (set items at item)
replaced heads items0 items at item size size_is l len keys low is home_low =
    let h = homes size items0 in
    let b = home_of size item.key in
    let k = but h at b in
    let whole = linked-whole k at heads items item l low (is ∙ ap (λ (c : ℕ). top k c at) (sym (but-here h at b)))
    (omega (arith, but-here h at b, home_low, size_is)) in
    linked-same k (homes size (set items at item)) (length (set items at item)) heads (set items at item)
    (λ i i_low.
    ⊎_elim
    (λ (e : i ≡ at).
    subst (λ (j : ℕ). homes size (set items at item) j ≡ k j) (sym e)
    (ap (λ (x : Item). home_of size x.key) (get_or-set_same items at item blank low) ∙ sym (but-here h at b)))
    (λ (ne : i ≢ at).
    ap (λ (x : Item). home_of size x.key) (get_or-set_other items at i item blank ne)
    ∙ (ap (λ (key : ℕ). home_of size key) (keys i) ∙ sym (but-other h at b i ne)))
    (cases_eq i at))
    whole

pub entries-same : (xs ys : List Item) → length xs ≡ length ys
    → ((i : ℕ) → (get_or xs i blank).key ≡ (get_or ys i blank).key)
    → ((i : ℕ) → (get_or xs i blank).place ≡ (get_or ys i blank).place)
    → entries_of xs ≡ entries_of ys
entries-same [] [] len keys places = refl
entries-same [] (y ∷ ys) len keys places = absurd (omega (arith, len))
entries-same (x ∷ xs) [] len keys places = absurd (omega (arith, len))
entries-same (x ∷ xs) (y ∷ ys) len keys places =
    let first : entry_of x ≡ entry_of y = rw (keys 0, places 0) refl in
    rw (first, entries-same xs ys (omega (arith, len)) (λ i. keys (suc i)) (λ i. places (suc i))) refl

pub entries-set : (xs : List Item) (i : ℕ) (x : Item) → entries_of (set xs i x) ≡ set (entries_of xs) i (entry_of x)
entries-set [] i x = refl
entries-set (y ∷ xs) zero x = refl
entries-set (y ∷ xs) (suc i) x = ap (λ (rest : List (ℕ × ℕ)). entry_of y ∷ rest) (entries-set xs i x)
