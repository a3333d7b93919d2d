-- The chains when a lease is answered, or waits again.
use Rattle.std.proofs.Common.{◌≡◌, ◌≢◌, ◌<◌, ◌+◌, ℕ, suc, true, false, cond, nat_eq, List, length, get_or, set, refl, ap, subst, sym, ◌∙◌, ⊎_elim, arith, add-one}
use Rattle.std.proofs.lemmas.Bool.{cases_eq}
use Rattle.std.proofs.lemmas.Bool.Decides.{nat_tests}
use Rattle.std.proofs.lemmas.List.{get_or-set_same, get_or-set_other, length-set}
use Rattle.search_books.specs.LeaseChains.{Kept, blank, chain_of, chains, kept_of, kepts, top, IsLinked, IsMoved, IsWhole}
use Rattle.search_books.specs.declared.lease_chains.Row.{Row}
use Rattle.search_books.proofs.LeaseTops.{top-past, top-here, top-same}
use Rattle.search_books.proofs.LeaseMoves.{moved-below}
use Rattle.search_books.proofs.LeaseEnds.{chain-at}

-- h, but for the row `at`
abbrev pub but : (ℕ → ℕ) → ℕ → ℕ → ℕ → ℕ
but h at b i = cond (nat_eq i at) b (h i)

pub but-here : (h : ℕ → ℕ) (at b : ℕ) → but h at b at ≡ b
but-here h at b = let test : nat_eq at at ≡ true = grind (arith, nat_tests) in rw test refl

pub but-other : (h : ℕ → ℕ) (at b i : ℕ) → i ≢ at → but h at b i ≡ h i
but-other h at b i ne = let test : nat_eq i at ≡ false = grind (arith, nat_tests) in rw test refl

module _ (h : ℕ → ℕ) (at s : ℕ) where
  -- the row leaves its chain
  pub moved-out : h at ≡ suc s → IsMoved h (but h at 0) at (suc s)
  moved-out is = record {
    others = λ i ne. but-other h at 0 i ne;
    before = λ ne. absurd (ne is);
    after = λ ne. but-here h at 0;
  }

  pub to-out : h at ≡ suc s → top h (suc s) at ≡ top (but h at 0) (suc s) (suc at)
  to-out is =
      let miss : but h at 0 at ≢ suc s = λ (bad : but h at 0 at ≡ suc s).
      absurd (omega (arith, sym (but-here h at 0) ∙ bad)) in
      sym (moved-below h (but h at 0) at (suc s) (moved-out is) (suc s) at (omega arith))
      ∙ sym (top-past (but h at 0) (suc s) at miss)

  -- the row comes to a chain
  pub moved-in : h at ≡ 0 → IsMoved h (but h at (suc s)) at (suc s)
  moved-in is = record {
    others = λ i ne. but-other h at (suc s) i ne;
    before = λ ne. is;
    after = λ ne. absurd (ne (but-here h at (suc s)));
  }

  pub to-in : at + 1 ≡ top (but h at (suc s)) (suc s) (suc at)
  to-in = add-one at ∙ sym (top-here (but h at (suc s)) (suc s) at (but-here h at (suc s)))

  pub below-in : h at ≡ 0 → top h (suc s) (suc at) ≡ top (but h at (suc s)) (suc s) at
  below-in is =
      let miss : h at ≢ suc s = λ (bad : h at ≡ suc s). absurd (omega (arith, sym is ∙ bad)) in
      top-past h (suc s) at miss
      ∙ sym (moved-below h (but h at (suc s)) at (suc s) (moved-in is) (suc s) at (omega arith))

-- the pointer from one row is left out
pub linked-skip : (h : ℕ → ℕ) (at : ℕ) (heads : List ℕ) (rows : List Row) → IsLinked h (length rows) heads rows
    → IsLinked h at heads rows
linked-skip h at heads rows l = record {
  head = l.head;
  below = λ i low other some. l.below i low (omega (arith, low)) some;
}

-- a row is written, and all pointers lead on
pub replaced : (k : ℕ → ℕ) (heads : List ℕ) (rows : List Row) (at : ℕ) (row : Row) → IsLinked k at heads rows
    → at < length rows
    → ((i : ℕ) → i ≢ at → chains (kepts rows) i ≡ k i) → chain_of (kept_of row) ≡ k at
    → (k at ≢ 0 → row.below ≡ top k (k at) at)
    → IsWhole heads (set rows at row)
replaced k heads rows at row l at_low others is below =
    let q = chains (kepts (set rows at row)) in
    let len = length-set rows at row in
    let same : (i : ℕ) → q i ≡ k i = λ i.
    ⊎_elim
    (λ (e : i ≡ at).
    subst (λ (j : ℕ). q j ≡ k j) (sym e)
    (chain-at (set rows at row) at
    ∙ (ap (λ (x : Row). chain_of (kept_of x)) (get_or-set_same rows at row blank at_low) ∙ is)))
    (λ (ne : i ≢ at).
    chain-at (set rows at row) i
    ∙ (ap (λ (x : Row). chain_of (kept_of x)) (get_or-set_other rows at i row blank ne)
    ∙ (sym (chain-at rows i) ∙ others i ne)))
    (cases_eq i at) in
    record {
      head = λ c c_low.
          l.head c c_low
          ∙ (sym (top-same k q (suc c) (length rows) (λ i low. same i)) ∙ ap (λ (n : ℕ). top q (suc c) n) (sym len));
      below = λ i i_set other some.
          let within : i < length rows = omega (arith, i_set, len) in
          let k_some : k i ≢ 0 = λ (bad : k i ≡ 0). some (same i ∙ bad) in
          ⊎_elim
          (λ (e : i ≡ at).
          let at_some : k at ≢ 0 = subst (λ (j : ℕ). k j ≢ 0) e k_some in
          subst (λ (j : ℕ). (get_or (set rows at row) j blank).below ≡ top q (q j) j) (sym e)
          (ap (λ (x : Row). x.below) (get_or-set_same rows at row blank at_low)
          ∙ (below at_some
          ∙ (ap (λ (c : ℕ). top k c at) (sym (same at)) ∙ sym (top-same k q (q at) at (λ j low. same j))))))
          (λ (ne : i ≢ at).
          ap (λ (x : Row). x.below) (get_or-set_other rows at i row blank ne)
          ∙ (l.below i within ne k_some
          ∙ (ap (λ (c : ℕ). top k c i) (sym (same i)) ∙ sym (top-same k q (q i) i (λ j low. same j)))))
          (cases_eq i at);
    }

module _ (heads : List ℕ) (rows rows' : List Row) (at s : ℕ) (row : Row)
    (same : kepts rows' ≡ kepts rows) (low : at < length rows') where
  -- a lease was answered
  pub closed-whole : IsLinked (but (chains (kepts rows)) at 0) at heads rows' → chain_of (kept_of row) ≡ 0
      → IsWhole heads (set rows' at row)
  closed-whole l is =
      let h = chains (kepts rows) in
      replaced (but h at 0) heads rows' at row l low
      (λ i ne. ap (λ (kept : List Kept). chains kept i) same ∙ sym (but-other h at 0 i ne)) (is
      ∙ sym (but-here h at 0))
      (λ some. absurd (some (but-here h at 0)))

  -- a lease waits again
  pub reopened-whole : IsLinked (but (chains (kepts rows)) at (suc s)) at heads rows' → chains (kepts rows) at ≡ 0
      → chain_of (kept_of row) ≡ suc s → row.below ≡ top (chains (kepts rows)) (suc s) (suc at)
      → IsWhole heads (set rows' at row)
  reopened-whole l none_is is below_is =
      let h = chains (kepts rows) in
      let k = but h at (suc s) in
      replaced k heads rows' at row l low
      (λ i ne. ap (λ (kept : List Kept). chains kept i) same ∙ sym (but-other h at (suc s) i ne)) (is
      ∙ sym (but-here h at (suc s)))
      (λ some. below_is ∙ (below-in h at s none_is ∙ ap (λ (c : ℕ). top k c at) (sym (but-here h at (suc s)))))

-- a row of a chain has other marks, and stays in the chain
pub marked-whole : (heads : List ℕ) (rows : List Row) (at : ℕ) (row : Row) → IsWhole heads rows → at < length rows
    → chain_of (kept_of row) ≡ chains (kepts rows) at → row.below ≡ (get_or rows at blank).below
    → IsWhole heads (set rows at row)
marked-whole heads rows at row l low is below_is =
    replaced (chains (kepts rows)) heads rows at row (linked-skip (chains (kepts rows)) at heads rows l) low
    (λ i ne. refl) is (λ some. below_is ∙ l.below at low (omega (arith, low)) some)
