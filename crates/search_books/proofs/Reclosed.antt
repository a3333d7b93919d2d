-- A book after each change of its rows.
use Rattle.std.proofs.Common.{◌≡◌, ◌≤◌, ◌<◌, ◌+◌, ◌-◌, ℕ, Bool, true, false, List, [], ◌∷◌, ◌++◌, length, get_or, take, replicate, ap, subst, sym, ◌∙◌, arith, length-append}
use Rattle.std.proofs.lemmas.List.{take_all}
use Rattle.search_books.specs.Leases.{marked}
use Rattle.search_books.specs.LeaseChains.{AreKept, IsBook, IsWhole, Kept, helds, held_of, kept_marked, kepts, none}
use Rattle.search_books.specs.declared.lease_chains.Row.{Row}
use Rattle.search_books.proofs.LeaseEnds.{kepts-length}
use Rattle.search_books.proofs.Kepts.{helds-push, helds-take, kept-push, kept-take, kept-wider, leases-length, whole-wider}
use Rattle.search_books.proofs.Marks.{helds-kept_marked, marked-kept}

-- more searches
pub book-wider : (heads heads' : List ℕ) (rows : List Row) (capacity n k : ℕ) → IsBook heads rows capacity
    → heads' ≡ take n heads ++ replicate k 0 → length heads ≤ n → IsBook heads' rows capacity
book-wider heads heads' rows capacity n k b is low =
    let zeros = replicate k 0 in
    let whole : heads' ≡ heads ++ zeros = is ∙ ap (λ (xs : List ℕ). xs ++ zeros) (take_all n heads low) in
    subst (λ (xs : List ℕ). IsBook xs rows capacity) (sym whole)
    (record {
      linked = whole-wider heads rows k b.linked b.kept;
      kept = kept-wider (kepts rows) (length heads) (length (heads ++ zeros))
          (omega (arith, length-append heads zeros)) b.kept;
      fits = b.fits;
    })

module _ (heads heads' : List ℕ) (rows rows' : List Row) (capacity capacity' : ℕ) (b : IsBook heads rows capacity)
    (linked : IsWhole heads' rows') (same_heads : length heads' ≡ length heads)
    (same_capacity : capacity' ≡ capacity) where
  -- what was kept is kept again, below the same bound
  rebound : (kept : List Kept) → kepts rows' ≡ kept → AreKept kept (length heads)
      → AreKept (kepts rows') (length heads')
  rebound kept is a =
      subst (λ (bound : ℕ). AreKept (kepts rows') bound) (sym same_heads)
      (subst (λ (xs : List Kept). AreKept xs (length heads)) (sym is) a)

  -- a lease more
  pub book-added : (k : Kept) → kepts rows' ≡ kepts rows ++ k ∷ [] → length rows' ≡ length rows + 1
      → 1 ≤ capacity - length rows
      → k.lease.run ≡ length rows + 1 → k.lease.search < length heads → k.is_linked ≡ true
      → ((i : ℕ) → i < length rows → (get_or (kepts rows) i none).lease.deadline ≤ k.greatest)
      → k.lease.deadline ≤ k.greatest
      → IsBook heads' rows' capacity'
  book-added k is len room run search inside before own = record {
    linked = linked;
    kept = rebound (kepts rows ++ k ∷ []) is
        (kept-push (kepts rows) k (length heads) b.kept (omega (arith, run, kepts-length rows)) search inside
        (λ i low. before i (omega (arith, low, kepts-length rows))) own);
    fits = omega (arith, len, room, same_capacity);
  }

  -- a lease less
  pub book-taken : kepts rows' ≡ take (length rows - 1) (kepts rows) → length rows' + 1 ≡ length rows
      → IsBook heads' rows' capacity'
  book-taken is len = record {
    linked = linked;
    kept = rebound (take (length rows - 1) (kepts rows)) is
        (kept-take (length rows - 1) (kepts rows) (length heads) b.kept);
    fits = omega (arith, len, same_capacity, b.fits);
  }

  -- other marks
  pub book-marked : (told inside : Bool) (at : ℕ) → (told ≡ false → inside ≡ true)
      → kepts rows' ≡ kept_marked told inside at (kepts rows) → length rows' ≡ length rows
      → IsBook heads' rows' capacity'
  book-marked told inside at own is len = record {
    linked = linked;
    kept = rebound (kept_marked told inside at (kepts rows)) is
        (marked-kept told inside at (kepts rows) (length heads) own b.kept);
    fits = omega (arith, len, same_capacity, b.fits);
  }

module _ (rows rows' : List Row) where
  -- the leases that a book shows then
  pub leases-added : (k : Kept) → kepts rows' ≡ kepts rows ++ k ∷ []
      → helds (kepts rows') ≡ helds (kepts rows) ++ held_of k ∷ []
  leases-added k is = ap (λ (kept : List Kept). helds kept) is ∙ helds-push (kepts rows) k

  pub leases-taken : kepts rows' ≡ take (length rows - 1) (kepts rows)
      → helds (kepts rows') ≡ take (length (helds (kepts rows)) - 1) (helds (kepts rows))
  leases-taken is =
      ap (λ (kept : List Kept). helds kept) is
      ∙ (helds-take (length rows - 1) (kepts rows)
      ∙ ap (λ (n : ℕ). take (n - 1) (helds (kepts rows))) (sym (leases-length rows)))

  pub leases-marked : (told linked : Bool) (at : ℕ) → kepts rows' ≡ kept_marked told linked at (kepts rows)
      → helds (kepts rows') ≡ marked told at (helds (kepts rows))
  leases-marked told linked at is =
      ap (λ (kept : List Kept). helds kept) is ∙ helds-kept_marked told linked at (kepts rows)
