-- What is kept when leases are added and taken back.
use Rattle.std.proofs.Common.{◌≡◌, ◌≢◌, ◌≤◌, ◌<◌, ◌+◌, ◌-◌, ℕ, suc, Bool, List, [], ◌∷◌, ◌++◌, length, get_or, take, refl, ap, subst, sym, ◌∙◌, ⊎_elim, arith, replicate, cond, true, false, length-append}
use Rattle.std.proofs.lemmas.Bool.{cases_Bool, cases_eq, cases_lt}
use Rattle.std.proofs.lemmas.List.{get_or-append_right, get_or-replicate, get_or-take, get_or_append_left, get_or_push, length-replicate, length-take, take-map, take_at}
use Rattle.search_books.specs.Leases.{Held}
use Rattle.search_books.specs.LeaseChains.{AreKept, IsWhole, Kept, chain_of, chains, held_of, helds, kept_of, kepts, none}
use Rattle.search_books.specs.declared.lease_chains.Row.{Row}
use Rattle.search_books.proofs.LeaseEnds.{get_or-end, kept-at, kepts-append, kepts-length}
use Rattle.search_books.proofs.LeaseTops.{top-none}

pub helds-length : (kept : List Kept) → length (helds kept) ≡ length kept
helds-length [] = refl
helds-length (k ∷ kept) = ap (λ (n : ℕ). suc n) (helds-length kept)

-- how many leases a book shows
pub leases-length : (rows : List Row) → length (helds (kepts rows)) ≡ length rows
leases-length rows = helds-length (kepts rows) ∙ kepts-length rows

pub helds-push : (kept : List Kept) (k : Kept) → helds (kept ++ k ∷ []) ≡ helds kept ++ held_of k ∷ []
helds-push [] k = refl
helds-push (x ∷ kept) k = ap (λ (rest : List Held). held_of x ∷ rest) (helds-push kept k)

pub helds-take : (n : ℕ) (kept : List Kept) → helds (take n kept) ≡ take n (helds kept)
helds-take n kept = sym (take-map held_of n kept)

-- a lease more
pub kept-push : (kept : List Kept) (k : Kept) (bound : ℕ) → AreKept kept bound → k.lease.run ≡ length kept + 1
    → k.lease.search < bound
    → k.is_linked ≡ true
    → ((i : ℕ) → i < length kept → (get_or kept i none).lease.deadline ≤ k.greatest) → k.lease.deadline ≤ k.greatest
    → AreKept (kept ++ k ∷ []) bound
kept-push kept k bound a run search inside before own =
    let len : length (kept ++ k ∷ []) ≡ length kept + 1 = length-append kept (k ∷ []) in
    let front : (i : ℕ) → i < length kept → get_or (kept ++ k ∷ []) i none ≡ get_or kept i none =
    λ i low. get_or_append_left kept (k ∷ []) none i low in
    let end : get_or (kept ++ k ∷ []) (length kept) none ≡ k = get_or_push kept k none (length kept) refl in
    record {
      numbered = λ i low.
          ⊎_elim
          (λ (e : i ≡ length kept).
          subst (λ (j : ℕ). (get_or (kept ++ k ∷ []) j none).lease.run ≡ j + 1) (sym e)
          (ap (λ (x : Kept). x.lease.run) end ∙ run))
          (λ (ne : i ≢ length kept).
          let low' : i < length kept = omega (arith, low, len, ne) in
          ap (λ (x : Kept). x.lease.run) (front i low') ∙ a.numbered i low')
          (cases_eq i (length kept));
      searches = λ i low.
          ⊎_elim
          (λ (e : i ≡ length kept).
          subst (λ (j : ℕ). (get_or (kept ++ k ∷ []) j none).lease.search < bound) (sym e)
          (omega (arith, ap (λ (x : Kept). x.lease.search) end, search)))
          (λ (ne : i ≢ length kept).
          let low' : i < length kept = omega (arith, low, len, ne) in
          omega (arith, ap (λ (x : Kept). x.lease.search) (front i low'), a.searches i low'))
          (cases_eq i (length kept));
      waiting = λ i low waits.
          ⊎_elim
          (λ (e : i ≡ length kept).
          subst (λ (j : ℕ). (get_or (kept ++ k ∷ []) j none).is_linked ≡ true) (sym e)
          (ap (λ (x : Kept). x.is_linked) end ∙ inside))
          (λ (ne : i ≢ length kept).
          let low' : i < length kept = omega (arith, low, len, ne) in
          ap (λ (x : Kept). x.is_linked) (front i low')
          ∙ a.waiting i low' (sym (ap (λ (x : Kept). x.is_answered) (front i low')) ∙ waits))
          (cases_eq i (length kept));
      timed = λ j i up low.
          ⊎_elim
          (λ (e : i ≡ length kept).
          let greatest : (get_or (kept ++ k ∷ []) i none).greatest ≡ k.greatest =
          subst (λ (n : ℕ). (get_or (kept ++ k ∷ []) n none).greatest ≡ k.greatest) (sym e)
          (ap (λ (x : Kept). x.greatest) end) in
          ⊎_elim
          (λ (je : j ≡ length kept).
          let deadline : (get_or (kept ++ k ∷ []) j none).lease.deadline ≡ k.lease.deadline =
          subst (λ (n : ℕ). (get_or (kept ++ k ∷ []) n none).lease.deadline ≡ k.lease.deadline) (sym je)
          (ap (λ (x : Kept). x.lease.deadline) end) in
          omega (arith, greatest, deadline, own))
          (λ (jne : j ≢ length kept).
          let low' : j < length kept = omega (arith, up, low, len, jne) in
          omega (arith, greatest, ap (λ (x : Kept). x.lease.deadline) (front j low'), before j low'))
          (cases_eq j (length kept)))
          (λ (ne : i ≢ length kept).
          let low' : i < length kept = omega (arith, low, len, ne) in
          let low_j : j < length kept = omega (arith, low', up) in
          omega (
            arith,
            ap (λ (x : Kept). x.greatest) (front i low'),
            ap (λ (x : Kept). x.lease.deadline) (front j low_j),
            a.timed j i up low',
          ))
          (cases_eq i (length kept));
    }

-- a lease less
pub kept-take : (n : ℕ) (kept : List Kept) (bound : ℕ) → AreKept kept bound → AreKept (take n kept) bound
kept-take n kept bound a =
    let len = length-take n kept in
    record {
      numbered = λ i low.
          ap (λ (x : Kept). x.lease.run) (get_or-take n kept i none (omega (arith, low, len)))
          ∙ a.numbered i (omega (arith, low, len));
      searches = λ i low.
          omega (
            arith,
            ap (λ (x : Kept). x.lease.search) (get_or-take n kept i none (omega (arith, low, len))),
            a.searches i (omega (arith, low, len)),
          );
      waiting = λ i low waits.
          let same = get_or-take n kept i none (omega (arith, low, len)) in
          ap (λ (x : Kept). x.is_linked) same
          ∙ a.waiting i (omega (arith, low, len)) (sym (ap (λ (x : Kept). x.is_answered) same) ∙ waits);
      timed = λ k i up low.
          omega (
            arith,
            ap (λ (x : Kept). x.greatest) (get_or-take n kept i none (omega (arith, low, len))),
            ap (λ (x : Kept). x.lease.deadline) (get_or-take n kept k none (omega (arith, up, low, len))),
            a.timed k i up (omega (arith, low, len)),
          );
    }

-- more searches
pub kept-wider : (kept : List Kept) (bound wider : ℕ) → bound ≤ wider → AreKept kept bound → AreKept kept wider
kept-wider kept bound wider more a = record {
  numbered = a.numbered;
  searches = λ i low. omega (arith, a.searches i low, more);
  waiting = a.waiting;
  timed = a.timed;
}

-- the newest lease, and what is left without it
module _ (old new : List Row) (row : Row) (is : old ≡ new ++ row ∷ []) where
  length_is : length old ≡ length new + 1
  length_is = ap (λ (rows : List Row). length rows) is ∙ length-append new (row ∷ [])

  pub last-kept : get_or (kepts old) (length old - 1) none ≡ kept_of row
  last-kept =
      let at : length old - 1 ≡ length new = omega (arith, length_is) in
      ap (λ (n : ℕ). get_or (kepts old) n none) at
      ∙ (ap (λ (rows : List Row). get_or (kepts rows) (length new) none) is
      ∙ (kept-at (new ++ row ∷ []) (length new) ∙ ap (λ (x : Row). kept_of x) (get_or-end new row)))

  pub kept-rest : kepts new ≡ take (length old - 1) (kepts old)
  kept-rest =
      let at : length (kepts new) ≡ length old - 1 = omega (arith, kepts-length new, length_is) in
      sym (take_at (kepts new) (kept_of row ∷ []) (length old - 1) at)
      ∙ ap (λ (kept : List Kept). take (length old - 1) kept)
      (sym (ap (λ (rows : List Row). kepts rows) is ∙ kepts-append new row))

-- a lease of a search below the bound stands in no chain past it
pub chain-low : (k : Kept) (bound s : ℕ) → k.lease.search < bound → bound ≤ s → chain_of k ≢ suc s
chain-low k bound s low up =
    λ (bad : chain_of k ≡ suc s).
    ⊎_elim
    (λ (e : k.is_linked ≡ true).
    let same : suc k.lease.search ≡ suc s = sym (ap (λ (b : Bool). cond b (suc k.lease.search) 0) e) ∙ bad in
    absurd (omega (arith, same, low, up)))
    (λ (e : k.is_linked ≡ false).
    let none_is : 0 ≡ suc s = sym (ap (λ (b : Bool). cond b (suc k.lease.search) 0) e) ∙ bad in
    absurd (omega (arith, none_is)))
    (cases_Bool k.is_linked)

-- more searches, which have no leases yet
pub whole-wider : (heads : List ℕ) (rows : List Row) (n : ℕ) → IsWhole heads rows
    → AreKept (kepts rows) (length heads)
    → IsWhole (heads ++ replicate n 0) rows
whole-wider heads rows n l a = record {
  head = λ s s_low.
      let len : length (heads ++ replicate n 0) ≡ length heads + n =
      length-append heads (replicate n 0) ∙ ap (λ (k : ℕ). length heads + k) (length-replicate n 0) in
      ⊎_elim
      (λ (low : s < length heads). get_or_append_left heads (replicate n 0) 0 s low ∙ l.head s low)
      (λ (up : length heads ≤ s).
      get_or-append_right heads (replicate n 0) (length heads) s 0 refl up
      ∙ (get_or-replicate n (s - length heads) 0 0 (omega (arith, s_low, len, up))
      ∙ sym (top-none (chains (kepts rows)) (suc s) (length rows)
      (λ i low. chain-low (get_or (kepts rows) i none) (length heads) s
      (a.searches i (omega (arith, low, kepts-length rows))) up))))
      (cases_lt s (length heads));
  below = l.below;
}

-- a run that a book shows has its row
pub run-low : (rows : List Row) (run shown : ℕ) → shown ≡ length (helds (kepts rows)) → 0 < run → run ≤ shown
    → run - 1 < length rows
run-low rows run shown is above known = omega (arith, is, leases-length rows, above, known)
