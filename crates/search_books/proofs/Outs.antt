-- The positions of the leases that are out, of the first so many leases.
use Rattle.std.proofs.Common.{◌≡◌, ◌≢◌, ◌≤◌, ◌<◌, ◌+◌, ◌&&◌, ◌==◌, ℕ, zero, suc, not, nat_lt, Bool, true, false, cond, List, [], ◌∷◌, ◌++◌, filter, length, map, get_or, take, refl, ap, sym, ◌∙◌, ⊎_elim, arith}
use Rattle.std.proofs.lemmas.Bool.{cases_eq, cases_Bool}
use Rattle.std.proofs.lemmas.Bool.Decides.{nat_tests}
use Rattle.std.proofs.lemmas.List.{append-nil, get_or-map, map-append, take_all, take_more}
use Rattle.std.proofs.lemmas.List.Elements.{filter-append}
use Rattle.farm_types.specs.declared.stage.Stage.{Stage}
use Rattle.search_books.specs.Leases.{Held}
use Rattle.search_books.specs.Outstanding.{is_awaited, is_out, is_waiting, positions_out, same_stage}
use Rattle.search_books.specs.LeaseChains.{AreTimed, AreWaiting, Kept, chain_of, chains, held_of, helds, none, top}
use Rattle.search_books.proofs.LeaseTops.{top-le, top-gap}
use Rattle.search_books.proofs.Kepts.{helds-length}

answered_no : (a c : Bool) → (a && (not true && c)) ≡ false
answered_no true c = refl
answered_no false c = refl

late_no : (a b c : Bool) → (a && (b && (c && false))) ≡ false
late_no true true true = refl
late_no true true false = refl
late_no true false c = refl
late_no false b c = refl

module _ (s : ℕ) (stage : Stage) (m : ℕ) where
  -- the positions among the first n leases
  abbrev pub outs : List Kept → ℕ → List ℕ
  outs kept n = positions_out s stage m (take n (helds kept))

  positions-append : (xs ys : List Held)
      → positions_out s stage m (xs ++ ys) ≡ positions_out s stage m xs ++ positions_out s stage m ys
  positions-append xs ys =
      ap (λ (zs : List Held). map (λ (held : Held). held.lease.position) zs) (filter-append (is_out s stage m) xs ys)
      ∙ map-append (λ (held : Held). held.lease.position) (filter (is_out s stage m) xs)
      (filter (is_out s stage m) ys)

  one-hit : (held : Held) → is_out s stage m held ≡ true
      → positions_out s stage m (held ∷ []) ≡ held.lease.position ∷ []
  one-hit held is = rw is refl

  one-miss : (held : Held) → is_out s stage m held ≡ false → positions_out s stage m (held ∷ []) ≡ []
  one-miss held is = rw is refl

  module _ (kept : List Kept) where
    outs-more : (n : ℕ) → n < length kept
        → outs kept (n + 1) ≡ outs kept n ++ positions_out s stage m (held_of (get_or kept n none) ∷ [])
    outs-more n low =
        let len = helds-length kept in
        ap (λ (xs : List Held). positions_out s stage m xs)
        (take_more (helds kept) n (held_of none) (omega (arith, low, len)))
        ∙ (positions-append (take n (helds kept)) (get_or (helds kept) n (held_of none) ∷ [])
        ∙ ap (λ (x : Held). outs kept n ++ positions_out s stage m (x ∷ []))
        (get_or-map held_of kept n none (held_of none) low))

    -- a lease that is out
    pub outs-hit : (n : ℕ) → n < length kept → is_out s stage m (held_of (get_or kept n none)) ≡ true
        → outs kept (n + 1) ≡ outs kept n ++ (get_or kept n none).lease.position ∷ []
    outs-hit n low is =
        outs-more n low ∙ ap (λ (xs : List ℕ). outs kept n ++ xs) (one-hit (held_of (get_or kept n none)) is)

    -- a lease that isn't
    pub outs-miss : (n : ℕ) → n < length kept → is_out s stage m (held_of (get_or kept n none)) ≡ false
        → outs kept (n + 1) ≡ outs kept n
    outs-miss n low is =
        outs-more n low
        ∙ (ap (λ (xs : List ℕ). outs kept n ++ xs) (one-miss (held_of (get_or kept n none)) is)
        ∙ append-nil (outs kept n))

    -- leases of which none is out
    pub outs-gap : (a n : ℕ) → a ≤ n → n ≤ length kept
        → ((i : ℕ) → a ≤ i → i < n → is_out s stage m (held_of (get_or kept i none)) ≡ false)
        → outs kept n ≡ outs kept a
    outs-gap a zero up low misses =
        let e : 0 ≡ a = omega (arith, up) in ap (λ (i : ℕ). outs kept i) e
    outs-gap a (suc n) up low misses =
        ⊎_elim
        (λ (e : a ≡ suc n). ap (λ (i : ℕ). outs kept i) (sym e))
        (λ (ne : a ≢ suc n).
        let up' : a ≤ n = omega (arith, up, ne) in
        let next : suc n ≡ n + 1 = omega arith in
        ap (λ (i : ℕ). outs kept i) next
        ∙ (outs-miss n (omega (arith, low)) (misses n up' (omega arith))
        ∙ outs-gap a n up' (omega (arith, low)) (λ i from to. misses i from (omega (arith, to)))))
        (cases_eq a (suc n))

    pub outs-all : outs kept (length kept) ≡ positions_out s stage m (helds kept)
    outs-all =
        ap (λ (xs : List Held). positions_out s stage m xs)
        (take_all (length kept) (helds kept) (omega (arith, helds-length kept)))

  -- a lease that isn't in this search's chain
  pub out-elsewhere : (k : Kept) → (k.is_answered ≡ false → k.is_linked ≡ true) → chain_of k ≢ suc s
      → is_out s stage m (held_of k) ≡ false
  out-elsewhere k waits ne =
      ⊎_elim
      (λ (e : k.is_answered ≡ true).
      ap (λ (b : Bool). (k.lease.search == s) && (not b && is_awaited stage m k.lease)) e
      ∙ answered_no (k.lease.search == s) (is_awaited stage m k.lease))
      (λ (e : k.is_answered ≡ false).
      let other : (k.lease.search == s) ≡ false =
      ⊎_elim
      (λ (same : k.lease.search ≡ s).
      absurd (ne (ap (λ (b : Bool). cond b (suc k.lease.search) 0) (waits e) ∙ ap (λ (n : ℕ). suc n) same)))
      (λ (far : k.lease.search ≢ s). grind (arith, nat_tests, far))
      (cases_eq k.lease.search s) in
      ap (λ (b : Bool). b && is_waiting stage m (held_of k)) other)
      (cases_Bool k.is_answered)

  -- a lease that is in this search's chain
  pub out-here : (k : Kept) → chain_of k ≡ suc s → is_out s stage m (held_of k) ≡ is_waiting stage m (held_of k)
  out-here k is =
      ⊎_elim
      (λ (e : k.is_linked ≡ true).
      let same : suc k.lease.search ≡ suc s = sym (ap (λ (b : Bool). cond b (suc k.lease.search) 0) e) ∙ is in
      let here : k.lease.search ≡ s = omega (arith, same) in
      let test : (k.lease.search == s) ≡ true = grind (arith, nat_tests, here) in
      ap (λ (b : Bool). b && is_waiting stage m (held_of k)) test)
      (λ (e : k.is_linked ≡ false).
      let bad : 0 ≡ suc s = sym (ap (λ (b : Bool). cond b (suc k.lease.search) 0) e) ∙ is in
      absurd (omega (arith, bad)))
      (cases_Bool k.is_linked)

  -- no row between a pointer and the row that it leads on from is out
  pub outs-top : (kept : List Kept) (n : ℕ) → AreWaiting kept → n ≤ length kept
      → outs kept n ≡ outs kept (top (chains kept) (suc s) n)
  outs-top kept n waits low =
      outs-gap kept (top (chains kept) (suc s) n) n (top-le (chains kept) (suc s) n) low
      (λ i from to.
      out-elsewhere (get_or kept i none) (waits i (omega (arith, to, low)))
      (top-gap (chains kept) (suc s) n i from to))

  out_late : (k : Kept) → k.lease.deadline ≤ m → is_out s stage m (held_of k) ≡ false
  out_late k late =
      let test : nat_lt m k.lease.deadline ≡ false = grind (arith, nat_tests, late) in
      ap (λ (b : Bool). (k.lease.search == s) && (not k.is_answered && (same_stage k.lease.stage stage && b))) test
      ∙ late_no (k.lease.search == s) (not k.is_answered) (same_stage k.lease.stage stage)

  -- where no deadline lies later, nothing is out
  pub outs-late : (kept : List Kept) (i : ℕ) → AreTimed kept → i < length kept → (get_or kept i none).greatest ≤ m
      → outs kept (i + 1) ≡ []
  outs-late kept i timed low late =
      outs-gap kept 0 (i + 1) (omega arith) (omega (arith, low))
      (λ k from to. out_late (get_or kept k none) (omega (arith, timed k i (omega (arith, to)) low, late)))
