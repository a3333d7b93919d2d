-- The look along a search's chain.
use Rattle.std.proofs.Common.{◌≡◌, ◌≢◌, ◌≤◌, ◌<◌, ◌+◌, ℕ, suc, Bool, true, false, List, [], ◌∷◌, ◌++◌, length, get_or, drop, if◌then◌else◌, ap, sym, ◌∙◌, ⊎_elim, arith, length-append, append_assoc}
use Rattle.std.proofs.lemmas.Bool.{cases_Bool}
use Rattle.std.proofs.lemmas.List.{append-nil, drop_all, length-drop}
use Rattle.farm_types.specs.declared.stage.Stage.{Stage}
use Rattle.search_books.specs.Outstanding.{is_out, is_waiting, positions_out}
use Rattle.search_books.specs.LeaseChains.{AreKept, AreTimed, AreWaiting, Kept, blank, chains, held_of, helds, kept_of, kepts, none, top, IsWhole}
use Rattle.search_books.specs.declared.lease_chains.Row.{Row}
use Rattle.search_books.proofs.LeaseTops.{top-le, top-hit}
use Rattle.search_books.proofs.LeaseEnds.{kept-at, kepts-length}
use Rattle.search_books.proofs.Kepts.{chain-low}
use Rattle.search_books.proofs.Outs.{out-elsewhere, out-here, outs, outs-all, outs-gap, outs-hit, outs-late, outs-miss, outs-top}

-- where a look stands: what the rest of the chain leads to and what was found so far are all that is out
pub record IsLook (s : ℕ) (stage : Stage) (m : ℕ) (rows : List Row) (found : List ℕ) (from at : ℕ) : Type 0 where
  pub within : at ≤ length rows
  pub from_within : from ≤ length found
  pub here : (i : ℕ) → at ≡ i + 1 → chains (kepts rows) i ≡ suc s
  pub all : outs s stage m (kepts rows) at ++ drop from found ≡ positions_out s stage m (helds (kepts rows))

module _ (s : ℕ) (stage : Stage) (m : ℕ) (heads : List ℕ) (rows : List Row) (l : IsWhole heads rows)
    (waits : AreWaiting (kepts rows)) where
  -- nothing was found yet
  pub look-start : (found : List ℕ) (at : ℕ) → s < length heads → at ≡ get_or heads s 0
      → IsLook s stage m rows found (length found) at
  look-start found at s_low is =
      let kept = kepts rows in
      let h = chains kept in
      let len = kepts-length rows in
      let first : at ≡ top h (suc s) (length rows) = is ∙ l.head s s_low in
      let first' : at ≡ top h (suc s) (length kept) = first ∙ ap (λ (n : ℕ). top h (suc s) n) (sym len) in
      record {
        within = omega (arith, first, top-le h (suc s) (length rows));
        from_within = omega arith;
        here = λ i hit. (top-hit h (suc s) (length rows) i (sym first ∙ hit)).1;
        all =
            ap (λ (xs : List ℕ). outs s stage m kept at ++ xs) (drop_all (length found) found (omega arith))
            ∙ (append-nil (outs s stage m kept at)
            ∙ (ap (λ (n : ℕ). outs s stage m kept n) first'
            ∙ (sym (outs-top s stage m kept (length kept) waits (omega arith)) ∙ outs-all s stage m kept)));
      }

  module _ (found : List ℕ) (from at i : ℕ) (look : IsLook s stage m rows found from at) (is : at ≡ i + 1) where
    low : i < length rows
    low = omega (arith, look.within, is)

    below_is : (get_or rows i blank).below ≡ top (chains (kepts rows)) (suc s) i
    below_is =
        let h = chains (kepts rows) in
        let hit = look.here i is in
        let some : h i ≢ 0 = λ (bad : h i ≡ 0). absurd (omega (arith, sym hit ∙ bad)) in
        l.below i low (omega (arith, low)) some ∙ ap (λ (c : ℕ). top h c i) hit

    pub look-falls : (get_or rows i blank).below < at
    look-falls = omega (arith, below_is, is, top-le (chains (kepts rows)) (suc s) i)

    -- the row's lease is out exactly where it is waiting
    out_is : is_out s stage m (held_of (get_or (kepts rows) i none)) ≡ is_waiting stage m
        (held_of (kept_of (get_or rows i blank)))
    out_is =
        out-here s stage m (get_or (kepts rows) i none) (look.here i is)
        ∙ ap (λ (k : Kept). is_waiting stage m (held_of k)) (kept-at rows i)

    hit_is : is_waiting stage m (held_of (kept_of (get_or rows i blank))) ≡ true
        → outs s stage m (kepts rows) at ≡ outs s stage m (kepts rows) i ++ (get_or rows i blank).lease.position ∷ []
    hit_is awaited =
        ap (λ (n : ℕ). outs s stage m (kepts rows) n) is
        ∙ (outs-hit s stage m (kepts rows) i (omega (arith, low, kepts-length rows)) (out_is ∙ awaited)
        ∙ ap (λ (k : Kept). outs s stage m (kepts rows) i ++ k.lease.position ∷ []) (kept-at rows i))

    miss_is : is_waiting stage m (held_of (kept_of (get_or rows i blank))) ≡ false
        → outs s stage m (kepts rows) at ≡ outs s stage m (kepts rows) i
    miss_is awaited =
        ap (λ (n : ℕ). outs s stage m (kepts rows) n) is
        ∙ outs-miss s stage m (kepts rows) i (omega (arith, low, kepts-length rows)) (out_is ∙ awaited)

    -- no lease up to the row can be out any more
    pub look-late : AreTimed (kepts rows) → (get_or rows i blank).greatest ≤ m
        → drop from found ≡ positions_out s stage m (helds (kepts rows))
    look-late timed late =
        let greatest : (get_or (kepts rows) i none).greatest ≤ m =
        omega (arith, ap (λ (k : Kept). k.greatest) (kept-at rows i), late) in
        let none_out : outs s stage m (kepts rows) at ≡ [] =
        ap (λ (n : ℕ). outs s stage m (kepts rows) n) is
        ∙ outs-late s stage m (kepts rows) i timed (omega (arith, low, kepts-length rows)) greatest in
        ap (λ (xs : List ℕ). xs ++ drop from found) (sym none_out) ∙ look.all

    -- there is space for a lease that is out
    pub look-space : length (positions_out s stage m (helds (kepts rows))) ≤ length found
        → is_waiting stage m (held_of (kept_of (get_or rows i blank))) ≡ true → 0 < from
    look-space few awaited =
        let more = ap (λ (xs : List ℕ). length xs) (hit_is awaited) in
        let more' = length-append (outs s stage m (kepts rows) i) ((get_or rows i blank).lease.position ∷ []) in
        let both = length-append (outs s stage m (kepts rows) at) (drop from found) in
        let whole = ap (λ (xs : List ℕ). length xs) look.all in
        omega (arith, more, more', both, whole, few, length-drop from found, look.from_within)

    -- the row is looked at
    pub look-next : (found' : List ℕ) (from' : ℕ) → from' ≤ length found'
        → drop from' found' ≡ (if is_waiting stage m (held_of (kept_of (get_or rows i blank)))
        then (get_or rows i blank).lease.position ∷ drop from found else drop from found)
        → IsLook s stage m rows found' from' (get_or rows i blank).below
    look-next found' from' within' found_is =
        let h = chains (kepts rows) in
        let lease = (get_or rows i blank).lease in
        let held = held_of (kept_of (get_or rows i blank)) in
        let below = (get_or rows i blank).below in
        let before : outs s stage m (kepts rows) below ≡ outs s stage m (kepts rows) i =
        ap (λ (n : ℕ). outs s stage m (kepts rows) n) below_is
        ∙ sym (outs-top s stage m (kepts rows) i waits (omega (arith, low, kepts-length rows))) in
        record {
          within = omega (arith, below_is, low, top-le h (suc s) i);
          from_within = within';
          here = λ j hit. (top-hit h (suc s) i j (sym below_is ∙ hit)).1;
          all =
              ap (λ (xs : List ℕ). xs ++ drop from' found') before
              ∙ (ap (λ (xs : List ℕ). outs s stage m (kepts rows) i ++ xs) found_is
              ∙ ⊎_elim
              (λ (yes : is_waiting stage m held ≡ true).
              ap (λ (b : Bool). outs s stage m (kepts rows) i ++
              (if b then lease.position ∷ drop from found else drop from found)) yes
              ∙ (sym (append_assoc (outs s stage m (kepts rows) i) (lease.position ∷ []) (drop from found))
              ∙ (ap (λ (xs : List ℕ). xs ++ drop from found) (sym (hit_is yes)) ∙ look.all)))
              (λ (no : is_waiting stage m held ≡ false).
              ap (λ (b : Bool). outs s stage m (kepts rows) i ++
              (if b then lease.position ∷ drop from found else drop from found)) no
              ∙ (ap (λ (xs : List ℕ). xs ++ drop from found) (sym (miss_is no)) ∙ look.all))
              (cases_Bool (is_waiting stage m held)));
        }

-- a search past the bound has no lease
pub outs-unknown : (s : ℕ) (stage : Stage) (m : ℕ) (kept : List Kept) (bound : ℕ) → AreKept kept bound → bound ≤ s
    → positions_out s stage m (helds kept) ≡ []
outs-unknown s stage m kept bound a up =
    sym (outs-all s stage m kept)
    ∙ outs-gap s stage m kept 0 (length kept) (omega arith) (omega arith)
    (λ i from to. out-elsewhere s stage m (get_or kept i none) (a.waiting i to)
    (chain-low (get_or kept i none) bound s (a.searches i to) up))
