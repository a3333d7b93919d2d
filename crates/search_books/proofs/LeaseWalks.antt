-- The walk to the pointer that leads to a row.
use Rattle.std.proofs.Common.{◌≡◌, ◌≢◌, ◌<◌, ◌≤◌, ◌+◌, ◌-◌, ℕ, suc, List, length, get_or, ap, subst, sym, ◌∙◌, ⊎_elim, arith}
use Rattle.std.proofs.lemmas.Bool.{cases_eq}
use Rattle.search_books.specs.LeaseChains.{blank, chains, kepts, top, IsAbove, IsWhole}
use Rattle.search_books.specs.declared.lease_chains.Row.{Row}
use Rattle.search_books.proofs.LeaseTops.{top-le, top-hit, top-down}

-- the walk leads to a row of the chain
pub above-hit : (h : ℕ → ℕ) (b at n above next m : ℕ) → IsAbove h b at n above next → next ≡ m + 1 → (m < n)
    × (h m ≡ b)
above-hit h b at n above next m w is =
    ⊎_elim
    (λ (e : above ≡ 0). top-hit h b n m (sym (w.from_head e) ∙ is))
    (λ (ne : above ≢ 0).
    let row = w.from_row (above - 1) (omega (arith, ne)) in
    let hit = top-hit h b (above - 1) m (sym row.3 ∙ is) in
    (omega (arith, row.1, hit.0), hit.1))
    (cases_eq above 0)

pub above-within : (h : ℕ → ℕ) (b at n above next : ℕ) → IsAbove h b at n above next → next ≤ n
above-within h b at n above next w =
    ⊎_elim
    (λ (e : above ≡ 0). omega (arith, w.from_head e, top-le h b n))
    (λ (ne : above ≢ 0).
    let row = w.from_row (above - 1) (omega (arith, ne)) in
    omega (arith, row.1, row.3, top-le h b (above - 1)))
    (cases_eq above 0)

module _ (heads : List ℕ) (rows : List Row) (s at above next m : ℕ) (l : IsWhole heads rows)
    (w : IsAbove (chains (kepts rows)) (suc s) at (length rows) above next) (is : next ≡ m + 1) where
  next_below : (get_or rows m blank).below ≡ top (chains (kepts rows)) (suc s) m
  next_below =
      let h = chains (kepts rows) in
      let hit = above-hit h (suc s) at (length rows) above next m w is in
      let some : h m ≢ 0 = λ (bad : h m ≡ 0). absurd (omega (arith, sym hit.1 ∙ bad)) in
      l.below m hit.0 (omega (arith, hit.0)) some ∙ ap (λ (c : ℕ). top h c m) hit.1

  pub walk-falls : (get_or rows m blank).below < next
  walk-falls = omega (arith, next_below, is, top-le (chains (kepts rows)) (suc s) m)

  pub walk-next : at + 1 < next
      → IsAbove (chains (kepts rows)) (suc s) at (length rows) next (get_or rows m blank).below
  walk-next far =
      let h = chains (kepts rows) in
      let hit = above-hit h (suc s) at (length rows) above next m w is in
      record {
        from_head = λ none. absurd (omega (arith, none, is));
        from_row = λ j same.
            let j_is : m ≡ j = omega (arith, same, is) in (
              omega (arith, far, same),
              omega (arith, hit.0, j_is),
              subst (λ (i : ℕ). h i ≡ suc s) j_is hit.1,
              next_below ∙ ap (λ (i : ℕ). top h (suc s) i) j_is,
            );
      }

-- the pointer that is found
pub walk-was : (h : ℕ → ℕ) (b at n above next : ℕ) → IsAbove h b at n above next → next ≤ at + 1 → at < n
    → next ≡ top h b (suc at)
walk-was h b at n above next w low within =
    ⊎_elim
    (λ (e : above ≡ 0). let first = w.from_head e in first ∙ top-down h b n at within (omega (arith, first, low)))
    (λ (ne : above ≢ 0).
    let row = w.from_row (above - 1) (omega (arith, ne)) in
    row.3 ∙ top-down h b (above - 1) at row.0 (omega (arith, row.3, low)))
    (cases_eq above 0)
