-- The rows of runs as a map.
use Rattle.std.proofs.Common.{◌≡◌, ◌≢◌, ◌<◌, ◌≤◌, ◌+◌, ℕ, zero, suc, Bool, cond, List, [], ◌∷◌, ◌++◌, Option, Some, None, length, get_or, set, replicate, refl, ap, subst, sym, ◌∙◌, ⊎_elim, arith}
use Rattle.std.proofs.lemmas.Bool.{cases_eq, cases_lt}
use Rattle.std.proofs.lemmas.List.{get_or-set_same, get_or-set_other, get_or_past}
use Rattle.std.proofs.lemmas.Cmp.{nat_cmp_total}
use Rattle.std.specs.Ordering.{nat_cmp}
use Rattle.std.specs.FinMap.{get, insert, remove, get-from_entries, get-insert, get-remove, same_map, nat_cmp-IsAntisymmetric}
use Rattle.std.specs.FinMap.Entries.{find}
use Rattle.search_books.specs.RunRows.{places_in, told_from}
use Rattle.search_books.proofs.Finds.{not_None, tied, untied}

-- a run below all of the rows has none
row-before : (run first : ℕ) (rows : List (Option ℕ)) → run < first → find nat_cmp run (told_from first rows) ≡ None
row-before run first [] low = refl
row-before run first (None ∷ rows) low = row-before run (suc first) rows (omega (arith, low))
row-before run first (Some place ∷ rows) low =
    ap (λ (t : Bool). cond t (Some place) (find nat_cmp run (told_from (suc first) rows)))
    (untied run first (omega (arith, low)))
    ∙ row-before run (suc first) rows (omega (arith, low))

-- a run's place is what its row holds
row-at : (run first k : ℕ) (rows : List (Option ℕ)) → run ≡ first + k
    → find nat_cmp run (told_from first rows) ≡ get_or rows k None
row-at run first k [] is = refl
row-at run first zero (None ∷ rows) is = row-before run (suc first) rows (omega (arith, is))
row-at run first zero (Some place ∷ rows) is =
    ap (λ (t : Bool). cond t (Some place) (find nat_cmp run (told_from (suc first) rows)))
    (tied run first (omega (arith, is)))
row-at run first (suc k) (None ∷ rows) is = row-at run (suc first) k rows (omega (arith, is))
row-at run first (suc k) (Some place ∷ rows) is =
    ap (λ (t : Bool). cond t (Some place) (find nat_cmp run (told_from (suc first) rows)))
    (untied run first (omega (arith, is)))
    ∙ row-at run (suc first) k rows (omega (arith, is))

pub get-row : (rows : List (Option ℕ)) (run : ℕ) → get (places_in rows) run ≡ get_or rows run None
get-row rows run = get-from_entries nat_cmp_total (told_from 0 rows) run ∙ row-at run 0 run rows (omega arith)

-- a run past the rows has no place
pub get-past : (rows : List (Option ℕ)) (run : ℕ) → length rows ≤ run → get (places_in rows) run ≡ None
get-past rows run past = get-row rows run ∙ get_or_past rows run None past

-- so a run with a place has its row
pub present-low : (rows : List (Option ℕ)) (run : ℕ) → ((place : ℕ) × (get (places_in rows) run ≡ Some place))
    → run < length rows
present-low rows run there =
    ⊎_elim
    (λ (low : run < length rows). low)
    (λ (past : length rows ≤ run). absurd (not_None there.0 (sym there.1 ∙ get-past rows run past)))
    (cases_lt run (length rows))

module _ (rows : List (Option ℕ)) (run : ℕ) (low : run < length rows) where
  -- a place is put
  pub put-row : (place : ℕ) → places_in (set rows run (Some place)) ≡ insert (places_in rows) run place
  put-row place =
      same_map nat_cmp_total nat_cmp-IsAntisymmetric _ _ (λ q.
      let left = get-row (set rows run (Some place)) q in
      let right = get-insert nat_cmp_total (places_in rows) run place q in
      ⊎_elim
      (λ (e : q ≡ run).
      left ∙ (subst (λ (k : ℕ). get_or (set rows run (Some place)) k None ≡ Some place) (sym e)
      (get_or-set_same rows run (Some place) None low)
      ∙ sym (right ∙ ap (λ (t : Bool). cond t (Some place) (get (places_in rows) q)) (tied q run e))))
      (λ (ne : q ≢ run).
      left ∙ (get_or-set_other rows run q (Some place) None ne
      ∙ sym (right ∙ (ap (λ (t : Bool). cond t (Some place) (get (places_in rows) q)) (untied q run ne)
      ∙ get-row rows q))))
      (cases_eq q run))

  -- a place is taken away
  pub take-row : places_in (set rows run None) ≡ remove (places_in rows) run
  take-row =
      same_map nat_cmp_total nat_cmp-IsAntisymmetric _ _ (λ q.
      let left = get-row (set rows run None) q in
      let right = get-remove nat_cmp_total (places_in rows) run q in
      ⊎_elim
      (λ (e : q ≡ run).
      left ∙ (subst (λ (k : ℕ). get_or (set rows run None) k None ≡ None) (sym e)
      (get_or-set_same rows run None None low)
      ∙ sym (right ∙ ap (λ (t : Bool). cond t None (get (places_in rows) q)) (tied q run e))))
      (λ (ne : q ≢ run).
      left ∙ (get_or-set_other rows run q None None ne
      ∙ sym (right ∙ (ap (λ (t : Bool). cond t None (get (places_in rows) q)) (untied q run ne) ∙ get-row rows q))))
      (cases_eq q run))

none-in_pad : (n k : ℕ) → ◌≡◌ {A = Option ℕ} (get_or (replicate n None) k None) None
none-in_pad zero k = refl
none-in_pad (suc n) zero = refl
none-in_pad (suc n) (suc k) = none-in_pad n k

same-in_pad : (rows : List (Option ℕ)) (n k : ℕ) → get_or (rows ++ replicate n None) k None ≡ get_or rows k None
same-in_pad [] n k = none-in_pad n k
same-in_pad (row ∷ rows) n zero = refl
same-in_pad (row ∷ rows) n (suc k) = same-in_pad rows n k

-- rows that hold nothing change nothing
pub pad-rows : (rows : List (Option ℕ)) (n : ℕ) → places_in (rows ++ replicate n None) ≡ places_in rows
pad-rows rows n =
    same_map nat_cmp_total nat_cmp-IsAntisymmetric _ _ (λ q.
    get-row (rows ++ replicate n None) q ∙ (same-in_pad rows n q ∙ sym (get-row rows q)))
