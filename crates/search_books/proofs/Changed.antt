-- Rows of which one is changed.
use Rattle.std.proofs.Common.{◌≡◌, ◌≢◌, ◌⊎◌, ⊎_elim, ℕ, zero, suc, ◌+◌, ◌-◌, ◌<◌, ◌≤◌, ◌==◌, Bool, true, false, if◌then◌else◌, List, [], ◌∷◌, ◌++◌, length, set, get_or, refl, sym, ap, subst, ◌∙◌, arith}
use Rattle.std.proofs.lemmas.Bool.{cases_eq, cases_lt}
use Rattle.std.proofs.lemmas.Bool.Decides.{nat_tests}
use Rattle.std.proofs.lemmas.List.{get_or-set_same, get_or-set_other, length-set, set-get_or, set-set, set_past}
use Rattle.search_books.specs.SearchRows.{RowView, changed, new_row}

-- the row at an index, or a blank one
abbrev pub row_at : List RowView → (index : ℕ) → RowView
row_at rows index = get_or rows index (new_row 0)

-- A row that is set, and set back.

set-back : (f g : RowView → RowView) (rows : List RowView) (i : ℕ) → g (f (row_at rows i)) ≡ row_at rows i →
    set (set rows i (f (row_at rows i))) i (g (row_at (set rows i (f (row_at rows i))) i)) ≡ rows
set-back f g rows i back =
    let x : RowView = f (row_at rows i) in
    ⊎_elim
    (λ (low : i < length rows).
    set-set rows i x (g (row_at (set rows i x) i))
    ∙ ap (λ (y : RowView). set rows i (g y)) (get_or-set_same rows i x (new_row 0) low)
    ∙ ap (λ (y : RowView). set rows i y) back
    ∙ set-get_or rows i (new_row 0))
    (λ (past : length rows ≤ i).
    ap (λ (rs : List RowView). set rs i (g (row_at rs i))) (set_past rows i x past)
    ∙ set_past rows i (g (row_at rows i)) past)
    (cases_lt i (length rows))

pub changed-back : (search : ℕ) (f g : RowView → RowView) (rows : List RowView) →
    g (f (row_at rows (search - 1))) ≡ row_at rows (search - 1) → changed search g (changed search f rows) ≡ rows
changed-back search f g rows back = by (search == 0) (search - 1) back
  where
    by : (none : Bool) (i : ℕ) → g (f (row_at rows i)) ≡ row_at rows i →
        (let made : List RowView = if none then rows else set rows i (f (row_at rows i)) in
        if none then made else set made i (g (row_at made i))) ≡ rows
    by true i back = refl
    by false i back = set-back f g rows i back

-- What is known of the row of a search that is changed, and of those of the others.

pub changed-here : (search : ℕ) (f : RowView → RowView) (rows : List RowView) (i : ℕ) → i < length rows →
    search ≡ i + 1 → row_at (changed search f rows) i ≡ f (row_at rows i)
changed-here search f rows i low here =
    by (search == 0) (grind (arith, nat_tests, here)) (search - 1) (omega (arith, here))
  where
    by : (none : Bool) → none ≡ false → (j : ℕ) → j ≡ i →
        row_at (if none then rows else set rows j (f (row_at rows j))) i ≡ f (row_at rows i)
    by true is j same = absurd (cc)
    by false is j same =
        ap (λ (k : ℕ). row_at (set rows k (f (row_at rows k))) i) same
        ∙ get_or-set_same rows i (f (row_at rows i)) (new_row 0) low

pub changed-there : (search : ℕ) (f : RowView → RowView) (rows : List RowView) (i : ℕ) → search ≢ i + 1 →
    row_at (changed search f rows) i ≡ row_at rows i
changed-there search f rows i other = by (search == 0) refl
  where
    by : (none : Bool) → search == 0 ≡ none →
        row_at (if none then rows else set rows (search - 1) (f (row_at rows (search - 1)))) i ≡ row_at rows i
    by true is = refl
    by false is =
        get_or-set_other rows (search - 1) i (f (row_at rows (search - 1))) (new_row 0)
        (grind (arith, nat_tests, other, is))

-- what holds of each row, and stays where one is changed, holds of each then
pub changed-each : (P : RowView → Type 0) (search : ℕ) (f : RowView → RowView) (rows : List RowView) →
    ((row : RowView) → P row → P (f row)) → ((i : ℕ) → P (row_at rows i)) → (i : ℕ) →
    P (row_at (changed search f rows) i)
changed-each P search f rows stays each i = ⊎_elim
    (λ (here : search ≡ i + 1). ⊎_elim
    (λ (low : i < length rows). subst P (sym (changed-here search f rows i low here)) (stays (row_at rows i) (each i)))
    (λ (past : length rows ≤ i). by (search == 0) (search - 1) (omega (arith, past, here)))
    (cases_lt i (length rows)))
    (λ (there : search ≢ i + 1). subst P (sym (changed-there search f rows i there)) (each i))
    (cases_eq search (i + 1))
  where
    by : (none : Bool) (j : ℕ) → length rows ≤ j → P (row_at (if none then rows else set rows j (f (row_at rows j))) i)
    by true j past = each i
    by false j past =
        subst (λ (rs : List RowView). P (row_at rs i)) (sym (set_past rows j (f (row_at rows j)) past)) (each i)

-- how many rows there are
pub changed-count : (search : ℕ) (f : RowView → RowView) (rows : List RowView) →
    length (changed search f rows) ≡ length rows
changed-count search f rows = by (search == 0)
  where
    by : (none : Bool) →
        length (if none then rows else set rows (search - 1) (f (row_at rows (search - 1)))) ≡ length rows
    by true = refl
    by false = length-set rows (search - 1) (f (row_at rows (search - 1)))

-- a row that is added has no run and no order
pub added-at : (rows : List RowView) (place i : ℕ) →
    ((row_at (rows ++ new_row place ∷ []) i).runs ≡ (row_at rows i).runs)
    × ((row_at (rows ++ new_row place ∷ []) i).order ≡ (row_at rows i).order)
added-at [] place zero = (refl, refl)
added-at [] place (suc i) = (refl, refl)
added-at (r ∷ rows) place zero = (refl, refl)
added-at (r ∷ rows) place (suc i) = added-at rows place i
