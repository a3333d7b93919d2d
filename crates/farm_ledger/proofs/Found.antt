-- The row of a search, looked up by number.
use Rattle.std.proofs.Common.{◌≡◌, ◌⊎◌, inl, inr, ⊎_elim, ℕ, zero, suc, ◌+◌, ◌-◌, ◌<◌, ◌≤◌, ◌==◌, Bool, true, false, if◌then◌else◌, List, [], ◌∷◌, length, get_or, slice_get, Contains, Option, Some, None, Bor, refl, sym, ap, subst, ◌∙◌, arith}
use Rattle.std.specs.Option.{IfSome, option_copied}
use Rattle.std.proofs.lemmas.Bool.{cases_eq, cases_lt}
use Rattle.std.proofs.lemmas.Bool.Decides.{nat_tests}
use Rattle.std.proofs.lemmas.List.{get_or-map}
use Rattle.std.proofs.lemmas.Option.{get_or_from_slice_get, none-some, slice_get-get_or, slice_get_within}
use Rattle.farm_entry.specs.History.{leases, opening_in, opening_numbered, openings}
use Rattle.farm_entry.specs.Legal.{IsLegal}
use Rattle.farm_entry.specs.declared.entry.Entry.{Entry}
use Rattle.farm_entry.specs.declared.opening.Opening.{Opening}
use Rattle.farm_laws.proofs.Numbered.{number-at, opening-found, opening-there, openings-numbered}
use Rattle.farm_ledger.specs.Rows.{AreRows, blank, opening_places, row_numbered}
use Rattle.farm_ledger.specs.declared.notes.Row.{Row}
use Rattle.farm_ledger.proofs.Counts.{IsUnopened, unleased, unopened-differs}
use Rattle.farm_ledger.proofs.Places.{IsAt, place-at, rows-count}

-- a row is that of the search with a number
pub record IsRow (H : List Entry) (number : ℕ) (row : Row) : Type 0 where
  pub opening : Opening
  pub known : opening_numbered H number ≡ Some opening
  pub there : Contains (openings H) opening
  pub within : row.place < length H
  pub opens : (d : Entry) → opening_in (get_or H row.place d).what ≡ Some opening
  pub count : row.leases ≡ length (leases H number)

-- what stands at an index of a list
element : {X : Type 0} (xs : List X) (k : ℕ) → k < length xs → (x : X) × (get_or xs k x ≡ x)
element [] k below = absurd (omega (arith, below))
element (x ∷ xs) zero below = (x, refl)
element (x ∷ xs) (suc k) below = element xs k (omega (arith, below))

-- a search is found by its number
known-by : (H : List Entry) (o : Opening) (number : ℕ) → IsLegal H → Contains (openings H) o → o.search ≡ number →
    opening_numbered H number ≡ Some o
known-by H o number legal there same = ap (opening_numbered H) (sym same) ∙ opening-found H o legal there

-- each number from 1 to the last one is that of a search
pub opened-at : (H : List Entry) (number : ℕ) → IsLegal H → 1 ≤ number → number ≤ length (openings H) →
    (o : Opening) × (opening_numbered H number ≡ Some o)
opened-at H number legal some within =
    let k : ℕ = number - 1 in
    let below : k < length (openings H) = omega (arith, some, within) in
    let it = element (openings H) k below in
    let at = number-at (λ (x : Opening). x.search) 1 (openings H) (openings-numbered H legal) k it.0 below in
    let here : it.0.search ≡ 1 + k = ap (λ (x : Opening). x.search) (sym it.1) ∙ at in
    let same : it.0.search ≡ number = omega (arith, here, some) in
    (it.0, known-by H it.0 number legal (k, below, it.1) same)

-- no number of a search is 0
numbered-some : (number : ℕ) (rows : List Row) (row : Row) → row_numbered number rows ≡ Some row →
    (1 ≤ number) × (slice_get rows (number - 1) ≡ Some row)
numbered-some number rows row is =
    ⊎_elim
    (λ (none : number ≡ 0).
    let here : number == 0 ≡ true = grind (arith, nat_tests, none) in
    absurd (none-some row (sym (ap (λ (b : Bool). if b then None else slice_get rows (number - 1)) here) ∙ is)))
    (λ (some : number ≡ 0 → ⊥).
    let other : number == 0 ≡ false = grind (arith, nat_tests, some) in (
      omega (arith, some),
      sym (ap (λ (b : Bool). if b then None else slice_get rows (number - 1)) other) ∙ is,
    ))
    (cases_eq number 0)

pub row-there : (H : List Entry) (rows : List Row) (number : ℕ) (row : Row) → IsLegal H → AreRows H rows →
    row_numbered number rows ≡ Some row → IsRow H number row
row-there H rows number row legal are is =
    let some = numbered-some number rows row is in
    let k : ℕ = number - 1 in
    let next : k + 1 ≡ number = omega (arith, some.0) in
    let low : k < length rows = slice_get_within rows k row some.1 in
    let below : k < length (openings H) = omega (arith, low, rows-count H rows are.places) in
    let it = element (openings H) k below in
    let o : Opening = it.0 in
    let there : Contains (openings H) o = (k, below, it.1) in
    let at = number-at (λ (x : Opening). x.search) 1 (openings H) (openings-numbered H legal) k o below in
    let here : o.search ≡ 1 + k = ap (λ (x : Opening). x.search) (sym it.1) ∙ at in
    let same : o.search ≡ number = omega (arith, here, next) in
    let row_is : get_or rows k blank ≡ row = get_or_from_slice_get rows k row blank some.1 in
    let place : get_or (opening_places 0 H) k 0 ≡ row.place =
    ap (λ (ps : List ℕ). get_or ps k 0) (sym are.places)
    ∙ get_or-map (λ (x : Row). x.place) rows k blank 0 low
    ∙ ap (λ (x : Row). x.place) row_is in
    let stands : IsAt H 0 row.place o =
    subst (λ (p : ℕ). IsAt H 0 p o) place (place-at 0 H k o below it.1) in
    let index : stands.index ≡ row.place = omega (arith, stands.at) in
    record {
      opening = o;
      known = known-by H o number legal there same;
      there = there;
      within = omega (arith, index, stands.below);
      opens = λ d. ap (λ (j : ℕ). opening_in (get_or H j d).what) (sym index) ∙ stands.opens d;
      count = ap (λ (x : Row). x.leases) (sym row_is) ∙ are.counts k ∙ ap (λ (n : ℕ). length (leases H n)) next;
    }

-- there is none of a number that no search has
numbered-none : (number : ℕ) (rows : List Row) → row_numbered number rows ≡ None → (number ≡ 0) ⊎ (length rows < number)
numbered-none number rows is =
    ⊎_elim
    (λ (none : number ≡ 0). inl none)
    (λ (some : number ≡ 0 → ⊥).
    let other : number == 0 ≡ false = grind (arith, nat_tests, some) in
    let nothing : slice_get rows (number - 1) ≡ None =
    sym (ap (λ (b : Bool). if b then None else slice_get rows (number - 1)) other) ∙ is in
    ⊎_elim
    (λ (low : number - 1 < length rows).
    absurd (none-some _ (sym nothing ∙ slice_get-get_or rows (number - 1) blank low)))
    (λ (high : length rows ≤ number - 1). inr (omega (arith, high, some)))
    (cases_lt (number - 1) (length rows)))
    (cases_eq number 0)

pub row-unopened : (H : List Entry) (rows : List Row) (number : ℕ) → AreRows H rows → row_numbered number rows ≡ None →
    IsUnopened H number
row-unopened H rows number are is =
    ⊎_elim
    (λ (none : number ≡ 0). inl none)
    (λ (past : length rows < number). inr (omega (arith, past, rows-count H rows are.places)))
    (numbered-none number rows is)

pub unopened-none : (H : List Entry) (number : ℕ) → IsLegal H → IsUnopened H number → opening_numbered H number ≡ None
unopened-none H number legal out = by (opening_numbered H number) refl
  where
    by : (x : Option Opening) → opening_numbered H number ≡ x → opening_numbered H number ≡ None
    by None is = is
    by (Some o) is =
        let found = opening-there H number o is in
        absurd (unopened-differs H o number legal found.0 out found.1)

pub row-none : (H : List Entry) (rows : List Row) (number : ℕ) → IsLegal H → AreRows H rows → row_numbered number rows ≡ None →
    opening_numbered H number ≡ None
row-none H rows number legal are is = unopened-none H number legal (row-unopened H rows number are is)

pub row-unleased : (H : List Entry) (rows : List Row) (number : ℕ) → IsLegal H → AreRows H rows → row_numbered number rows ≡ None →
    length (leases H number) ≡ 0
row-unleased H rows number legal are is = ap length (unleased H number legal (row-unopened H rows number are is))

-- what holds of a value holds of the loan of it
pub copied-holds : {X : Type 0} (P : X → Type 0) (x : Option (Bor X)) (y : X) → option_copied x ≡ Some y → P y →
    IfSome x (λ (b : Bor X). P b.now)
copied-holds P None y is holds = tt
copied-holds P (Some b) y is holds = let same : b.now ≡ y = cc in subst P (sym same) holds
