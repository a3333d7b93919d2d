-- An entry that is added and taken back again leaves the rows as they were.
use Rattle.std.proofs.Common.{◌≡◌, ◌≢◌, ℕ, ◌+◌, ◌-◌, ◌<◌, ◌==◌, Bool, true, false, if◌then◌else◌, List, [], ◌∷◌, ◌++◌, length, take, Option, Some, None, refl, sym, ap, subst, ◌∙◌, arith, length-append}
use Rattle.std.specs.Option.{IfSome}
use Rattle.std.proofs.lemmas.Bool.Decides.{nat_tests}
use Rattle.std.proofs.Math.Seq.{take-append_seam}
use Rattle.search_books.specs.SearchRows.{RowView, first_of, new_row, other_than, with_entry, with_order, with_run, without_entry, without_order, without_run}
use Rattle.search_books.specs.declared.entry_kind.EntryKind.{EntryKind}
use Rattle.search_books.specs.declared.entry_kind.EntryKind.TheVariants.{Opening, Lease, Order, Other}
use Rattle.search_books.proofs.Changed.{added-at, changed-back, changed-each, row_at}

-- an order stands before a place, if there is one
abbrev pub IsBefore : (place : ℕ) → Option ℕ → Type 0
IsBefore place order = IfSome order (λ p. p < place)

-- each order does
abbrev pub AreBefore : (place : ℕ) → List RowView → Type 0
AreBefore place rows = (i : ℕ) → IsBefore place (row_at rows i).order

-- The last of a list.

front : {X : Type 0} (xs : List X) (x : X) → take (length (xs ++ x ∷ []) - 1) (xs ++ x ∷ []) ≡ xs
front xs x =
    let long : length (xs ++ x ∷ []) ≡ length xs + 1 = length-append xs (x ∷ []) in
    let less : length (xs ++ x ∷ []) - 1 ≡ length xs = omega (arith, long) in
    ap (λ (n : ℕ). take n (xs ++ x ∷ [])) less ∙ take-append_seam xs (x ∷ [])

-- One row.

run-back : (place : ℕ) (row : RowView) → without_run (with_run place row) ≡ row
run-back place row =
    ap (λ (places : List ℕ). record { opened = row.opened; runs = places; order = row.order }) (front row.runs place)

other-back : (place : ℕ) (order : Option ℕ) → IsBefore place order → other_than place (first_of order place) ≡ order
other-back place None before =
    let same : place == place ≡ true = grind (arith, nat_tests) in
    ap (λ (b : Bool). if b then None else Some place) same
other-back place (Some p) before =
    let other : p == place ≡ false = grind (arith, nat_tests, before) in
    ap (λ (b : Bool). if b then None else Some p) other

order-back : (place : ℕ) (row : RowView) → IsBefore place row.order → without_order place (with_order place row) ≡ row
order-back place row before =
    ap (λ (order : Option ℕ). record { opened = row.opened; runs = row.runs; order = order })
    (other-back place row.order before)

-- All of them.

pub taken-back : (rows : List RowView) (kind : EntryKind) (place : ℕ) → AreBefore place rows →
    without_entry (with_entry rows kind place) kind place ≡ rows
taken-back rows Opening place before = front rows (new_row place)
taken-back rows (Lease search) place before =
    changed-back search (with_run place) without_run rows (run-back place (row_at rows (search - 1)))
taken-back rows (Order search) place before =
    changed-back search (with_order place) (without_order place) rows
    (order-back place (row_at rows (search - 1)) (before (search - 1)))
taken-back rows Other place before = refl

-- Places that rise.

later : (place : ℕ) (order : Option ℕ) → IsBefore place order → IsBefore (place + 1) order
later place None before = tt
later place (Some p) before = omega (arith, before)

first-before : (place : ℕ) (order : Option ℕ) → IsBefore (place + 1) order → IsBefore (place + 1) (first_of order place)
first-before place None before = omega arith
first-before place (Some p) before = before

-- each order stands before the place behind the one that was added
pub added-before : (rows : List RowView) (kind : EntryKind) (place : ℕ) → AreBefore place rows →
    AreBefore (place + 1) (with_entry rows kind place)
added-before rows kind place before = by kind
  where
    each : AreBefore (place + 1) rows
    each i = later place (row_at rows i).order (before i)

    by : (kind : EntryKind) → AreBefore (place + 1) (with_entry rows kind place)
    by Opening i = subst (IsBefore (place + 1)) (sym (added-at rows place i).1) (each i)
    by (Lease search) i =
        changed-each (λ (row : RowView). IsBefore (place + 1) row.order) search (with_run place) rows
        (λ row here. here) each i
    by (Order search) i =
        changed-each (λ (row : RowView). IsBefore (place + 1) row.order) search (with_order place) rows
        (λ row here. first-before place row.order here) each i
    by Other i = each i
