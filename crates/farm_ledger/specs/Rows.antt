-- What is kept of each search beside its state: where it was opened, and how many runs it was leased.
use Rattle.std.specs.Prelude.{◌≡◌, ℕ, ◌+◌, ◌-◌, ◌==◌, Bool, true, false, List, [], ◌∷◌, ◌++◌, length, map, set, get_or, take, slice_get, if◌then◌else◌, Option, Some, None}
use Rattle.std.specs.List.{cons_option}
use Rattle.std.specs.Option.{option_map}
use Rattle.farm_entry.specs.History.{leases, opening_in}
use Rattle.farm_entry.specs.declared.entry.Entry.{Entry}
use Rattle.farm_entry.specs.declared.lease.LeasedRun.{LeasedRun}
use Rattle.farm_ledger.specs.declared.notes.Row.{Row}

-- the places of the entries that open a search, where the list begins at a place
abbrev pub opening_places : (place : ℕ) → List Entry → List ℕ
opening_places place [] = []
opening_places place (e ∷ H) = cons_option (option_map (λ o. place) (opening_in e.what)) (opening_places (place + 1) H)

-- no leases
abbrev pub blank : Row
blank = record { place = 0; leases = 0 }

-- the row of the search with a number
abbrev pub row_numbered : (number : ℕ) → List Row → Option Row
row_numbered number rows = if number == 0 then None else slice_get rows (number - 1)

-- the rows are those of the searches of a history, by their numbers
pub record AreRows (H : List Entry) (rows : List Row) : Type 0 where
  pub places : map (λ row. row.place) rows ≡ opening_places 0 H
  pub counts : (k : ℕ) → (get_or rows k blank).leases ≡ length (leases H (k + 1))

-- What appending an entry makes of them, and what is left where it is taken away.

abbrev pub with_row : List Row → (is_opening : Bool) → (place : ℕ) → List Row
with_row rows false place = rows
with_row rows true place = rows ++ record { place = place; leases = 0 } ∷ []

abbrev pub without_row : List Row → (is_opening : Bool) → List Row
without_row rows false = rows
without_row rows true = take (length rows - 1) rows

abbrev pub one_more : Row → Row
one_more row = record { place = row.place; leases = row.leases + 1 }

abbrev pub one_less : Row → Row
one_less row = record { place = row.place; leases = row.leases - 1 }

abbrev pub with_lease : List Row → Option LeasedRun → List Row
with_lease rows None = rows
with_lease rows (Some l) = set rows (l.search - 1) (one_more (get_or rows (l.search - 1) blank))

abbrev pub without_lease : List Row → Option LeasedRun → List Row
without_lease rows None = rows
without_lease rows (Some l) = set rows (l.search - 1) (one_less (get_or rows (l.search - 1) blank))
