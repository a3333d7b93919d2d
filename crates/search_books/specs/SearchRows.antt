-- Where the entries of each search stand in a history.
use Rattle.std.specs.Prelude.{ℕ, ◌-◌, ◌==◌, List, [], ◌∷◌, ◌++◌, length, set, get_or, take, slice_get, if◌then◌else◌, Option, Some, None}
use Rattle.search_books.specs.declared.entry_kind.EntryKind.{EntryKind}
use Rattle.search_books.specs.declared.entry_kind.EntryKind.TheVariants.{Opening, Lease, Order, Other}

-- of one search: the place of the entry that opened it, those of its leases, in order, and that of the first order to
-- revert its culprit
pub record RowView : Type 0 where
  pub opened : ℕ
  pub runs : List ℕ
  pub order : Option ℕ

-- the row of a search that the entry at a place opens
abbrev pub new_row : (place : ℕ) → RowView
new_row place = record { opened = place; runs = []; order = None }

-- the row of the search with a number, by the rows of all from search 1 on
abbrev pub row_numbered : (search : ℕ) → List RowView → Option RowView
row_numbered search rows = if search == 0 then None else slice_get rows (search - 1)

-- What a row is with an entry of its search more, and without its last one.

abbrev pub with_run : (place : ℕ) → RowView → RowView
with_run place row = record { opened = row.opened; runs = row.runs ++ place ∷ []; order = row.order }

abbrev pub without_run : RowView → RowView
without_run row = record { opened = row.opened; runs = take (length row.runs - 1) row.runs; order = row.order }

-- the first of two places
abbrev pub first_of : Option ℕ → (place : ℕ) → Option ℕ
first_of None place = Some place
first_of (Some first) place = Some first

-- what is left where one is taken out
abbrev pub other_than : (place : ℕ) → Option ℕ → Option ℕ
other_than place None = None
other_than place (Some first) = if first == place then None else Some first

abbrev pub with_order : (place : ℕ) → RowView → RowView
with_order place row = record { opened = row.opened; runs = row.runs; order = first_of row.order place }

abbrev pub without_order : (place : ℕ) → RowView → RowView
without_order place row = record { opened = row.opened; runs = row.runs; order = other_than place row.order }

-- The same of the rows of all searches.

-- the rows where that of the search with a number is changed, if there is one
abbrev pub changed : (search : ℕ) → (RowView → RowView) → List RowView → List RowView
changed search change rows =
    if search == 0 then rows else set rows (search - 1) (change (get_or rows (search - 1) (new_row 0)))

-- the rows with an entry at a place more
abbrev pub with_entry : List RowView → EntryKind → (place : ℕ) → List RowView
with_entry rows Opening place = rows ++ new_row place ∷ []
with_entry rows (Lease search) place = changed search (with_run place) rows
with_entry rows (Order search) place = changed search (with_order place) rows
with_entry rows Other place = rows

-- the rows without the last entry, which has this place
abbrev pub without_entry : List RowView → EntryKind → (place : ℕ) → List RowView
without_entry rows Opening place = take (length rows - 1) rows
without_entry rows (Lease search) place = changed search without_run rows
without_entry rows (Order search) place = changed search (without_order place) rows
without_entry rows Other place = rows
