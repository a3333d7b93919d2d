-- Where the entries of each search stand in a history.
use Rattle.std.specs.Prelude.{ℕ, ◌+◌, List, [], ◌∷◌}
use Rattle.farm_entry.specs.declared.entry.Entry.{Entry}
use Rattle.farm_entry.specs.declared.entry.What.{What}
use Rattle.farm_entry.specs.declared.entry.What.TheVariants.{Opened, Leased, Ordered}
use Rattle.search_books.specs.SearchRows.{RowView, with_entry}
use Rattle.search_books.specs.declared.entry_kind.EntryKind.{EntryKind}
use Rattle.search_books.specs.declared.entry_kind.EntryKind.TheVariants.{Opening, Lease, Order, Other}

-- what an entry is to the searches
abbrev pub kind_of : What → EntryKind
kind_of (Opened o) = Opening
kind_of (Leased key worker run search stage position deadline) = Lease search
kind_of (Ordered key agent order commit search day) = Order search
kind_of what = Other

-- the rows of all searches with the entries of a list more, which begins at a place
abbrev pub rows_from : (place : ℕ) → List RowView → List Entry → List RowView
rows_from place rows [] = rows
rows_from place rows (e ∷ H) = rows_from (place + 1) (with_entry rows (kind_of e.what) place) H

-- the rows of all searches of a history
abbrev pub search_rows : List Entry → List RowView
search_rows H = rows_from 0 [] H
