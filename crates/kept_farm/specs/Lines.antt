-- What pages show of the entries at some places.
use Rattle.std.specs.Prelude.{ℕ, List, [], slice_get, Option, Some, None}
use Rattle.std.specs.List.{filter_map}
use Rattle.std.specs.Option.{option_and_then, option_map}
use Rattle.farm_entry.specs.History.{opening_in, order_in}
use Rattle.farm_entry.specs.RunPages.{run_line}
use Rattle.farm_entry.specs.SearchLines.{search_line}
use Rattle.farm_entry.specs.declared.entry.Entry.{Entry}
use Rattle.farm_entry.specs.declared.opening.Opening.{Opening}
use Rattle.farm_entry.specs.declared.run_page.RunLine.{RunLine}
use Rattle.farm_entry.specs.declared.search_list.SearchLine.{SearchLine}
use Rattle.search_books.specs.SearchRows.{RowView}

-- the run of a search that the entry at a place hands out
abbrev pub run_line_at : List Entry → Opening → (place : ℕ) → Option RunLine
run_line_at H o place = option_and_then (λ e. run_line H o e.at e.what) (slice_get H place)

-- the runs of a search that the entries at these places hand out
abbrev pub run_lines_at : List Entry → Opening → (places : List ℕ) → List RunLine
run_lines_at H o places = filter_map (run_line_at H o) places

-- the search that the entry at a place opens
abbrev pub search_line_at : List Entry → (place : ℕ) → Option SearchLine
search_line_at H place =
    option_and_then (λ e. option_map (search_line H e.at) (opening_in e.what)) (slice_get H place)

-- the searches of these rows
abbrev pub search_lines_at : List Entry → List RowView → List SearchLine
search_lines_at H rows = filter_map (λ row. search_line_at H row.opened) rows

-- the places of the leases of a search, where it has a row
abbrev pub runs_in : Option RowView → List ℕ
runs_in None = []
runs_in (Some row) = row.runs

-- the number of the order that the entry at a place records
abbrev pub order_at : List Entry → (place : ℕ) → Option ℕ
order_at H place = option_and_then (λ e. option_map (λ line. line.order) (order_in e.what)) (slice_get H place)

-- the order that a row of a search points to
abbrev pub order_in_row : List Entry → Option RowView → Option ℕ
order_in_row H row = option_and_then (order_at H) (option_and_then (λ r. r.order) row)
