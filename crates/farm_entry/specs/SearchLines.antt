-- The list of the searches of a farm, as it is shown.
use Rattle.std.specs.Prelude.{ℕ, ◌==◌, List, find, length, Option}
use Rattle.std.specs.List.{filter_map}
use Rattle.std.specs.Option.{option_map}
use Rattle.farm_types.specs.declared.moment.Moment.{Moment}
use Rattle.farm_entry.specs.History.{leases, opening_in, order_lines, runs}
use Rattle.farm_entry.specs.RunPages.{lines_from}
use Rattle.farm_entry.specs.Standing.{named_commit, standing}
use Rattle.farm_entry.specs.declared.entry.Entry.{Entry}
use Rattle.farm_entry.specs.declared.opening.Opening.{Opening}
use Rattle.farm_entry.specs.declared.search_list.SearchLine.{SearchLine}
use Rattle.farm_entry.specs.declared.search_list.SearchList.{SearchList}

-- the number of the order to revert the culprit of a search
abbrev pub order_for : List Entry → (search : ℕ) → Option ℕ
order_for H search = option_map (λ line. line.order) (find (λ line. line.search == search) (order_lines H))

-- a search that was opened at a moment, as the list shows it
abbrev pub search_line : List Entry → Moment → Opening → SearchLine
search_line H at o = record {
  search = o.search;
  test = o.test;
  suspects = length o.range.suspects;
  opened = at;
  leases = length (leases H o.search);
  counted = length (runs H o.search);
  standing = standing H o;
  commit = named_commit o (standing H o);
  order = order_for H o.search;
}

-- all searches, by their numbers
abbrev pub search_lines : List Entry → List SearchLine
search_lines H = filter_map (λ e. option_map (search_line H e.at) (opening_in e.what)) H

-- what is shown of the searches from a number on
abbrev pub search_list : List Entry → (from : ℕ) → SearchList
search_list H from = record { from = from; searches = lines_from from (search_lines H) }
