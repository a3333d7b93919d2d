-- What a history holds of a search, as the state of the search.
use Rattle.std.specs.Prelude.{List, map}
use Rattle.farm_entry.specs.History.{openings, reruns, runs, skipped, was_cancelled, went_over}
use Rattle.farm_entry.specs.declared.entry.Entry.{Entry}
use Rattle.farm_entry.specs.declared.opening.Opening.{Opening}
use Rattle.search_state.specs.SearchView.{SearchView}

abbrev pub seen : List Entry → Opening → SearchView
seen H o = record {
  opening = o;
  runs = runs H o.search;
  reruns = reruns H o.search;
  skipped = skipped H o.search;
  is_over = went_over H o.search;
  is_cancelled = was_cancelled H o.search;
}

-- what a history holds of all its searches, by their numbers
abbrev pub all_seen : List Entry → List SearchView
all_seen H = map (seen H) (openings H)
