-- How a farm is kept: its history with the books, and the state of each search.
use Rattle.std.specs.Prelude.{◌≡◌}
use Rattle.farm_entry.specs.Legal.{IsLegal}
use Rattle.search_state.specs.Seen.{all_seen}
use Rattle.farm_state.specs.declared.state.FarmState.TheInside.{Inside}

-- the history is legal, and the states are what it holds of its searches
pub record IsFarmState (s : Inside) : Type 0 where
  pub legal : IsLegal s.books
  pub searches : s.searches.items ≡ all_seen s.books
