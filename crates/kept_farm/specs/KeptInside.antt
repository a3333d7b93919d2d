-- How a farm is kept: its history, beside each entry its row, the places of the orders, and those of each search.
use Rattle.std.specs.Prelude.{◌≡◌}
use Rattle.farm_entry.specs.Legal.{IsLegal}
use Rattle.kept_farm.specs.Beside.{AreBeside}
use Rattle.kept_farm.specs.Places.{order_places}
use Rattle.kept_farm.specs.Rows.{row_of}
use Rattle.kept_farm.specs.Searches.{search_rows}
use Rattle.kept_farm.specs.declared.farm.KeptFarm.TheInside.{Inside}

pub record IsKeptFarm (s : Inside) : Type 0 where
  pub legal : IsLegal s.ledger
  pub rows : AreBeside row_of s.ledger s.rows.items
  pub places : s.places.items ≡ order_places 0 s.ledger
  pub searches : s.searches ≡ search_rows s.ledger
