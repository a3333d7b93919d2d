-- How a farm keeps its history: one list, of which the front is the history and the rest may be committed next.
use Rattle.std.specs.Prelude.{◌<◌, ◌≤◌, length, take, drop}
use Rattle.farm_entry.specs.Legal.{IsLegal}
use Rattle.farm_core.specs.FarmView.{FarmView}
use Rattle.farm_core.specs.declared.farm.Farm.TheInside.{Inside}

-- the front of the list is the history, and the rest may be committed next
abbrev pub farm_view : Inside → FarmView
farm_view f = record { history = take f.committed f.kept; ready = drop f.committed f.kept }

-- all of it together is a legal history
pub record IsFarm (f : Inside) : Type 0 where
  pub legal : IsLegal f.kept
  pub begun : 0 < f.committed
  pub within : f.committed ≤ length f.kept
