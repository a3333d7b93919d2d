-- How a farm is kept with its order of turns.
use Rattle.std.specs.Prelude.{◌≡◌, ◌+◌, length}
use Rattle.farm_entry.specs.History.{openings}
use Rattle.farm_entry.specs.Legal.{IsLegal}
use Rattle.farm_state.specs.Moves.{turns_in}
use Rattle.farm_state.specs.Turns.{changes_of, turns_of}
use Rattle.farm_state.specs.declared.turns.FarmTurns.TheInside.{Inside}

-- the history is legal, the order is the one that it makes, and what was changed is kept for each entry
pub record AreFarmTurns (s : Inside) : Type 0 where
  pub legal : IsLegal s.state
  pub turns : turns_in s.active ≡ turns_of s.state
  pub count : s.active.count ≡ length (openings s.state) + 1
  pub changes : s.changes.items ≡ changes_of s.state
