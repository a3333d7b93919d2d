-- What contracts see of a pass to a board.
use Rattle.std.specs.Prelude.{Bool, List}
use Rattle.atomic_table.specs.Seated.{TableId}
use Rattle.farm_entry.specs.declared.entry.Entry.{Entry}

-- the board that a pass is of, whether it is the one that posts, and the history that it has seen
pub record Reader : Type 0 where
  pub board : TableId
  pub posts : Bool
  pub seen : List Entry
