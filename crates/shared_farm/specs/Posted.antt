-- A store whose totals are posted on a board.
use Rattle.std.specs.Prelude.{◌≡◌, Option, IfSome}
use Rattle.atomic_table.specs.Seated.{TableId}
use Rattle.farm_store.specs.State.{StoreState}

-- the store as contracts see it, and the name of the table of the board
pub record PostedState (D : Type 0) : Type 0 where
  pub store : StoreState D
  pub board : TableId

-- the board is the one that was picked, where one was
abbrev pub IsPicked : Option TableId → TableId → Type 0
IsPicked picked board = IfSome picked (λ one. board ≡ one)
