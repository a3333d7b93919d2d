-- How a register is kept.
use Rattle.std.specs.Prelude.{◌≡◌, length}
use Rattle.farm_entry.specs.History.{order_lines}
use Rattle.farm_entry.specs.Legal.{IsLegal}
use Rattle.farm_entry.specs.Orders.{orders}
use Rattle.farm_ledger.specs.Rows.{AreRows}
use Rattle.farm_ledger.specs.declared.register.Register.TheInside.{Inside}

-- the history is legal, and what is kept beside it is its own
pub record IsRegister (s : Inside) : Type 0 where
  pub legal : IsLegal s.turns
  pub rows : AreRows s.turns s.rows.items
  pub orders_are : s.orders.orders ≡ orders s.turns
  pub given_are : s.orders.given ≡ length (order_lines s.turns)
