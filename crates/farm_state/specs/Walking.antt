-- A walk along the order of turns.
use Rattle.std.specs.Prelude.{ℕ, ◌≡◌, ◌≢◌, true, List}
use Rattle.search_books.specs.Order.{has}
use Rattle.farm_entry.specs.Due.{next_run}
use Rattle.farm_entry.specs.declared.entry.Entry.{Entry}
use Rattle.farm_state.specs.TurnOrder.{first_due_from}

-- it has come to a search, or with 0 to the end, and none of those before has a run to make
pub record IsAt (H : List Entry) (moment : ℕ) (order : List ℕ) (search : ℕ) : Type 0 where
  pub there : search ≢ 0 → has search order ≡ true
  pub due : first_due_from H moment search order ≡ next_run H moment
