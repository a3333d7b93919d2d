-- What a farm begins with, an entry at a time, beside the orders that are kept of it.
use Rattle.std.specs.Prelude.{◌≡◌, ℕ, ◌+◌, ◌<◌, ◌≤◌, ◌^◌, true, false, List, [], ◌∷◌, ◌++◌, length, take}
use Rattle.std.specs.List.{list_all}
use Rattle.farm_rules.specs.Orders.{Ordered, has_order}
use Rattle.farm_types.specs.declared.commit_id.CommitId.{CommitId}
use Rattle.farm_types.specs.declared.moment.Moment.{Moment}
use Rattle.farm_entry.specs.Closing.{begins_at}
use Rattle.farm_entry.specs.Legal.{IsLegal, IsNext}
use Rattle.farm_entry.specs.Orders.{orders}
use Rattle.farm_entry.specs.declared.entry.Entry.{Entry}
use Rattle.farm_rules.specs.Book.{Book}

-- only a founding and carried orders stand in a history, all at this moment, and their orders are those kept
pub record HasBegun (H : List Entry) (at : Moment) (book : Book) : Type 0 where
  pub begun : list_all (begins_at at) H ≡ true
  pub kept : book.orders ≡ orders H
  pub none_given : book.given ≡ 0

-- an order for this commit can be kept beside those that are
pub record CanBeKept (book : Book) (commit : CommitId) : Type 0 where
  pub few : length book.orders + 1 < 2 ^ 32
  pub none_given : book.given ≡ 0
  pub free : has_order book.orders commit ≡ false

-- one order more is kept
pub record IsKept (old : Book) (carried : Ordered) (new : Book) : Type 0 where
  pub kept : new.orders ≡ old.orders ++ carried ∷ []
  pub none_given : new.given ≡ 0

-- an entry may come next, and with it only those stand there still
pub record IsCarriedOn (H : List Entry) (e : Entry) (at : Moment) (book : Book) : Type 0 where
  pub next : IsNext H e
  pub begun : HasBegun (H ++ e ∷ []) at book

-- so many entries of a list are a legal history
pub record IsBeginning (list : List Entry) (count : ℕ) : Type 0 where
  pub some : 1 ≤ count
  pub within : count ≤ length list
  pub legal : IsLegal (take count list)
