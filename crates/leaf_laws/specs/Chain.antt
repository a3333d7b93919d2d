-- A chain of farms, each of which follows the one before it.
use Rattle.std.specs.Prelude.{◌≡◌, true, List, [], ◌∷◌, ◌++◌, ⊤}
use Rattle.std.specs.List.{flat_map}
use Rattle.farm_rules.specs.Orders.{Ordered}
use Rattle.farm_entry.specs.History.{is_closed}
use Rattle.farm_entry.specs.Legal.{IsLegal}
use Rattle.farm_entry.specs.Orders.{carried, given, orders}
use Rattle.farm_entry.specs.declared.entry.Entry.{Entry}

-- A farm follows another: that one is closed, and what was carried over is what stood there in the end, in that order,
-- and no more
pub record Follows (old new : List Entry) : Type 0 where
  pub closed : is_closed old ≡ true
  pub carried_over : carried new ≡ orders old

-- these farms, the oldest first, are legal, and each but the first follows the one before it. The first may have orders
-- that were carried over from anywhere
abbrev pub FollowsOn : List Entry → List (List Entry) → Type 0
FollowsOn H [] = IsLegal H
FollowsOn H (next ∷ more) = IsLegal H × Follows H next × FollowsOn next more

abbrev pub IsChain : List (List Entry) → Type 0
IsChain [] = ⊤
IsChain (H ∷ more) = FollowsOn H more

-- the orders that the farms of a chain gave, the oldest first
abbrev pub all_given : List (List Entry) → List Ordered
all_given farms = flat_map given farms

-- those, behind what was carried over into the first farm
abbrev pub all_orders : List (List Entry) → List Ordered
all_orders [] = []
all_orders (H ∷ more) = carried H ++ all_given (H ∷ more)
