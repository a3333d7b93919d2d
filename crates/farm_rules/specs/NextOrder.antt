-- What the next order is.
use Rattle.std.specs.Prelude.{◌≡◌, ℕ, ◌+◌, ◌<◌, ◌≤◌, false, List, All}
use Rattle.std.specs.List.{Contains}
use Rattle.farm_rules.specs.Orders.{Ordered, candidates, has_order, orders_of}
use Rattle.farm_rules.specs.declared.orders.Candidate.{Candidate}
use Rattle.farm_rules.specs.declared.orders.Draft.{Draft}

-- The next order is for a confirmed search whose commit has no order, none of these searches has a smaller number, it
-- has the number behind those that were given, and its day has room for it
pub record IsNextOrder (searches : List Candidate) (orders : List Ordered) (given day limit : ℕ) (d : Draft) : Type 0
  where
    pub confirmed : Contains searches (record { search = d.search; commit = d.commit })
    pub free : has_order orders d.commit ≡ false
    pub first : All (λ (c : Candidate). d.search ≤ c.search) (candidates searches orders)
    pub numbered : d.order ≡ given + 1
    pub dated : d.day ≡ day
    pub room : orders_of day orders < limit
