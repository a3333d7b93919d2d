-- Which search gets the next revert order.
use Rattle.std.specs.Prelude.{ℕ, ◌+◌, ◌==◌, nat_le, nat_lt, Bool, not, List, [], ◌∷◌, count_by, filter, if◌then◌else◌, Option, Some, None, Result, Ok, Err}
use Rattle.std.specs.List.{list_any}
use Rattle.farm_types.specs.CommitId.{same_id}
use Rattle.farm_types.specs.declared.commit_id.CommitId.{CommitId}
use Rattle.farm_rules.specs.declared.orders.Candidate.{Candidate}
use Rattle.farm_rules.specs.declared.orders.Draft.{Draft}
use Rattle.farm_rules.specs.declared.orders.NoOrder.{NoOrder}
use Rattle.farm_rules.specs.declared.orders.NoOrder.TheVariants.{DailyLimit, NoRevert}
use Rattle.farm_rules.specs.declared.orders.OrderedCommit.{OrderedCommit}

-- a revert order that stands, of this farm or of one before it: the commit that it reverts, and its day
abbrev pub Ordered : Type 0
Ordered = OrderedCommit

-- whether a commit has an order
abbrev pub has_order : List Ordered → CommitId → Bool
has_order orders commit = list_any (λ o. same_id o.commit commit) orders

-- the confirmed searches whose commit has no order yet
abbrev pub candidates : List Candidate → List Ordered → List Candidate
candidates searches orders = filter (λ c. not (has_order orders c.commit)) searches

-- of two searches the one with the smaller number, and on a tie the first
abbrev pub earlier : Candidate → Option Candidate → Candidate
earlier c None = c
earlier c (Some other) = if nat_le c.search other.search then c else other

-- the search with the smallest number, the first of them on a tie
abbrev pub earliest : List Candidate → Option Candidate
earliest [] = None
earliest (c ∷ rest) = Some (earlier c (earliest rest))

-- how many orders stand on a day
abbrev pub orders_of : (day : ℕ) → List Ordered → ℕ
orders_of day orders = count_by (λ o. o.day == day) orders

-- the order of this number for a search, on a day
abbrev pub draft_for : Candidate → (order day : ℕ) → Draft
draft_for c order day = record { order = order; commit = c.commit; search = c.search; day = day }

-- that order, while fewer stand on its day than the limit allows
abbrev pub draft_of : Option Candidate → (order day limit count : ℕ) → Result Draft NoOrder
draft_of None order day limit count = Err NoRevert
draft_of (Some c) order day limit count =
    if nat_lt count limit then Ok (draft_for c order day) else Err (DailyLimit day count)

-- What the next request for an order comes to: the next order, or why there is none. So many of the orders that stand
-- are this farm's own, and numbered; the others were carried over from the farms before it, and count like them
abbrev pub next_draft : List Candidate → List Ordered → (given day limit : ℕ) → Result Draft NoOrder
next_draft searches orders given day limit =
    draft_of (earliest (candidates searches orders)) (given + 1) day limit (orders_of day orders)
