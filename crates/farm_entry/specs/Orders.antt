-- Which commit is to be reverted next.
use Rattle.std.specs.Prelude.{ℕ, List, length, map, Option, Some, None, Result}
use Rattle.std.specs.List.{filter_map}
use Rattle.farm_rules.specs.Day.{day_at}
use Rattle.farm_rules.specs.Orders.{Ordered, candidates, next_draft}
use Rattle.farm_rules.specs.declared.orders.Candidate.{Candidate}
use Rattle.farm_rules.specs.declared.orders.Draft.{Draft}
use Rattle.farm_rules.specs.declared.orders.NoOrder.{NoOrder}
use Rattle.farm_entry.specs.History.{carried_in, daily_limit, openings, order_lines, ordered_in, zone_minutes}
use Rattle.farm_entry.specs.Setup.{commit_of}
use Rattle.farm_entry.specs.Standing.{standing}
use Rattle.farm_entry.specs.declared.entry.Entry.{Entry}
use Rattle.farm_entry.specs.declared.opening.Opening.{Opening}
use Rattle.farm_entry.specs.declared.order_page.OrderLine.{OrderLine}
use Rattle.farm_entry.specs.declared.standing.Standing.{Standing}
use Rattle.farm_entry.specs.declared.standing.Standing.TheVariants.{Confirmed}

-- the day of a moment in the farm's zone
abbrev pub day_in : List Entry → (moment : ℕ) → ℕ
day_in H moment = day_at moment (zone_minutes H)

-- a search whose culprit is confirmed, as the rule for orders sees it
abbrev pub confirmed_at : Standing → Opening → Option Candidate
confirmed_at (Confirmed culprit) o = Some (record { search = o.search; commit = commit_of o culprit })
confirmed_at _ o = None

-- the searches whose culprit is confirmed, by their numbers
abbrev pub confirmed_searches : List Entry → List Candidate
confirmed_searches H = filter_map (λ o. confirmed_at (standing H o) o) (openings H)

-- an order as the rule sees it
abbrev pub ordered : OrderLine → Ordered
ordered line = record { commit = line.commit; day = line.day }

-- the orders that stand, those that were carried over among them, in the order of their entries
abbrev pub orders : List Entry → List Ordered
orders H = filter_map (λ e. ordered_in e.what) H

-- those that the farm gave, and those that were carried over into it
abbrev pub given : List Entry → List Ordered
given H = map ordered (order_lines H)

abbrev pub carried : List Entry → List Ordered
carried H = filter_map (λ e. carried_in e.what) H

-- the confirmed searches whose commit has no order yet, here or in a farm before
abbrev pub waiting_for_order : List Entry → List Candidate
waiting_for_order H = candidates (confirmed_searches H) (orders H)

-- What the next request for an order comes to at a moment: the next order, or why there is none. Orders that were
-- carried over take up their commits and days, and no numbers
abbrev pub next_order_at : List Entry → (moment : ℕ) → Result Draft NoOrder
next_order_at H moment =
    next_draft (confirmed_searches H) (orders H) (length (order_lines H)) (day_in H moment) (daily_limit H)
