-- The searches that wait for an order: confirmed ones whose commit has none.
use Rattle.std.specs.Prelude.{◌≡◌, ℕ, ◌+◌, ◌-◌, ◌<◌, ◌≤◌, min, List, length, take, get_or, if◌then◌else◌, Option, Some, None}
use Rattle.std.specs.Option.{option_and_then}
use Rattle.farm_rules.specs.Orders.{Ordered, candidates, earliest, has_order}
use Rattle.farm_rules.specs.declared.orders.Candidate.{Candidate}
use Rattle.farm_entry.specs.History.{lease_of, opening_numbered, openings}
use Rattle.farm_entry.specs.Orders.{confirmed_at, confirmed_searches, orders}
use Rattle.farm_entry.specs.Standing.{standing}
use Rattle.farm_entry.specs.declared.entry.Entry.{Entry}
use Rattle.farm_entry.specs.declared.lease.LeasedRun.{LeasedRun}
use Rattle.farm_entry.specs.declared.opening.Opening.{Opening}

-- a confirmed search, while its commit has no order
abbrev pub unordered : List Ordered → Option Candidate → Option Candidate
unordered orders None = None
unordered orders (Some c) = if has_order orders c.commit then None else Some c

-- a search, where it waits for an order
abbrev pub waiting : List Entry → Opening → Option Candidate
waiting H o = unordered (orders H) (confirmed_at (standing H o) o)

-- the search with a number, where it waits for an order
abbrev pub waiting_numbered : List Entry → (number : ℕ) → Option Candidate
waiting_numbered H number = option_and_then (waiting H) (opening_numbered H number)

-- none of the searches up to a number waits for an order
pub record IsServed (H : List Entry) (low : ℕ) : Type 0 where
  pub within : low ≤ length (openings H)
  pub none : (number : ℕ) → number ≤ low → waiting_numbered H number ≡ None

-- so many searches stand before the first one that waits for an order, or all where none does
pub record IsLowest (H : List Entry) (low : ℕ) : Type 0 where
  pub served : IsServed H low
  pub first : waiting_numbered H (low + 1) ≡ earliest (candidates (confirmed_searches H) (orders H))

-- beside each entry stands how many those are of the history up to it and with it
pub record AreLowest (H : List Entry) (lows : List ℕ) : Type 0 where
  pub as_many : length lows ≡ length H
  pub each : (k : ℕ) → k < length H → IsLowest (take (k + 1) H) (get_or lows k 0)

-- What a report, with a verdict or not, makes of the number up to which none waits: where its search does now, one less
-- than that search's.

abbrev pub low_at : (low search : ℕ) → Option Candidate → ℕ
low_at low search None = low
low_at low search (Some c) = min low (search - 1)

abbrev pub low_leased : List Entry → (low : ℕ) → Option LeasedRun → ℕ
low_leased H low None = low
low_leased H low (Some l) = low_at low l.search (waiting_numbered H l.search)

abbrev pub low_after : List Entry → (low : ℕ) → (told : Option ℕ) → ℕ
low_after H low None = low
low_after H low (Some run) = low_leased H low (lease_of H run)
