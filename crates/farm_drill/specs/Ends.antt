-- How far a drill is played: until no run is left, and then until no revert is.
use Rattle.std.specs.Prelude.{◌≡◌, ◌⊎◌, ℕ, ◌+◌, true, List, ◌++◌, length, All, is_some, None, ⊤}
use Rattle.farm_types.specs.Moment.{moment_ms}
use Rattle.farm_types.specs.declared.key.Key.{Key}
use Rattle.farm_types.specs.declared.moment.Moment.{Moment}
use Rattle.farm_rules.specs.Orders.{orders_of}
use Rattle.farm_entry.specs.Decision.{decide, last_moment}
use Rattle.farm_entry.specs.History.{all_leases, is_reported, order_in, order_lines, place_of_key}
use Rattle.farm_entry.specs.Orders.{orders}
use Rattle.farm_entry.specs.declared.command.Command.TheVariants.{Lease, TakeRevert}
use Rattle.farm_entry.specs.declared.decision.Decision.{Decision}
use Rattle.farm_entry.specs.declared.decision.Decision.TheVariants.{Refuse}
use Rattle.farm_entry.specs.declared.entry.Entry.{Entry}
use Rattle.farm_entry.specs.declared.limits.TheConstants.{MAX_ENTRIES}
use Rattle.farm_entry.specs.declared.refusal.Refusal.TheVariants.{DailyLimit, Full, NoRevert, NoRun}
use Rattle.drill_plan.specs.Start.{drill_moment, revert_ms}
use Rattle.drill_plan.specs.declared.limits.TheConstants.{DRILL_DAILY}

-- a history has no room for a further entry
abbrev pub IsFull : List Entry → Type 0
IsFull H = length H ≡ MAX_ENTRIES

-- each run that was handed out is reported
abbrev pub AllReported : List Entry → Type 0
AllReported H = All (λ l. is_reported H l.run ≡ true) (all_leases H)

-- no run is due at the last moment: whoever asks for one, under a key that stands in no entry, is refused
abbrev pub NoneIsDue : List Entry → Type 0
NoneIsDue H =
    (key : Key) (worker : List ℕ) → place_of_key H key ≡ None
    → decide H (Lease key worker) (last_moment drill_moment H) ≡ Refuse NoRun

-- the runs have come to their end
pub record AreRun (H : List Entry) : Type 0 where
  pub reported : AllReported H
  pub none_due : NoneIsDue H

-- entries are orders alone
abbrev pub AreOrders : List Entry → Type 0
AreOrders es = All (λ e. is_some (order_in e.what) ≡ true) es

-- A history is one at which the runs had come to their end, or which was full, with orders alone after it.
pub record RunsEnded (H : List Entry) : Type 0 where
  pub runs : List Entry
  pub orders : List Entry
  pub is : H ≡ runs ++ orders
  pub only : AreOrders orders
  pub ended : IsFull runs ⊎ AreRun runs

-- no order is given, since no culprit is left to be reverted, since the day has all of its orders, or since the history
-- is full
abbrev pub NoOrderGiven : List Entry → Decision → Type 0
NoOrderGiven H (Refuse NoRevert) = ⊤
NoOrderGiven H (Refuse (DailyLimit day count)) = (orders_of day (orders H) ≡ DRILL_DAILY) × (count ≡ DRILL_DAILY)
NoOrderGiven H (Refuse Full) = IsFull H
NoOrderGiven H _ = ⊥

-- whoever asks for the next revert at its moment, under a key that stands in no entry, is given no order
abbrev pub RevertsEnded : List Entry → Type 0
RevertsEnded H =
    (key : Key) (agent : List ℕ) (at : Moment) → moment_ms at ≡ revert_ms (length (order_lines H) + 1)
    → place_of_key H key ≡ None → NoOrderGiven H (decide H (TakeRevert key agent) at)
