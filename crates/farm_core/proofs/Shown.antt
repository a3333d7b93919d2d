-- What a command comes to that only shows something: it has no key, and is answered at a history too that takes no
-- more.
use Rattle.std.proofs.Common.{◌≡◌, nat_le, not, ◌&&◌, ℕ, Bool, true, false, if◌then◌else◌, List, length, Some, None, refl}
use Rattle.farm_types.specs.declared.moment.Moment.{Moment}
use Rattle.farm_entry.specs.Decision.{decide, or_else, page_decision, runs_decision}
use Rattle.farm_entry.specs.History.{is_closed, opening_numbered, order_lines}
use Rattle.farm_entry.specs.Pages.{totals}
use Rattle.farm_entry.specs.SearchLines.{search_list}
use Rattle.farm_entry.specs.declared.command.Command.TheVariants.{ShowSearch, ShowFarm, ShowOrders, ShowRuns, ShowSearches}
use Rattle.farm_entry.specs.declared.decision.Decision.{Decision}
use Rattle.farm_entry.specs.declared.decision.Decision.TheVariants.{Refuse, Show}
use Rattle.farm_entry.specs.declared.entry.Entry.{Entry}
use Rattle.farm_entry.specs.declared.limits.TheConstants.{MAX_ENTRIES}
use Rattle.farm_entry.specs.declared.refusal.Refusal.TheVariants.{Closed, Full}
use Rattle.farm_entry.specs.declared.reply.Reply.TheVariants as reply

-- a history that takes no more shows, be it full or closed
past-full : (full closed : Bool) (d : Decision) →
    or_else
    (if full && not true then Some (Refuse Full) else (if closed && not true then Some (Refuse Closed) else None)) d
    ≡ d
past-full true true d = refl
past-full true false d = refl
past-full false true d = refl
past-full false false d = refl

pub decide-search : (H : List Entry) (search : ℕ) (m : Moment)
    → decide H (ShowSearch search) m ≡ page_decision H search (opening_numbered H search)
decide-search H search m =
    past-full (nat_le MAX_ENTRIES (length H)) (is_closed H) (page_decision H search (opening_numbered H search))

pub decide-farm : (H : List Entry) (m : Moment) → decide H ShowFarm m ≡ Show (reply.Farm (totals H))
decide-farm H m = past-full (nat_le MAX_ENTRIES (length H)) (is_closed H) (Show (reply.Farm (totals H)))

pub decide-orders : (H : List Entry) (m : Moment) → decide H ShowOrders m ≡ Show (reply.Orders (order_lines H))
decide-orders H m = past-full (nat_le MAX_ENTRIES (length H)) (is_closed H) (Show (reply.Orders (order_lines H)))

pub decide-runs : (H : List Entry) (search from : ℕ) (m : Moment)
    → decide H (ShowRuns search from) m ≡ runs_decision H search from (opening_numbered H search)
decide-runs H search from m =
    past-full (nat_le MAX_ENTRIES (length H)) (is_closed H) (runs_decision H search from (opening_numbered H search))

pub decide-searches : (H : List Entry) (from : ℕ) (m : Moment)
    → decide H (ShowSearches from) m ≡ Show (reply.Searches (search_list H from))
decide-searches H from m =
    past-full (nat_le MAX_ENTRIES (length H)) (is_closed H) (Show (reply.Searches (search_list H from)))

pub ruleset shown = (decide-search, decide-farm, decide-orders, decide-runs, decide-searches)
