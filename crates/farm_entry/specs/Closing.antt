-- When a farm may be closed, and which orders of a farm before it a farm may carry over: the entries that no command
-- adds.
use Rattle.std.specs.Prelude.{ℕ, ◌==◌, ◌≢◌, ◌≤◌, nat_le, nat_lt, Bool, true, false, not, ◌&&◌, ◌||◌, List, length, AllPairs}
use Rattle.std.specs.List.{All, list_all, list_any}
use Rattle.farm_rules.specs.Orders.{Ordered, has_order}
use Rattle.farm_types.specs.Moment.{moment_ms}
use Rattle.farm_types.specs.declared.commit_id.CommitId.{CommitId}
use Rattle.farm_types.specs.declared.moment.Moment.{Moment}
use Rattle.farm_types.specs.declared.moment.TheConstants.{LAST_DAY}
use Rattle.farm_entry.specs.Decision.{last_moment}
use Rattle.farm_entry.specs.History.{daily_limit, is_closed, openings}
use Rattle.farm_entry.specs.Orders.{orders, waiting_for_order}
use Rattle.farm_entry.specs.Standing.{is_active, standing}
use Rattle.farm_entry.specs.declared.entry.Entry.{Entry}
use Rattle.farm_entry.specs.declared.entry.What.{What}
use Rattle.farm_entry.specs.declared.entry.What.TheVariants.{Founded, Carried}
use Rattle.farm_entry.specs.declared.limits.TheConstants.{MAX_CARRIED, MAX_ENTRIES}

-- Whether a farm is busy.

-- whether some search goes on
abbrev pub has_active : List Entry → Bool
has_active H = list_any (λ o. is_active (standing H o)) (openings H)

-- whether some order is still to be taken. With a daily limit of 0 none ever is
abbrev pub has_order_to_take : List Entry → Bool
has_order_to_take H = nat_lt 0 (daily_limit H) && nat_lt 0 (length (waiting_for_order H))

-- Whether a farm is busy: a search goes on, or an order is still to be taken. A full farm can't go on, so it isn't:
-- what it leaves is opened anew in the next one
abbrev pub is_busy : List Entry → Bool
is_busy H = nat_lt (length H) MAX_ENTRIES && (has_active H || has_order_to_take H)

-- a closing may come next, at this moment: none stands there, the farm isn't busy, and moments don't fall
abbrev pub may_close : List Entry → Moment → Bool
may_close H m =
    not (is_closed H) && not (is_busy H) && nat_le (moment_ms (last_moment m H)) (moment_ms m)

-- What is carried over.

-- whether an entry is what a farm begins with: its founding, or a carried order
abbrev pub is_beginning : What → Bool
is_beginning (Founded settings) = true
is_beginning (Carried commit day) = true
is_beginning _ = false

-- whether it is that, at this moment
abbrev pub begins_at : Moment → Entry → Bool
begins_at m e = is_beginning e.what && moment_ms e.at == moment_ms m

-- a carried order may come next, at this moment: there is room, only the founding and carried orders stand there, all
-- at this moment, none for its commit, and its day is one
abbrev pub may_carry : List Entry → Moment → CommitId → (day : ℕ) → Bool
may_carry H m commit day =
    nat_lt (length H) MAX_ENTRIES && list_all (begins_at m) H && not (has_order (orders H) commit)
    && nat_le day LAST_DAY

-- orders that a farm can begin with: as many as fit a record, each of another commit, and on a day
pub record CanBeCarried (orders : List Ordered) : Type 0 where
  pub few : length orders ≤ MAX_CARRIED
  pub apart : AllPairs (λ (a b : Ordered). a.commit ≢ b.commit) orders
  pub dated : All (λ (o : Ordered). o.day ≤ LAST_DAY) orders
