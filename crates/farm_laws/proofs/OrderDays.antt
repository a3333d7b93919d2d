-- Each order is of a day within the limits of moments and zones.
use Rattle.std.proofs.Common.{ℕ, ◌≤◌, ℤ, pos, negsuc, ◌+ℤ◌, ◌*ℤ◌, ◌≤ℤ◌, List, All, Contains, Option, Some, None, ◌≡◌, refl, subst, sym, arith}
use Rattle.std.specs.Int.{int_div_euclid}
use Rattle.std.specs.Option.{option_map, unwrap_or}
use Rattle.std.proofs.lemmas.Int.{ints}
use Rattle.std.proofs.lemmas.List.Elements.{All-contains}
use Rattle.std.proofs.lemmas.Option.{none-some}
use Rattle.farm_rules.specs.Day.{day_at, not_negative}
use Rattle.farm_rules.specs.Orders as rules
use Rattle.farm_types.specs.Moment.{moment_ms}
use Rattle.farm_types.specs.declared.moment.Moment.{Moment}
use Rattle.farm_types.specs.declared.moment.TheConstants.{LAST_DAY, MOMENT_MAX_MS}
use Rattle.farm_types.specs.declared.zone.TheConstants.{ZONE_MAX_MINUTES}
use Rattle.farm_entry.specs.History.{order_in, order_lines, ordered_in, settings_of, zone_minutes}
use Rattle.farm_entry.specs.Legal.{IsFounding, IsLegal}
use Rattle.farm_entry.specs.Orders.{orders}
use Rattle.farm_entry.specs.Settings.{settings_zone_minutes}
use Rattle.farm_entry.specs.declared.entry.Entry.{Entry}
use Rattle.farm_entry.specs.declared.entry.What.{What}
use Rattle.farm_entry.specs.declared.entry.What.TheVariants.{Founded, Opened, Leased, Reported, Skipped, Cancelled, Ordered, Carried, Closed}
use Rattle.farm_entry.specs.declared.order_page.OrderLine.{OrderLine}
use Rattle.farm_entry.specs.declared.settings.Settings.{Settings}
use Rattle.farm_laws.proofs.EntryParts.{each_part, ordered-facts}
use Rattle.farm_laws.proofs.Numbered.{no_order}
use Rattle.farm_laws.proofs.Stepped.{Stepped}

-- a number of milliseconds before the end of a day is on that day or before it
day-le : (w : ℤ) → w ≤ℤ pos 4_102_531_199_999 → not_negative (int_div_euclid w (pos 86_400_000)) ≤ LAST_DAY
day-le (pos a) low = let small : a ≤ 4_102_531_199_999 = omega (arith, ints, low) in omega arith
day-le (negsuc a) low = omega arith

-- no moment is on a later day than 2100-01-01, in no zone
day_at-le : (ms : ℕ) (zone : ℤ) → ms ≤ MOMENT_MAX_MS → zone ≤ℤ ZONE_MAX_MINUTES → day_at ms zone ≤ LAST_DAY
day_at-le ms zone late east =
    let low : (pos ms +ℤ zone *ℤ pos 60_000) ≤ℤ pos 4_102_531_199_999 = omega (arith, ints) in
    day-le (pos ms +ℤ zone *ℤ pos 60_000) low

-- the zone of a farm isn't further east than zones are
zone-le : (o : Option Settings) → unwrap_or (option_map settings_zone_minutes o) (pos 0) ≤ℤ ZONE_MAX_MINUTES
zone-le None = omega (arith, ints)
zone-le (Some s) = s.zone_in_range.1

order-days : (H : List Entry) → IsLegal H → All (λ (x : OrderLine). x.day ≤ LAST_DAY) (order_lines H)
order-days =
    each_part order_in (λ (H : List Entry) (x : OrderLine). x.day ≤ LAST_DAY) no_order (λ H e x legal s before. before)
    (λ H e x legal s is.
    subst (λ (day : ℕ). day ≤ LAST_DAY) (sym (ordered-facts H e.at e.what x is s).dated)
    (day_at-le (moment_ms e.at) (zone_minutes H) e.at.in_range.1 (zone-le (settings_of H))))

-- the same of each order
pub order-day : (H : List Entry) (x : OrderLine) → IsLegal H → Contains (order_lines H) x → x.day ≤ LAST_DAY
order-day H x legal there = All-contains (λ (y : OrderLine). y.day ≤ LAST_DAY) (order_lines H) x (order-days H legal) there

-- The same of the orders that were carried over.

-- an order of either kind
ordered-dated : (H : List Entry) (m : Moment) (w : What) (x : rules.Ordered) → ordered_in w ≡ Some x → Stepped H m w →
    x.day ≤ LAST_DAY
ordered-dated H m (Ordered k a n c q d) x h s =
    let made : rules.Ordered = record { commit = c; day = d } in
    let same : made ≡ x = cc in
    let dated : d ≤ LAST_DAY =
    subst (λ (day : ℕ). day ≤ LAST_DAY) (sym s.facts.dated)
    (day_at-le (moment_ms m) (zone_minutes H) m.in_range.1 (zone-le (settings_of H))) in
    subst (λ (y : rules.Ordered). y.day ≤ LAST_DAY) same dated
ordered-dated H m (Carried c t) x h s =
    let made : rules.Ordered = record { commit = c; day = t } in
    let same : made ≡ x = cc in
    subst (λ (y : rules.Ordered). y.day ≤ LAST_DAY) same s.facts.dated
ordered-dated H m (Founded y) x h s = absurd (none-some x h)
ordered-dated H m (Opened y) x h s = absurd (none-some x h)
ordered-dated H m (Leased k w n q t p d) x h s = absurd (none-some x h)
ordered-dated H m (Reported n v _) x h s = absurd (none-some x h)
ordered-dated H m (Skipped n _) x h s = absurd (none-some x h)
ordered-dated H m (Cancelled k q) x h s = absurd (none-some x h)
ordered-dated H m Closed x h s = absurd (none-some x h)

no_ordered : (w : What) → IsFounding w → ordered_in w ≡ None
no_ordered (Founded s) h = refl
no_ordered (Opened o) h = absurd h
no_ordered (Leased k w r q t p d) h = absurd h
no_ordered (Reported r v _) h = absurd h
no_ordered (Skipped r _) h = absurd h
no_ordered (Cancelled k q) h = absurd h
no_ordered (Ordered k a n c q d) h = absurd h
no_ordered (Carried c t) h = absurd h
no_ordered Closed h = absurd h

pub all-days : (H : List Entry) → IsLegal H → All (λ (x : rules.Ordered). x.day ≤ LAST_DAY) (orders H)
all-days =
    each_part ordered_in (λ (H : List Entry) (x : rules.Ordered). x.day ≤ LAST_DAY) no_ordered
    (λ H e x legal s before. before) (λ H e x legal s is. ordered-dated H e.at e.what x is s)
