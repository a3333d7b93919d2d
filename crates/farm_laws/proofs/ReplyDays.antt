-- The days that a farm's replies show, and those that its refusals name, are at most the last one.
use Rattle.std.proofs.Common.{◌≡◌, ◌+◌, ◌≤◌, ℕ, nat_le, Bool, true, false, not, ◌&&◌, if◌then◌else◌, List, length, slice_get, slice_index_or, take, Option, Some, None, Result, Ok, Err, refl, sym, subst, true≢false}
use Rattle.std.specs.Option.{option_and_then, option_map}
use Rattle.std.proofs.lemmas.List.Elements.{All-contains_itself}
use Rattle.std.proofs.lemmas.Option.{none-some}
use Rattle.farm_types.specs.declared.key.Key.{Key}
use Rattle.farm_types.specs.declared.moment.Moment.{Moment}
use Rattle.farm_types.specs.declared.moment.TheConstants.{LAST_DAY}
use Rattle.farm_entry.specs.Decision.{asked_before, closed_decision, decide, is_show, full_decision, keyed_decision, known_decision, moment_used, or_else, own_decision, page_decision, refuse_opening, repeat_or_clash, runs_decision, shape_decision}
use Rattle.farm_entry.specs.History.{is_closed, lease_of, opening_numbered, order_in, order_lines, place_of_key, place_of_report}
use Rattle.farm_entry.specs.Legal.{IsLegal}
use Rattle.farm_entry.specs.Reply.{reply_at, reply_to, reply_to_report, reply_to_skip}
use Rattle.farm_entry.specs.Setup.{budget_of_search}
use Rattle.farm_entry.specs.Standing.{standing}
use Rattle.farm_entry.specs.declared.command.Command.{Command}
use Rattle.farm_entry.specs.declared.command.Command.TheVariants as command
use Rattle.farm_entry.specs.declared.decision.Decision.{Decision}
use Rattle.farm_entry.specs.declared.decision.Decision.TheVariants.{Refuse, Repeat, Show}
use Rattle.farm_entry.specs.declared.entry.Entry.{Entry}
use Rattle.farm_entry.specs.declared.entry.What.{What}
use Rattle.farm_entry.specs.declared.entry.What.TheVariants.{Founded, Opened, Leased, Reported, Skipped, Cancelled, Ordered, Carried, Closed}
use Rattle.farm_entry.specs.declared.lease.LeasedRun.{LeasedRun}
use Rattle.farm_entry.specs.declared.limits.TheConstants.{MAX_ENTRIES}
use Rattle.farm_entry.specs.declared.opening.Opening.{Opening}
use Rattle.farm_entry.specs.declared.order_page.OrderLine.{OrderLine}
use Rattle.farm_entry.specs.declared.refusal.OpenFault.{OpenFault}
use Rattle.farm_entry.specs.declared.refusal.Refusal.TheVariants.{Full, Closed as FarmClosed, KeyClash}
use Rattle.farm_entry.specs.declared.reply.Reply.{Reply}
use Rattle.farm_entry.specs.declared.reply.Reply.TheVariants as reply
use Rattle.farm_laws.specs.Days.{HasDays}
use Rattle.farm_laws.proofs.Lists.{filter_map-at}
use Rattle.farm_laws.proofs.OrderDays.{order-day}
use Rattle.farm_laws.proofs.OwnWays.{either-way, own-way}

-- Replies of entries.

-- the order that an entry holds, if it holds one, is of a day in range
abbrev OrderInRange : What → Type 0
OrderInRange w = (x : OrderLine) → order_in w ≡ Some x → x.day ≤ LAST_DAY

in_range-at : (H : List Entry) (place : ℕ) (e : Entry) → IsLegal H → slice_get H place ≡ Some e → OrderInRange e.what
in_range-at H place e legal there x is =
    order-day H x legal (filter_map-at (λ (a : Entry). order_in a.what) H place e x there is)

mapped-days : {X : Type 0} (make : X → Reply) → ((x : X) → HasDays (make x)) → (o : Option X) (r : Reply)
    → option_map make o ≡ Some r → HasDays r
mapped-days make dates None r is = absurd (none-some r is)
mapped-days make dates (Some x) r is = let same : make x ≡ r = cc in subst HasDays same (dates x)

reported-days : (l : Option LeasedRun) (r : Reply) (make : LeasedRun → Option Reply)
    → ((l : LeasedRun) → make l ≡ Some r → HasDays r) → option_and_then make l ≡ Some r → HasDays r
reported-days None r make dates is = absurd (none-some r is)
reported-days (Some l) r make dates is = dates l is

replied-days : (H : List Entry) (w : What) (r : Reply) → OrderInRange w → reply_to H w ≡ Some r → HasDays r
replied-days H (Founded settings) r few is = absurd (none-some r is)
replied-days H (Opened o) r few is = let same : reply.Opened o.search (budget_of_search o) (standing H o) ≡ r = cc in
    subst HasDays same tt
replied-days H (Leased key worker run search stage position deadline) r few is =
    mapped-days _ (λ o. tt) (opening_numbered H search) r is
replied-days H (Reported run verdict fate) r few is =
    reported-days (lease_of H run) r (reply_to_report H verdict fate)
    (λ l said. mapped-days _ (λ o. tt) (opening_numbered H l.search) r said) is
replied-days H (Skipped run fate) r few is =
    reported-days (lease_of H run) r (reply_to_skip H fate)
    (λ l said. mapped-days _ (λ o. tt) (opening_numbered H l.search) r said) is
replied-days H (Cancelled key search) r few is = let same : reply.Cancelled search ≡ r = cc in subst HasDays same tt
replied-days H (Ordered key agent order commit search day) r few is =
    let same : reply.Ordered order commit search day ≡ r = cc in
    subst HasDays same (few (record { order = order; agent = agent; commit = commit; search = search; day = day }) refl)
replied-days H (Carried c t) r few is = absurd (none-some r is)
replied-days H Closed r few is = absurd (none-some r is)

at-days : (H : List Entry) (place : ℕ) (r : Reply) (o : Option Entry) → IsLegal H → slice_get H place ≡ o
    → option_and_then (λ (e : Entry). reply_to (take (place + 1) H) e.what) o ≡ Some r → HasDays r
at-days H place r None legal there is = absurd (none-some r is)
at-days H place r (Some e) legal there is =
    replied-days (take (place + 1) H) e.what r (in_range-at H place e legal there) is

-- the days of the reply of an entry
pub reply-days : (H : List Entry) (place : ℕ) (r : Reply) → IsLegal H → reply_at H place ≡ Some r → HasDays r
reply-days H place r legal is = at-days H place r (slice_get H place) legal refl is

-- Replies that show.

abbrev ShowsDays : Decision → Type 0
ShowsDays (Show r) = HasDays r
ShowsDays _ = Unit {0}

abbrev ShowsDaysIn : Option Decision → Type 0
ShowsDaysIn None = Unit {0}
ShowsDaysIn (Some d) = ShowsDays d

page-days : (H : List Entry) (search : ℕ) (o : Option Opening) → ShowsDays (page_decision H search o)
page-days H search None = tt
page-days H search (Some o) = tt

runs-days : (H : List Entry) (search from : ℕ) (o : Option Opening) → ShowsDays (runs_decision H search from o)
runs-days H search from None = tt
runs-days H search from (Some o) = tt

-- of a command that only shows
show-days : (H : List Entry) (q : Command) (m : Moment) → IsLegal H → is_show q ≡ true → ShowsDays (own_decision H q m)
show-days H (command.ShowSearch search) m legal shows = page-days H search _
show-days H command.ShowFarm m legal shows = tt
show-days H command.ShowOrders m legal shows = λ k d below.
    order-day H (slice_index_or (order_lines H) k d) legal (All-contains_itself (order_lines H) k d below)
show-days H (command.ShowRuns search from) m legal shows = runs-days H search from _
show-days H (command.ShowSearches from) m legal shows = tt
show-days H (command.Open ask) m legal shows = absurd (true≢false (sym shows))
show-days H (command.Lease key worker) m legal shows = absurd (true≢false (sym shows))
show-days H (command.Report run verdict) m legal shows = absurd (true≢false (sym shows))
show-days H (command.Skip run) m legal shows = absurd (true≢false (sym shows))
show-days H (command.Cancel key search) m legal shows = absurd (true≢false (sym shows))
show-days H (command.TakeRevert key agent) m legal shows = absurd (true≢false (sym shows))

own-days : (H : List Entry) (q : Command) (m : Moment) → IsLegal H → ShowsDays (own_decision H q m)
own-days H q m legal = own-way ShowsDays (λ e. tt) (λ cause. tt) H q m (show-days H q m legal)

refused-days : (made : Result Opening OpenFault) → ShowsDaysIn (refuse_opening made)
refused-days (Ok o) = tt
refused-days (Err f) = tt

shape-days : (q : Command) → ShowsDaysIn (shape_decision q)
shape-days (command.Open ask) = refused-days _
shape-days (command.Lease key worker) = tt
shape-days (command.Report run verdict) = tt
shape-days (command.Skip run) = tt
shape-days (command.Cancel key search) = tt
shape-days (command.TakeRevert key agent) = tt
shape-days (command.ShowSearch search) = tt
shape-days command.ShowFarm = tt
shape-days command.ShowOrders = tt
shape-days (command.ShowRuns search from) = tt
shape-days (command.ShowSearches from) = tt

placed-days : (f : ℕ → Decision) → ((place : ℕ) → ShowsDays (f place)) → (o : Option ℕ) → ShowsDaysIn (option_map f o)
placed-days f dates None = tt
placed-days f dates (Some place) = dates place

keyed-days : (H : List Entry) (q : Command) (key : Option Key) → ShowsDaysIn (keyed_decision H q key)
keyed-days H q None = tt
keyed-days H q (Some key) =
    placed-days (repeat_or_clash H q)
    (λ place. either-way ShowsDays (asked_before (slice_get H place) q) (Repeat place) (Refuse (KeyClash place)) tt tt)
    (place_of_key H key)

known-days : (H : List Entry) (q : Command) → ShowsDaysIn (known_decision H q)
known-days H (command.Open ask) = keyed-days H (command.Open ask) (Some ask.key)
known-days H (command.Lease key worker) = keyed-days H (command.Lease key worker) (Some key)
known-days H (command.Report run verdict) = placed-days Repeat (λ place. tt) (place_of_report H run)
known-days H (command.Skip run) = placed-days Repeat (λ place. tt) (place_of_report H run)
known-days H (command.Cancel key search) = keyed-days H (command.Cancel key search) (Some key)
known-days H (command.TakeRevert key agent) = keyed-days H (command.TakeRevert key agent) (Some key)
known-days H (command.ShowSearch search) = keyed-days H (command.ShowSearch search) None
known-days H command.ShowFarm = keyed-days H command.ShowFarm None
known-days H command.ShowOrders = keyed-days H command.ShowOrders None
known-days H (command.ShowRuns search from) = keyed-days H (command.ShowRuns search from) None
known-days H (command.ShowSearches from) = keyed-days H (command.ShowSearches from) None

either-days-in : (b : Bool) (x y : Option Decision) → ShowsDaysIn x → ShowsDaysIn y → ShowsDaysIn (if b then x else y)
either-days-in true x y first second = first
either-days-in false x y first second = second

full-days : (H : List Entry) (q : Command) → ShowsDaysIn (full_decision H q)
full-days H q =
    either-days-in (nat_le MAX_ENTRIES (length H) && not (is_show q)) (Some (Refuse Full)) (closed_decision H q) tt
    (either-days-in (is_closed H && not (is_show q)) (Some (Refuse FarmClosed)) None tt tt)

first-days : (o : Option Decision) (d : Decision) → ShowsDaysIn o → ShowsDays d → ShowsDays (or_else o d)
first-days None d first second = second
first-days (Some e) d first second = first

decide-days : (H : List Entry) (q : Command) (m : Moment) → IsLegal H → ShowsDays (decide H q m)
decide-days H q m legal =
    first-days (shape_decision q) _ (shape-days q)
    (first-days (known_decision H q) _ (known-days H q)
    (first-days (full_decision H q) _ (full-days H q) (own-days H q (moment_used H m) legal)))

-- the days of what a command shows
pub shown-days : (H : List Entry) (q : Command) (m : Moment) (r : Reply) → IsLegal H → decide H q m ≡ Show r → HasDays r
shown-days H q m r legal is = subst ShowsDays is (decide-days H q m legal)
