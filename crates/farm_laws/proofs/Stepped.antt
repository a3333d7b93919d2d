-- What it says of an entry that it may come next: one set of facts for each kind of entry.
use Rattle.std.proofs.Common.{◌≡◌, ℕ, ◌+◌, ◌<◌, ◌≤◌, Bool, true, false, not, ◌&&◌, nat_le, nat_lt, List, length, slice_get, if◌then◌else◌, Option, Some, None, Result, Ok, Err, refl, sym, ap, subst, arith, true≢false}
use Rattle.std.specs.List.{list_all}
use Rattle.std.specs.Option.{option_map}
use Rattle.std.proofs.lemmas.Bool.{and_parts, leb-true, ltb-true, not-true}
use Rattle.std.proofs.lemmas.Bool.Decides.{nat_tests}
use Rattle.std.proofs.lemmas.Option.{none-some}
use Rattle.weight_exact.specs.declared.run.Verdict.{Verdict}
use Rattle.farm_rules.specs.Orders.{has_order}
use Rattle.farm_rules.specs.declared.orders.Draft.{Draft}
use Rattle.farm_rules.specs.declared.orders.NoOrder.{NoOrder}
use Rattle.farm_rules.specs.declared.orders.NoOrder.TheVariants as none
use Rattle.farm_types.specs.Moment.{moment_ms}
use Rattle.farm_types.specs.declared.commit_id.CommitId.{CommitId}
use Rattle.farm_types.specs.declared.key.Key.{Key}
use Rattle.farm_types.specs.declared.moment.Moment.{Moment}
use Rattle.farm_types.specs.declared.moment.TheConstants.{LAST_DAY}
use Rattle.farm_rules.proofs.Drafts.{next_draft-ok}
use Rattle.farm_entry.specs.Decision.{add_at, add_opening, decide, asked_before, fate_of, full_decision, is_show, keyed_decision, known_decision, lease_decision, moment_used, or_else, own_decision, refuse_opening, repeat_or_clash, report_decision, cancel_decision, closed_decision, last_moment, revert_decision, shape_decision, skip_decision, skip_fate_of}
use Rattle.farm_entry.specs.Ask.{opening_of}
use Rattle.farm_entry.specs.Closing.{begins_at, is_busy}
use Rattle.farm_entry.specs.Due.{next_run}
use Rattle.farm_entry.specs.History.{all_leases, daily_limit, is_closed, is_closing, key_in, lease_ms, lease_of, opening_numbered, openings, order_lines, place_of_key, place_of_report}
use Rattle.farm_entry.specs.Legal.{IsAddedBy, IsNext, ask_of, command_of}
use Rattle.farm_entry.specs.Orders.{confirmed_searches, day_in, next_order_at, orders}
use Rattle.farm_entry.specs.Standing.{is_active, standing}
use Rattle.farm_entry.specs.declared.decision.Decision.{Decision}
use Rattle.farm_entry.specs.declared.decision.Decision.TheVariants.{New, Refuse, Repeat, Show}
use Rattle.farm_entry.specs.declared.command.Command.{Command}
use Rattle.farm_entry.specs.declared.lease.DueRun.{DueRun}
use Rattle.farm_entry.specs.declared.lease.LeasedRun.{LeasedRun}
use Rattle.farm_entry.specs.declared.command.Command.TheVariants as command
use Rattle.farm_entry.specs.declared.entry.Entry.{Entry}
use Rattle.farm_entry.specs.declared.entry.Fate.{Fate}
use Rattle.farm_entry.specs.declared.entry.SkipFate.{SkipFate}
use Rattle.farm_entry.specs.declared.entry.What.{What}
use Rattle.farm_entry.specs.declared.entry.What.TheVariants.{Founded, Opened, Leased, Reported, Skipped, Cancelled, Ordered, Carried, Closed}
use Rattle.farm_entry.specs.declared.limits.TheConstants.{MAX_ENTRIES, MAX_SEARCHES}
use Rattle.farm_entry.specs.declared.opening.Opening.{Opening}
use Rattle.farm_entry.specs.declared.refusal.OpenFault.{OpenFault}
use Rattle.farm_entry.specs.declared.refusal.Refusal.{Refusal}
use Rattle.farm_entry.specs.declared.refusal.Refusal.TheVariants.{Full, Closed as FarmClosed, KeyClash, SearchEnded, TooManySearches}
use Rattle.farm_laws.proofs.Begun.{is_closed-begun, later-second, moment_used-begun}

-- The facts of each kind, at a history and the moment of the entry.

-- a search was opened: there were fewer than the most, and it is what its open asks for, under the next number
pub record OpenedNext (H : List Entry) (o : Opening) : Type 0 where
  pub few : length (openings H) < MAX_SEARCHES
  pub made : opening_of (ask_of o) (length (openings H) + 1) ≡ Ok o

-- a run was handed out: the due one, under the next number, until one lease time later
pub record LeasedNext (H : List Entry) (m : Moment) (l : LeasedRun) : Type 0 where
  pub due : next_run H (moment_ms m) ≡ Some (record { search = l.search; stage = l.stage; position = l.position })
  pub number : l.run ≡ length (all_leases H) + 1
  pub until : l.deadline ≡ moment_ms m + lease_ms H

-- a run was reported: it was handed out, had no report, and its fate is by the rule
pub record ReportedNext (H : List Entry) (run : ℕ) (verdict : Verdict) (fate : Fate) : Type 0 where
  pub lease : LeasedRun
  pub known : lease_of H run ≡ Some lease
  pub first : place_of_report H run ≡ None
  pub ruled : fate ≡ fate_of H lease verdict (opening_numbered H lease.search)

-- a run was reported as one whose tree can't be tested: it was handed out, had no report, and its fate is by the rule
pub record SkippedNext (H : List Entry) (run : ℕ) (fate : SkipFate) : Type 0 where
  pub lease : LeasedRun
  pub known : lease_of H run ≡ Some lease
  pub first : place_of_report H run ≡ None
  pub ruled : fate ≡ skip_fate_of H lease (opening_numbered H lease.search)

-- what both kinds of report have: the run was handed out, and had no report
pub record ToldNext (H : List Entry) (run : ℕ) : Type 0 where
  pub lease : LeasedRun
  pub known : lease_of H run ≡ Some lease
  pub first : place_of_report H run ≡ None

-- a search was cancelled: one that went on
pub record CancelledNext (H : List Entry) (search : ℕ) : Type 0 where
  pub opening : Opening
  pub known : opening_numbered H search ≡ Some opening
  pub active : is_active (standing H opening) ≡ true

-- an order was handed out: the next one, under the next number, on the day of the moment
pub record OrderedNext (H : List Entry) (m : Moment) (order : ℕ) (commit : CommitId) (search day : ℕ) : Type 0 where
  pub next : next_order_at H (moment_ms m) ≡ Ok (record { order = order; commit = commit; search = search; day = day })
  pub number : order ≡ length (order_lines H) + 1
  pub dated : day ≡ day_in H (moment_ms m)

-- an order was carried over: only the founding and such orders stand there, all at this moment, none is for its commit,
-- and its day is one
pub record CarriedNext (H : List Entry) (m : Moment) (commit : CommitId) (day : ℕ) : Type 0 where
  pub begun : list_all (begins_at m) H ≡ true
  pub free : has_order (orders H) commit ≡ false
  pub dated : day ≤ LAST_DAY

-- the farm was closed: it wasn't busy
pub record ClosedNext (H : List Entry) : Type 0 where
  pub idle : is_busy H ≡ false

abbrev pub KindFacts : List Entry → Moment → What → Type 0
KindFacts H m (Founded settings) = ⊥
KindFacts H m (Opened o) = OpenedNext H o
KindFacts H m (Leased key worker run search stage position deadline) =
    LeasedNext H m (record { run = run; search = search; stage = stage; position = position; deadline = deadline })
KindFacts H m (Reported run verdict fate) = ReportedNext H run verdict fate
KindFacts H m (Skipped run fate) = SkippedNext H run fate
KindFacts H m (Cancelled key search) = CancelledNext H search
KindFacts H m (Ordered key agent order commit search day) = OrderedNext H m order commit search day
KindFacts H m (Carried commit day) = CarriedNext H m commit day
KindFacts H m Closed = ClosedNext H

-- an entry may come next: its moment is not before the last one, the farm isn't closed, there is room, which a closing
-- doesn't need, its key is unused, and the facts of its kind
pub record Stepped (H : List Entry) (m : Moment) (what : What) : Type 0 where
  pub at : moment_used H m ≡ m
  pub unclosed : is_closed H ≡ false
  pub room : is_closing what ≡ false → length H < MAX_ENTRIES
  pub fresh : (key : Key) → key_in what ≡ Some key → place_of_key H key ≡ None
  pub facts : KindFacts H m what

-- The first parts of a decision add nothing.

abbrev adds : Option Decision → Bool
adds None = false
adds (Some (Refuse r)) = false
adds (Some (Repeat p)) = false
adds (Some (Show r)) = false
adds (Some (New e)) = true

-- what is added comes from the rest
rest-adds : (a : Option Decision) (rest : Decision) (e : Entry) → adds a ≡ false → or_else a rest ≡ New e → (a ≡ None) × (rest ≡ New e)
rest-adds None rest e h q = (refl, q)
rest-adds (Some (Refuse r)) rest e h q = (cc, cc)
rest-adds (Some (Repeat p)) rest e h q = (cc, cc)
rest-adds (Some (Show r)) rest e h q = (cc, cc)
rest-adds (Some (New x)) rest e h q = (cc, cc)

map-adds : (f : ℕ → Decision) → ((p : ℕ) → adds (Some (f p)) ≡ false) → (o : Option ℕ) → adds (option_map f o) ≡ false
map-adds f h None = refl
map-adds f h (Some p) = h p

refuse_opening-adds : (r : Result Opening OpenFault) → adds (refuse_opening r) ≡ false
refuse_opening-adds (Ok o) = refl
refuse_opening-adds (Err f) = refl

shape-adds : (q : Command) → adds (shape_decision q) ≡ false
shape-adds (command.Open ask) = refuse_opening-adds (opening_of ask 0)
shape-adds q = refl

repeat_or_clash-adds : (H : List Entry) (q : Command) (p : ℕ) → adds (Some (repeat_or_clash H q p)) ≡ false
repeat_or_clash-adds H q p =
    elim (asked_before (slice_get H p) q) as (λ b. adds (Some (if b then Repeat p else Refuse (KeyClash p))) ≡ false) [ true ↦ refl | false ↦ refl ]

keyed-adds : (H : List Entry) (q : Command) (k : Option Key) → adds (keyed_decision H q k) ≡ false
keyed-adds H q None = refl
keyed-adds H q (Some key) = map-adds (repeat_or_clash H q) (repeat_or_clash-adds H q) (place_of_key H key)

known-adds : (H : List Entry) (q : Command) → adds (known_decision H q) ≡ false
known-adds H (command.Report run verdict) = map-adds Repeat (λ p. refl) (place_of_report H run)
known-adds H (command.Skip run) = map-adds Repeat (λ p. refl) (place_of_report H run)
known-adds H (command.Open ask) = keyed-adds H (command.Open ask) (Some ask.key)
known-adds H (command.Lease key worker) = keyed-adds H (command.Lease key worker) (Some key)
known-adds H (command.Cancel key s) = keyed-adds H (command.Cancel key s) (Some key)
known-adds H (command.TakeRevert key agent) = keyed-adds H (command.TakeRevert key agent) (Some key)
known-adds H (command.ShowSearch s) = refl
known-adds H command.ShowFarm = refl
known-adds H command.ShowOrders = refl
known-adds H (command.ShowRuns search from) = refl
known-adds H (command.ShowSearches from) = refl

closed-adds : (H : List Entry) (q : Command) → adds (closed_decision H q) ≡ false
closed-adds H q =
    elim (is_closed H && not (is_show q)) as (λ b. adds (if b then Some (Refuse FarmClosed) else None) ≡ false)
    [ true ↦ refl | false ↦ refl ]

full-adds : (H : List Entry) (q : Command) → adds (full_decision H q) ≡ false
full-adds H q =
    elim (nat_le MAX_ENTRIES (length H) && not (is_show q)) as
    (λ b. adds (if b then Some (Refuse Full) else closed_decision H q) ≡ false)
    [ true ↦ refl | false ↦ closed-adds H q ]

-- what an added entry passed: the shape, the key or the run, the room, and its own case
pub record Passed (H : List Entry) (q : Command) (m : Moment) (e : Entry) : Type 0 where
  pub shape : shape_decision q ≡ None
  pub known : known_decision H q ≡ None
  pub full : full_decision H q ≡ None
  pub own : own_decision H q (moment_used H m) ≡ New e

pub passed : (H : List Entry) (q : Command) (m : Moment) (e : Entry) → decide H q m ≡ New e → Passed H q m e
passed H q m e h =
    let first = rest-adds (shape_decision q) _ e (shape-adds q) h in
    let second = rest-adds (known_decision H q) _ e (known-adds H q) first.1 in
    let third = rest-adds (full_decision H q) _ e (full-adds H q) second.1 in
    record { shape = first.0; known = second.0; full = third.0; own = third.1 }

few_of : (n most : ℕ) → nat_le most n ≡ false → n < most
few_of n most h = grind (arith, nat_tests)

-- where nothing is refused, a command that doesn't only show finds neither of two tests to hold
taken-both : (full closed show : Bool) → show ≡ false →
    (if full && not show then Some (Refuse Full) else (if closed && not show then Some (Refuse FarmClosed) else None))
    ≡ None → (full ≡ false) × (closed ≡ false)
taken-both full closed true plain h = absurd (true≢false plain)
taken-both true closed false plain h = absurd (none-some _ (sym h))
taken-both false true false plain h = absurd (none-some _ (sym h))
taken-both false false false plain h = (refl, refl)

-- a history that takes a command which doesn't only show has room, and isn't closed
pub room_both : (H : List Entry) (q : Command) → full_decision H q ≡ None → is_show q ≡ false →
    (length H < MAX_ENTRIES) × (is_closed H ≡ false)
room_both H q h plain =
    let both = taken-both (nat_le MAX_ENTRIES (length H)) (is_closed H) (is_show q) plain h in
    (few_of (length H) MAX_ENTRIES both.0, both.1)

-- an option of which nothing is made holds nothing
pub map-none : {X Y : Type 0} (f : X → Y) (o : Option X) → option_map f o ≡ None → o ≡ None
map-none f None h = refl
map-none f (Some x) h = cc

-- a key that no earlier decision knows stands nowhere
pub unused : (H : List Entry) (q : Command) (key : Key) → keyed_decision H q (Some key) ≡ None → place_of_key H key ≡ None
unused H q key h = map-none (repeat_or_clash H q) (place_of_key H key) h

-- the same of an equal key
still_unused : (H : List Entry) (key other : Key) → Some key ≡ Some other → place_of_key H key ≡ None → place_of_key H other ≡ None
still_unused H key other e h =
    let same : key ≡ other = cc in subst (λ (k : Key). place_of_key H k ≡ None) same h

-- What each kind of entry says of its own case.

-- two added entries are the same
same-at : (a b : Entry) → New a ≡ New b → a.at ≡ b.at
same-at a b h = let e : a ≡ b = cc in ap (λ (x : Entry). x.at) e

same-what : (a b : Entry) → New a ≡ New b → a.what ≡ b.what
same-what a b h = let e : a ≡ b = cc in ap (λ (x : Entry). x.what) e

from_open : (full : Bool) (r : Result Opening OpenFault) (M m : Moment) (o : Opening) →
    (if full then Refuse TooManySearches else add_opening M r) ≡ New (record { at = m; what = Opened o }) →
    (full ≡ false) × (r ≡ Ok o) × (M ≡ m)
from_open true r M m o h = (cc, cc, cc)
from_open false (Err f) M m o h = (cc, cc, cc)
from_open false (Ok x) M m o h =
    let what : Opened x ≡ Opened o = same-what _ _ h in
    let opening : x ≡ o = cc in
    (refl, ap Ok opening, same-at _ _ h)

from_lease : (H : List Entry) (key : Key) (worker : List ℕ) (M m : Moment) (d : Option DueRun) (l : LeasedRun) →
    lease_decision H key worker M d
    ≡ New (record { at = m; what = Leased key worker l.run l.search l.stage l.position l.deadline }) →
    (d ≡ Some (record { search = l.search; stage = l.stage; position = l.position }))
    × (l.run ≡ length (all_leases H) + 1) × (l.deadline ≡ moment_ms M + lease_ms H) × (M ≡ m)
from_lease H key worker M m None l h = (cc, cc, cc, cc)
from_lease H key worker M m (Some d) l h =
    let what : Leased key worker (length (all_leases H) + 1) d.search d.stage d.position (moment_ms M + lease_ms H)
    ≡ Leased key worker l.run l.search l.stage l.position l.deadline = same-what _ _ h in
    let of_search : d.search ≡ l.search = cc in
    let at_stage : d.stage ≡ l.stage = cc in
    let there : d.position ≡ l.position = cc in
    let due : d ≡ record { search = l.search; stage = l.stage; position = l.position } =
    λ i. record { search = of_search i; stage = at_stage i; position = there i } in
    (ap Some due, cc, cc, same-at _ _ h)

-- a refusal adds nothing
pub refused-adds : (r : Refusal) (e : Entry) → Refuse r ≡ New e → ⊥
refused-adds r e h = let b : true ≡ false = cc in true≢false b

from_report : (H : List Entry) (run : ℕ) (verdict : Verdict) (M m : Moment) (f : Fate) (l : Option LeasedRun) → lease_of H run ≡ l →
    place_of_report H run ≡ None →
    report_decision H run verdict M l ≡ New (record { at = m; what = Reported run verdict f }) →
    ReportedNext H run verdict f × (M ≡ m)
from_report H run verdict M m f None e first h = absurd (refused-adds _ _ h)
from_report H run verdict M m f (Some l) e first h =
    let what : Reported run verdict (fate_of H l verdict (opening_numbered H l.search)) ≡ Reported run verdict f = same-what _ _ h in
    (record { lease = l; known = e; first = first; ruled = cc }, same-at _ _ h)

from_skip : (H : List Entry) (run : ℕ) (M m : Moment) (f : SkipFate) (l : Option LeasedRun) → lease_of H run ≡ l →
    place_of_report H run ≡ None →
    skip_decision H run M l ≡ New (record { at = m; what = Skipped run f }) → SkippedNext H run f × (M ≡ m)
from_skip H run M m f None e first h = absurd (refused-adds _ _ h)
from_skip H run M m f (Some l) e first h =
    let what : Skipped run (skip_fate_of H l (opening_numbered H l.search)) ≡ Skipped run f = same-what _ _ h in
    (record { lease = l; known = e; first = first; ruled = cc }, same-at _ _ h)

from_active : (H : List Entry) (key : Key) (s : ℕ) (M m : Moment) (o : Opening) (b : Bool) →
    (if b then add_at M (Cancelled key s) else Refuse (SearchEnded (standing H o))) ≡ New (record { at = m; what = Cancelled key s }) →
    (b ≡ true) × (M ≡ m)
from_active H key s M m o true h = (refl, same-at _ _ h)
from_active H key s M m o false h = (cc, cc)

from_cancel : (H : List Entry) (key : Key) (s : ℕ) (M m : Moment) (o : Option Opening) → opening_numbered H s ≡ o →
    cancel_decision H key s M o ≡ New (record { at = m; what = Cancelled key s }) → CancelledNext H s × (M ≡ m)
from_cancel H key s M m None e h = absurd (refused-adds _ _ h)
from_cancel H key s M m (Some o) e h =
    let both = from_active H key s M m o (is_active (standing H o)) h in
    (record { opening = o; known = e; active = both.0 }, both.1)

from_revert : (key : Key) (agent : List ℕ) (M m : Moment) (n : Result Draft NoOrder) (order : ℕ) (commit : CommitId) (s day : ℕ) →
    revert_decision key agent M n ≡ New (record { at = m; what = Ordered key agent order commit s day }) →
    (n ≡ Ok (record { order = order; commit = commit; search = s; day = day })) × (M ≡ m)
from_revert key agent M m (Err none.NoRevert) order commit s day h = absurd (refused-adds _ _ h)
from_revert key agent M m (Err (none.DailyLimit on count)) order commit s day h = absurd (refused-adds _ _ h)
from_revert key agent M m (Ok d) order commit s day h =
    let what : Ordered key agent d.order d.commit d.search d.day ≡ Ordered key agent order commit s day = same-what _ _ h in
    let numbered : d.order ≡ order = cc in
    let for_commit : d.commit ≡ commit = cc in
    let of_search : d.search ≡ s = cc in
    let dated : d.day ≡ day = cc in
    let next : d ≡ record { order = order; commit = commit; search = s; day = day } =
    λ i. record { order = numbered i; commit = for_commit i; search = of_search i; day = dated i } in
    (ap Ok next, same-at _ _ h)

-- so it has the next number, and the day of the moment
next_facts : (H : List Entry) (m : Moment) (order : ℕ) (commit : CommitId) (s day : ℕ) →
    next_order_at H (moment_ms m) ≡ Ok (record { order = order; commit = commit; search = s; day = day }) →
    OrderedNext H m order commit s day
next_facts H m order commit s day h =
    let next =
    next_draft-ok (confirmed_searches H) (orders H) (length (order_lines H)) (day_in H (moment_ms m)) (daily_limit H) _
    h in
    record { next = h; number = next.numbered; dated = next.dated }

-- an entry that may come next
stepped_as : (H : List Entry) (m : Moment) (what : What) → IsAddedBy H (record { at = m; what = what }) (command_of what) → Stepped H m what
stepped_as H m (Founded settings) h = absurd h
stepped_as H m (Opened o) h =
    let p = passed H (command.Open (ask_of o)) m _ h in
    let both = room_both H (command.Open (ask_of o)) p.full refl in
    let own = from_open (nat_le MAX_SEARCHES (length (openings H))) (opening_of (ask_of o) (length (openings H) + 1)) _ m o p.own in
    record {
      at = own.2;
      unclosed = both.1;
      room = λ plain. both.0;
      fresh = λ key e. still_unused H o.key key e (unused H (command.Open (ask_of o)) o.key p.known);
      facts = record { few = few_of _ _ own.0; made = own.1 };
    }
stepped_as H m (Leased key worker run s stage position deadline) h =
    let p = passed H (command.Lease key worker) m _ h in
    let both = room_both H (command.Lease key worker) p.full refl in
    let own = from_lease H key worker (moment_used H m) m (next_run H (moment_ms (moment_used H m)))
    (record { run = run; search = s; stage = stage; position = position; deadline = deadline }) p.own in
    record {
      at = own.3;
      unclosed = both.1;
      room = λ plain. both.0;
      fresh = λ k e. still_unused H key k e (unused H (command.Lease key worker) key p.known);
      facts = subst (λ (M : Moment). LeasedNext H M (record { run = run; search = s; stage = stage; position = position; deadline = deadline })) own.3 (record { due = own.0; number = own.1; until = own.2 });
    }
stepped_as H m (Reported run verdict f) h =
    let p = passed H (command.Report run verdict) m _ h in
    let both = room_both H (command.Report run verdict) p.full refl in
    let first : place_of_report H run ≡ None = map-none Repeat (place_of_report H run) p.known in
    let own = from_report H run verdict (moment_used H m) m f (lease_of H run) refl first p.own in
    record { at = own.1; unclosed = both.1; room = λ plain. both.0; fresh = λ k e. absurd (none-some k e); facts = own.0 }
stepped_as H m (Skipped run f) h =
    let p = passed H (command.Skip run) m _ h in
    let both = room_both H (command.Skip run) p.full refl in
    let first : place_of_report H run ≡ None = map-none Repeat (place_of_report H run) p.known in
    let own = from_skip H run (moment_used H m) m f (lease_of H run) refl first p.own in
    record { at = own.1; unclosed = both.1; room = λ plain. both.0; fresh = λ k e. absurd (none-some k e); facts = own.0 }
stepped_as H m (Cancelled key s) h =
    let p = passed H (command.Cancel key s) m _ h in
    let both = room_both H (command.Cancel key s) p.full refl in
    let own = from_cancel H key s (moment_used H m) m (opening_numbered H s) refl p.own in
    record {
      at = own.1;
      unclosed = both.1;
      room = λ plain. both.0;
      fresh = λ k e. still_unused H key k e (unused H (command.Cancel key s) key p.known);
      facts = own.0;
    }
stepped_as H m (Ordered key agent order commit s day) h =
    let p = passed H (command.TakeRevert key agent) m _ h in
    let both = room_both H (command.TakeRevert key agent) p.full refl in
    let own = from_revert key agent (moment_used H m) m (next_order_at H (moment_ms (moment_used H m))) order commit s day p.own in
    record {
      at = own.1;
      unclosed = both.1;
      room = λ plain. both.0;
      fresh = λ k e. still_unused H key k e (unused H (command.TakeRevert key agent) key p.known);
      facts = subst (λ (M : Moment). OrderedNext H M order commit s day) own.1 (next_facts H (moment_used H m) order commit s day own.0);
    }
stepped_as H m (Carried commit day) h =
    let dated =
    and_parts (nat_lt (length H) MAX_ENTRIES && list_all (begins_at m) H && not (has_order (orders H) commit))
    (nat_le day LAST_DAY) h in
    let free =
    and_parts (nat_lt (length H) MAX_ENTRIES && list_all (begins_at m) H) (not (has_order (orders H) commit)) dated.0 in
    let begun = and_parts (nat_lt (length H) MAX_ENTRIES) (list_all (begins_at m) H) free.0 in
    record {
      at = moment_used-begun H m begun.1;
      unclosed = is_closed-begun H m begun.1;
      room = λ plain. ltb-true _ _ begun.0;
      fresh = λ k e. absurd (none-some k e);
      facts = record { begun = begun.1; free = not-true _ free.1; dated = leb-true _ _ dated.1 };
    }
stepped_as H m Closed h =
    let last = and_parts (not (is_closed H) && not (is_busy H)) (nat_le (moment_ms (last_moment m H)) (moment_ms m)) h in
    let idle = and_parts (not (is_closed H)) (not (is_busy H)) last.0 in
    record {
      at = later-second (last_moment m H) m (leb-true _ _ last.1);
      unclosed = not-true _ idle.0;
      room = λ opens. absurd (true≢false opens);
      fresh = λ k e. absurd (none-some k e);
      facts = record { idle = not-true _ idle.1 };
    }

pub stepped : (H : List Entry) (e : Entry) → IsNext H e → Stepped H e.at e.what
stepped H e h = stepped_as H e.at e.what h
