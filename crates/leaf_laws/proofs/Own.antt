-- What a command's own case refuses, and why.
use Rattle.std.proofs.Common.{◌≡◌, ℕ, ◌+◌, ◌≤◌, Bool, true, false, not, nat_le, nat_lt, List, [], ◌∷◌, length, Contains, if◌then◌else◌, Option, Some, None, Result, Ok, Err, refl, sym, ap, subst, ◌||◌, inl, inr, ◌∙◌, ⊎_elim, arith, true≢false}
use Rattle.std.proofs.lemmas.Bool.{false_from_ne_true, not-false, not-true}
use Rattle.std.proofs.lemmas.Bool.Decides.{nat_tests}
use Rattle.std.proofs.lemmas.Option.{none-some}
use Rattle.weight_exact.specs.declared.run.Verdict.{Verdict}
use Rattle.farm_rules.specs.Orders.{Ordered, candidates, draft_for, draft_of, earlier, earliest, has_order, orders_of}
use Rattle.farm_rules.specs.declared.orders.Candidate.{Candidate}
use Rattle.farm_rules.specs.declared.orders.Draft.{Draft}
use Rattle.farm_rules.specs.declared.orders.NoOrder.{NoOrder}
use Rattle.farm_rules.specs.declared.orders.NoOrder.TheVariants as none
use Rattle.farm_types.proofs.SameValues.{same_id-Decides}
use Rattle.farm_types.specs.CommitId.{same_id}
use Rattle.farm_types.specs.Moment.{moment_ms}
use Rattle.farm_types.specs.declared.commit_id.CommitId.{CommitId}
use Rattle.farm_types.specs.declared.key.Key.{Key}
use Rattle.farm_types.specs.declared.moment.Moment.{Moment}
use Rattle.farm_rules.proofs.Earliest.{earliest-contained, earliest-none}
use Rattle.farm_entry.specs.Ask.{asked_bar, asked_miss, asked_range, asked_rate, asked_reruns, asked_width, opening_of}
use Rattle.farm_entry.specs.Decision.{add_opening, cancel_decision, lease_decision, moment_used, own_decision, page_decision, report_decision, revert_decision, runs_decision, skip_decision}
use Rattle.farm_entry.specs.Due.{due, due_runs, next_run, soonest}
use Rattle.farm_entry.specs.History.{daily_limit, lease_of, opening_numbered, openings, order_lines}
use Rattle.farm_entry.specs.Orders.{confirmed_at, confirmed_searches, day_in, next_order_at, orders}
use Rattle.farm_entry.specs.Setup.{commit_of}
use Rattle.farm_entry.specs.Standing.{is_active, standing}
use Rattle.farm_entry.specs.declared.command.Command.{Command}
use Rattle.farm_entry.specs.declared.command.Command.TheVariants as command
use Rattle.farm_entry.specs.declared.command.OpenAsk.{OpenAsk}
use Rattle.farm_entry.specs.declared.decision.Decision.TheVariants.{New, Refuse}
use Rattle.farm_entry.specs.declared.entry.Entry.{Entry}
use Rattle.farm_entry.specs.declared.entry.What.TheVariants.{Cancelled as cancelled}
use Rattle.farm_entry.specs.declared.lease.DueRun.{DueRun}
use Rattle.farm_entry.specs.declared.lease.LeasedRun.{LeasedRun}
use Rattle.farm_entry.specs.declared.limits.TheConstants.{MAX_SEARCHES}
use Rattle.farm_entry.specs.declared.opening.Opening.{Opening}
use Rattle.farm_entry.specs.declared.refusal.OpenFault.{OpenFault}
use Rattle.farm_entry.specs.declared.refusal.Refusal.{Refusal}
use Rattle.farm_entry.specs.declared.refusal.Refusal.TheVariants.{DailyLimit, NoRevert, NoRun, SearchEnded, TooManySearches, UnknownRun, UnknownSearch}
use Rattle.farm_entry.specs.declared.standing.Standing.{Standing}
use Rattle.farm_entry.specs.declared.standing.Standing.TheVariants as standings
use Rattle.farm_laws.proofs.Again.{all_there}
use Rattle.farm_laws.proofs.Known.{made-from}
use Rattle.farm_laws.proofs.Lists.{contains-head, contains-nil, contains-cons, contains-tail, filter-nil, filter-there, filter_map-nil, filter_map-there, nil-filter, nil-filter_map, there-filter}
use Rattle.farm_laws.proofs.Made.{is_made}
use Rattle.leaf_laws.specs.Causes.{CauseOf, HasEnded, HasManySearches, HasNoRevert, HasNoRun, IsOfNoLease, IsOfNoSearch, IsOrdered, IsOverDay, IsTaken, run_told}

-- a decision that refuses, and one that doesn't
new-refuse : (e : Entry) (r : Refusal) → New e ≡ Refuse r → ⊥
new-refuse e r h = let b : true ≡ false = cc in true≢false b

-- a cause of the refusal that a decision is
pub caused : (H : List Entry) (q : Command) (m : Moment) (r s : Refusal) → CauseOf r H q m → Refuse r ≡ Refuse s →
    CauseOf s H q m
caused H q m r s cause e = let same : r ≡ s = cc in subst (λ (x : Refusal). CauseOf x H q m) same cause

-- Opens.

-- what can be opened under one number can be opened under each
pub renumbered : (ask : OpenAsk) (search number : ℕ) (o : Opening) → opening_of ask search ≡ Ok o →
    (x : Opening) × (opening_of ask number ≡ Ok x)
renumbered ask search number o h =
    let made = is_made ask search o h in (
      _,
      all_there ask.key ask.test number o (asked_range ask) (asked_rate ask) (asked_miss ask) (asked_bar ask)
          (asked_width ask) (asked_reruns ask)
          made.range made.rate made.miss made.bar made.width made.reruns,
    )

adds-opening : (m : Moment) (o : Opening) (made : Result Opening OpenFault) (r : Refusal) → made ≡ Ok o →
    add_opening m made ≡ Refuse r → ⊥
adds-opening m o (Ok x) r e h = new-refuse _ r h
adds-opening m o (Err f) r e h = let b : true ≡ false = cc in true≢false b

open-refused : (H : List Entry) (ask : OpenAsk) (m M : Moment) (r : Refusal) (b : Bool) → IsTaken H (command.Open ask) →
    nat_le MAX_SEARCHES (length (openings H)) ≡ b →
    (if b then Refuse TooManySearches else add_opening M (opening_of ask (length (openings H) + 1))) ≡ Refuse r →
    CauseOf r H (command.Open ask) m
open-refused H ask m M r true t e h =
    let many : MAX_SEARCHES ≤ length (openings H) = grind (arith, nat_tests) in
    caused H (command.Open ask) m TooManySearches r (record { taken = t; ask = ask; opens = refl; many = many }) h
open-refused H ask m M r false t e h =
    let within = t.new.formed ask refl in
    let made = renumbered ask 0 (length (openings H) + 1) within.0 within.1 in
    absurd (adds-opening M made.0 (opening_of ask (length (openings H) + 1)) r made.1 h)

-- Leases.

soonest-nil : (H : List Entry) (ds : List DueRun) → soonest H ds ≡ None → ds ≡ []
soonest-nil H [] h = refl
soonest-nil H (d ∷ ds) h = absurd (none-some _ (sym h))

pub none-due : (H : List Entry) (moment : ℕ) → next_run H moment ≡ None → (o : Opening) → Contains (openings H) o →
    due H o moment ≡ None
none-due H moment h =
    filter_map-nil (λ (o : Opening). due H o moment) (openings H) (soonest-nil H (due_runs H moment) h)

pub due-none : (H : List Entry) (moment : ℕ) → ((o : Opening) → Contains (openings H) o → due H o moment ≡ None) →
    next_run H moment ≡ None
due-none H moment h = ap (soonest H) (nil-filter_map (λ (o : Opening). due H o moment) (openings H) h)

lease-refused : (H : List Entry) (key : Key) (worker : List ℕ) (m : Moment) (r : Refusal) (d : Option DueRun) →
    IsTaken H (command.Lease key worker) →
    next_run H (moment_ms (moment_used H m)) ≡ d → lease_decision H key worker (moment_used H m) d ≡ Refuse r →
    CauseOf r H (command.Lease key worker) m
lease-refused H key worker m r None t e h =
    caused H (command.Lease key worker) m NoRun r
    (record {
      taken = t;
      key = key;
      worker = worker;
      leases = refl;
      none =
          none-due H (moment_ms (moment_used H m)) e;
    }) h
lease-refused H key worker m r (Some d) t e h = absurd (new-refuse _ r h)

-- Reports.

report-refused : (H : List Entry) (run : ℕ) (verdict : Verdict) (m M : Moment) (r : Refusal) (l : Option LeasedRun) →
    IsTaken H (command.Report run verdict) → lease_of H run ≡ l → report_decision H run verdict M l ≡ Refuse r →
    CauseOf r H (command.Report run verdict) m
report-refused H run verdict m M r None t e h =
    caused H (command.Report run verdict) m (UnknownRun run) r (record { taken = t; reports = refl; unknown = e }) h
report-refused H run verdict m M r (Some l) t e h = absurd (new-refuse _ r h)

skip-refused : (H : List Entry) (run : ℕ) (m M : Moment) (r : Refusal) (l : Option LeasedRun) →
    IsTaken H (command.Skip run) → lease_of H run ≡ l → skip_decision H run M l ≡ Refuse r →
    CauseOf r H (command.Skip run) m
skip-refused H run m M r None t e h =
    caused H (command.Skip run) m (UnknownRun run) r (record { taken = t; reports = refl; unknown = e }) h
skip-refused H run m M r (Some l) t e h = absurd (new-refuse _ r h)

-- Cancellations.

ended-refused : (H : List Entry) (key : Key) (search : ℕ) (m : Moment) (r : Refusal) (o : Opening) (b : Bool)
    (e : Entry) →
    IsTaken H (command.Cancel key search) → opening_numbered H search ≡ Some o → is_active (standing H o) ≡ b →
    (if b then New e else Refuse (SearchEnded (standing H o))) ≡ Refuse r → CauseOf r H (command.Cancel key search) m
ended-refused H key search m r o true e t known active h = absurd (new-refuse e r h)
ended-refused H key search m r o false e t known active h =
    caused H (command.Cancel key search) m (SearchEnded (standing H o)) r
    (record {
      taken = t;
      key = key;
      search = search;
      cancels = refl;
      opening = o;
      known = known;
      stands =
          refl;
      ended = active;
    }) h

cancel-refused : (H : List Entry) (key : Key) (search : ℕ) (m M : Moment) (r : Refusal) (o : Option Opening) →
    IsTaken H (command.Cancel key search) →
    opening_numbered H search ≡ o → cancel_decision H key search M o ≡ Refuse r →
    CauseOf r H (command.Cancel key search) m
cancel-refused H key search m M r None t e h =
    caused H (command.Cancel key search) m (UnknownSearch search) r (record {
      taken = t;
      names = inl (
        key,
        refl,
      );
      unknown = e;
    }) h
cancel-refused H key search m M r (Some o) t e h =
    ended-refused H key search m r o (is_active (standing H o)) _ t e refl h

-- Pages.

page-refused : (H : List Entry) (search : ℕ) (m : Moment) (r : Refusal) (o : Option Opening) →
    IsTaken H (command.ShowSearch search) →
    opening_numbered H search ≡ o → page_decision H search o ≡ Refuse r → CauseOf r H (command.ShowSearch search) m
page-refused H search m r None t e h =
    caused H (command.ShowSearch search) m (UnknownSearch search) r (record {
      taken = t;
      names = inr (inl refl);
      unknown =
          e;
    }) h
page-refused H search m r (Some o) t e h = let b : true ≡ false = cc in absurd (true≢false b)

runs-refused : (H : List Entry) (search from : ℕ) (m : Moment) (r : Refusal) (o : Option Opening) →
    IsTaken H (command.ShowRuns search from) →
    opening_numbered H search ≡ o → runs_decision H search from o ≡ Refuse r →
    CauseOf r H (command.ShowRuns search from) m
runs-refused H search from m r None t e h =
    caused H (command.ShowRuns search from) m (UnknownSearch search) r
    (record { taken = t; names = inr (inr (from, refl)); unknown = e }) h
runs-refused H search from m r (Some o) t e h = let b : true ≡ false = cc in absurd (true≢false b)

-- Orders.

or_first : (a b : Bool) → a ≡ true → (a || b) ≡ true
or_first true b h = refl
or_first false b h = absurd (true≢false (sym h))

or_second : (a b : Bool) → b ≡ true → (a || b) ≡ true
or_second true b h = refl
or_second false b h = h

-- a commit has an order exactly where the rule finds one
ordered-has : (lines : List Ordered) (commit : CommitId) (x : Ordered) → Contains lines x → x.commit ≡ commit →
    has_order lines commit ≡ true
ordered-has [] commit x there same = absurd (contains-nil x there)
ordered-has (l ∷ lines) commit x there same =
    contains-cons l lines x (has_order (l ∷ lines) commit ≡ true)
    (λ (first : l ≡ x). or_first (same_id l.commit commit) (has_order lines commit)
    ((same_id-Decides l.commit commit).1 (ap (λ (y : Ordered). y.commit) first ∙ same)))
    (λ (later : Contains lines x). or_second (same_id l.commit commit) (has_order lines commit)
    (ordered-has lines commit x later same))
    there

has-here : (l : Ordered) (lines : List Ordered) (commit : CommitId) (b : Bool) → same_id l.commit commit ≡ b →
    (has_order lines commit ≡ true → (x : Ordered) × Contains lines x × (x.commit ≡ commit)) →
    (b || has_order lines commit) ≡ true → (x : Ordered) × Contains (l ∷ lines) x × (x.commit ≡ commit)
has-here l lines commit true e later h = (l, contains-head lines l l refl, (same_id-Decides l.commit commit).0 e)
has-here l lines commit false e later h =
    let x = later h in (x.0, contains-tail l lines x.0 x.1, x.2)

has-ordered : (lines : List Ordered) (commit : CommitId) → has_order lines commit ≡ true →
    (x : Ordered) × Contains lines x × (x.commit ≡ commit)
has-ordered [] commit h = absurd (true≢false (sym h))
has-ordered (l ∷ lines) commit h = has-here l lines commit (same_id l.commit commit) refl (has-ordered lines commit) h

pub is_ordered-has : (H : List Entry) (commit : CommitId) → IsOrdered H commit → has_order (orders H) commit ≡ true
is_ordered-has H commit o = ordered-has (orders H) commit o.0 o.1 o.2

pub has-is_ordered : (H : List Entry) (commit : CommitId) → has_order (orders H) commit ≡ true → IsOrdered H commit
has-is_ordered H commit h = has-ordered (orders H) commit h

-- a confirmed search as the rule sees it, and back
confirmed-there : (H : List Entry) (o : Opening) (culprit : ℕ) → Contains (openings H) o →
    standing H o ≡ standings.Confirmed culprit →
    Contains (confirmed_searches H) (record { search = o.search; commit = commit_of o culprit })
confirmed-there H o culprit there stands =
    filter_map-there (λ (x : Opening). confirmed_at (standing H x) x) (openings H) o _ there (ap (λ (s : Standing).
    confirmed_at s o) stands)

-- what a confirmed search of the rule is
record IsConfirmed (H : List Entry) (c : Candidate) : Type 0 where
  opening : Opening
  culprit : ℕ
  there : Contains (openings H) opening
  stands : standing H opening ≡ standings.Confirmed culprit
  of_commit : commit_of opening culprit ≡ c.commit

confirmed-as : (H : List Entry) (o : Opening) (c : Candidate) (s : Standing) → Contains (openings H) o →
    standing H o ≡ s → confirmed_at s o ≡ Some c →
    IsConfirmed H c
confirmed-as H o c (standings.Confirmed culprit) there stands made =
    let made_of : Candidate = record { search = o.search; commit = commit_of o culprit } in
    let same : made_of ≡ c = cc in
    record {
      opening = o;
      culprit = culprit;
      there = there;
      stands = stands;
      of_commit = ap (λ (x : Candidate).
          x.commit) same;
    }
confirmed-as H o c standings.Searching there stands made = absurd (none-some c made)
confirmed-as H o c (standings.Verifying culprit) there stands made = absurd (none-some c made)
confirmed-as H o c (standings.Vindicated culprit) there stands made = absurd (none-some c made)
confirmed-as H o c standings.NoCulprit there stands made = absurd (none-some c made)
confirmed-as H o c standings.Inconclusive there stands made = absurd (none-some c made)
confirmed-as H o c standings.Cancelled there stands made = absurd (none-some c made)

there-confirmed : (H : List Entry) (c : Candidate) → Contains (confirmed_searches H) c → IsConfirmed H c
there-confirmed H c there =
    let m = made-from (λ (x : Opening). confirmed_at (standing H x) x) (openings H) c there in
    confirmed-as H m.from c (standing H m.from) m.there refl m.makes

-- The next order, by whether a candidate is left.

-- whether a confirmed search is free to get an order
abbrev is_free : List Ordered → Candidate → Bool
is_free given c = not (has_order given c.commit)

-- no candidate is left where each confirmed commit has an order, and only there
none-left : (H : List Entry) → candidates (confirmed_searches H) (orders H) ≡ [] → (o : Opening) (culprit : ℕ) →
    Contains (openings H) o →
    standing H o ≡ standings.Confirmed culprit → IsOrdered H (commit_of o culprit)
none-left H h o culprit there stands =
    has-is_ordered H (commit_of o culprit)
    (not-false _ (filter-nil (is_free (orders H)) (confirmed_searches H) h _
    (confirmed-there H o culprit there stands)))

left-none : (H : List Entry) → ((o : Opening) (culprit : ℕ) → Contains (openings H) o →
    standing H o ≡ standings.Confirmed culprit → IsOrdered H (commit_of o culprit)) →
    candidates (confirmed_searches H) (orders H) ≡ []
left-none H all =
    nil-filter (is_free (orders H)) (confirmed_searches H)
    (λ c there. let is = there-confirmed H c there in
    ap (λ (b : Bool). not b) (subst (λ (x : CommitId). has_order (orders H) x ≡ true) is.of_commit
    (is_ordered-has H (commit_of is.opening is.culprit) (all is.opening is.culprit is.there is.stands))))

-- a candidate that is left
record IsLeft (H : List Entry) : Type 0 where
  opening : Opening
  culprit : ℕ
  there : Contains (openings H) opening
  stands : standing H opening ≡ standings.Confirmed culprit
  unordered : ¬ IsOrdered H (commit_of opening culprit)

some-left : (H : List Entry) (c : Candidate) → Contains (candidates (confirmed_searches H) (orders H)) c → IsLeft H
some-left H c there =
    let kept = there-filter (is_free (orders H)) (confirmed_searches H) c there in
    let is = there-confirmed H c kept.0 in
    record {
      opening = is.opening;
      culprit = is.culprit;
      there = is.there;
      stands = is.stands;
      unordered = λ has. true≢false (sym (is_ordered-has H (commit_of is.opening is.culprit) has)
          ∙ subst (λ (x : CommitId). has_order (orders H) x ≡ false) (sym is.of_commit) (not-true _ kept.1));
    }

-- no search is left where there is no first one
none-of : (c : Candidate) (order day count : ℕ) (b : Bool) →
    (if b then Ok (draft_for c order day) else Err (none.DailyLimit day count)) ≡ Err none.NoRevert → ⊥
none-of c order day count true h = let b : true ≡ false = cc in true≢false b
none-of c order day count false h = let b : true ≡ false = cc in true≢false b

next-none : (first : Option Candidate) (order day limit count : ℕ) →
    draft_of first order day limit count ≡ Err none.NoRevert → first ≡ None
next-none None order day limit count h = refl
next-none (Some c) order day limit count h = absurd (none-of c order day count (nat_lt count limit) h)

-- the day is full where there is a first search and the day has its orders
record DaySays (first : Option Candidate) (day limit count on k : ℕ) : Type 0 where
  candidate : Candidate
  is : first ≡ Some candidate
  today : on ≡ day
  counted : k ≡ count
  limited : limit ≤ count

full-if : (c : Candidate) (b : Bool) (order day limit count on k : ℕ) → nat_lt count limit ≡ b →
    (if b then Ok (draft_for c order day) else Err (none.DailyLimit day count)) ≡ Err (none.DailyLimit on k) →
    DaySays (Some c) day limit count on k
full-if c true order day limit count on k e h = let b : true ≡ false = cc in absurd (true≢false b)
full-if c false order day limit count on k e h =
    record { candidate = c; is = refl; today = cc; counted = cc; limited = grind (arith, nat_tests) }

next-full : (first : Option Candidate) (order day limit count on k : ℕ) →
    draft_of first order day limit count ≡ Err (none.DailyLimit on k) → DaySays first day limit count on k
next-full None order day limit count on k h = let b : true ≡ false = cc in absurd (true≢false b)
next-full (Some c) order day limit count on k h = full-if c (nat_lt count limit) order day limit count on k refl h

revert-refused : (H : List Entry) (key : Key) (agent : List ℕ) (m : Moment) (r : Refusal) (n : Result Draft NoOrder) →
    IsTaken H (command.TakeRevert key agent) →
    next_order_at H (moment_ms (moment_used H m)) ≡ n → revert_decision key agent (moment_used H m) n ≡ Refuse r →
    CauseOf r H (command.TakeRevert key agent) m
revert-refused H key agent m r (Err none.NoRevert) t e h =
    let day : ℕ = day_in H (moment_ms (moment_used H m)) in
    let nil =
    earliest-none (candidates (confirmed_searches H) (orders H))
    (next-none _ (length (order_lines H) + 1) day (daily_limit H) (orders_of day (orders H)) e) in
    caused H (command.TakeRevert key agent) m NoRevert r
    (record { taken = t; key = key; agent = agent; takes = refl; all = none-left H nil }) h
revert-refused H key agent m r (Err (none.DailyLimit on k)) t e h =
    let day : ℕ = day_in H (moment_ms (moment_used H m)) in
    let says =
    next-full (earliest (candidates (confirmed_searches H) (orders H))) (length (order_lines H) + 1) day (daily_limit H)
    (orders_of day (orders H)) on k e in
    let left =
    some-left H says.candidate (earliest-contained (candidates (confirmed_searches H) (orders H)) says.candidate says.is) in
    caused H (command.TakeRevert key agent) m (DailyLimit on k) r
    (record {
      taken = t;
      key = key;
      agent = agent;
      takes = refl;
      opening = left.opening;
      culprit = left.culprit;
      there = left.there;
      confirmed = left.stands;
      unordered = left.unordered;
      today = says.today;
      counted = says.counted ∙ ap (λ (d : ℕ). orders_of d (orders H)) (sym says.today);
      limited = subst (λ (n : ℕ). daily_limit H ≤ n) (sym says.counted) says.limited;
    }) h
revert-refused H key agent m r (Ok d) t e h = absurd (new-refuse _ r h)

-- whatever command it is
pub own-refused : (H : List Entry) (q : Command) (m : Moment) (r : Refusal) → IsTaken H q →
    own_decision H q (moment_used H m) ≡ Refuse r → CauseOf r H q m
own-refused H (command.Open ask) m r t h =
    open-refused H ask m (moment_used H m) r (nat_le MAX_SEARCHES (length (openings H))) t refl h
own-refused H (command.Lease key worker) m r t h =
    lease-refused H key worker m r (next_run H (moment_ms (moment_used H m))) t refl h
own-refused H (command.Report run verdict) m r t h =
    report-refused H run verdict m (moment_used H m) r (lease_of H run) t refl h
own-refused H (command.Skip run) m r t h =
    skip-refused H run m (moment_used H m) r (lease_of H run) t refl h
own-refused H (command.Cancel key search) m r t h =
    cancel-refused H key search m (moment_used H m) r (opening_numbered H search) t refl h
own-refused H (command.TakeRevert key agent) m r t h =
    revert-refused H key agent m r (next_order_at H (moment_ms (moment_used H m))) t refl h
own-refused H (command.ShowSearch search) m r t h = page-refused H search m r (opening_numbered H search) t refl h
own-refused H command.ShowFarm m r t h = let b : true ≡ false = cc in absurd (true≢false b)
own-refused H command.ShowOrders m r t h = let b : true ≡ false = cc in absurd (true≢false b)
own-refused H (command.ShowRuns search from) m r t h =
    runs-refused H search from m r (opening_numbered H search) t refl h
own-refused H (command.ShowSearches from) m r t h = let b : true ≡ false = cc in absurd (true≢false b)

-- And back: where a cause holds, its refusal is the command's own decision.

pub many-refused : (H : List Entry) (q : Command) (M : Moment) → HasManySearches H q →
    own_decision H q M ≡ Refuse TooManySearches
many-refused H q M c =
    let test : nat_le MAX_SEARCHES (length (openings H)) ≡ true = let many = c.many in grind (arith, nat_tests) in
    ap (λ (x : Command). own_decision H x M) c.opens
    ∙ ap (λ (b : Bool). if b then Refuse TooManySearches else add_opening M (opening_of c.ask (length
    (openings H) + 1))) test

pub no_run-refused : (H : List Entry) (q : Command) (m : Moment) → HasNoRun H q m →
    own_decision H q (moment_used H m) ≡ Refuse NoRun
no_run-refused H q m c =
    ap (λ (x : Command). own_decision H x (moment_used H m)) c.leases
    ∙ ap (lease_decision H c.key c.worker (moment_used H m)) (due-none H (moment_ms (moment_used H m)) c.none)

unknown-refused : (H : List Entry) (q : Command) (run : ℕ) (M : Moment) → run_told q ≡ Some run → lease_of H run ≡ None →
    own_decision H q M ≡ Refuse (UnknownRun run)
unknown-refused H (command.Report r verdict) run M e none =
    let same : r ≡ run = cc in
    ap (report_decision H r verdict M) (ap (lease_of H) same ∙ none) ∙ ap (λ (n : ℕ). Refuse (UnknownRun n)) same
unknown-refused H (command.Skip r) run M e none =
    let same : r ≡ run = cc in
    ap (skip_decision H r M) (ap (lease_of H) same ∙ none) ∙ ap (λ (n : ℕ). Refuse (UnknownRun n)) same
unknown-refused H (command.Open ask) run M e none = absurd (none-some run e)
unknown-refused H (command.Lease k worker) run M e none = absurd (none-some run e)
unknown-refused H (command.Cancel k search) run M e none = absurd (none-some run e)
unknown-refused H (command.TakeRevert k agent) run M e none = absurd (none-some run e)
unknown-refused H (command.ShowSearch search) run M e none = absurd (none-some run e)
unknown-refused H command.ShowFarm run M e none = absurd (none-some run e)
unknown-refused H command.ShowOrders run M e none = absurd (none-some run e)
unknown-refused H (command.ShowRuns search from) run M e none = absurd (none-some run e)
unknown-refused H (command.ShowSearches from) run M e none = absurd (none-some run e)

pub no_lease-refused : (H : List Entry) (q : Command) (run : ℕ) (M : Moment) → IsOfNoLease H q run →
    own_decision H q M ≡ Refuse (UnknownRun run)
no_lease-refused H q run M c = unknown-refused H q run M c.reports c.unknown

pub no_search-refused : (H : List Entry) (q : Command) (search : ℕ) (M : Moment) → IsOfNoSearch H q search →
    own_decision H q M ≡ Refuse (UnknownSearch search)
no_search-refused H q search M c =
    ⊎_elim
    (λ (cancels : (key : Key) × (q ≡ command.Cancel key search)).
    ap (λ (x : Command). own_decision H x M) cancels.1 ∙ ap (cancel_decision H cancels.0 search M) c.unknown)
    (⊎_elim
    (λ (shows : q ≡ command.ShowSearch search).
    ap (λ (x : Command). own_decision H x M) shows ∙ ap (page_decision H search) c.unknown)
    (λ (shows : (from : ℕ) × (q ≡ command.ShowRuns search from)).
    ap (λ (x : Command). own_decision H x M) shows.1 ∙ ap (runs_decision H search shows.0) c.unknown))
    c.names

pub ended-refuses : (H : List Entry) (q : Command) (s : Standing) (M : Moment) → HasEnded H q s →
    own_decision H q M ≡ Refuse (SearchEnded s)
ended-refuses H q s M c =
    let ended : is_active (standing H c.opening) ≡ false = ap is_active c.stands ∙ c.ended in
    ap (λ (x : Command). own_decision H x M) c.cancels
    ∙ ap (cancel_decision H c.key c.search M) c.known
    ∙ ap (λ (b : Bool). if b then New (record {
      at = M;
      what =
          cancelled c.key c.search;
    }) else Refuse (SearchEnded (standing H c.opening))) ended
    ∙ ap (λ (x : Standing). Refuse (SearchEnded x)) c.stands

pub no_revert-refused : (H : List Entry) (q : Command) (M : Moment) → HasNoRevert H q →
    own_decision H q M ≡ Refuse NoRevert
no_revert-refused H q M c =
    let day : ℕ = day_in H (moment_ms M) in
    let next : next_order_at H (moment_ms M) ≡ Err none.NoRevert =
    ap
    (λ (cs : List Candidate).
    draft_of (earliest cs) (length (order_lines H) + 1) day (daily_limit H) (orders_of day (orders H)))
    (left-none H c.all) in
    ap (λ (x : Command). own_decision H x M) c.takes ∙ ap (revert_decision c.key c.agent M) next

-- a list with a member has a first one
some-first : (cs : List Candidate) (c : Candidate) → Contains cs c → (x : Candidate) × (earliest cs ≡ Some x)
some-first [] c there = absurd (contains-nil c there)
some-first (x ∷ cs) c there = (earlier x (earliest cs), refl)

full-day : (x : Candidate) (order day limit count : ℕ) → limit ≤ count →
    draft_of (Some x) order day limit count ≡ Err (none.DailyLimit day count)
full-day x order day limit count limited =
    let test : nat_lt count limit ≡ false = grind (arith, nat_tests) in
    ap (λ (b : Bool). if b then Ok (draft_for x order day) else Err (none.DailyLimit day count)) test

pub over_day-refused : (H : List Entry) (q : Command) (m : Moment) (day count : ℕ) → IsOverDay H q m day count →
    own_decision H q (moment_used H m) ≡ Refuse (DailyLimit day count)
over_day-refused H q m day count c =
    let M = moment_used H m in
    let today : ℕ = day_in H (moment_ms M) in
    let number : ℕ = orders_of today (orders H) in
    let same : number ≡ count = ap (λ (d : ℕ). orders_of d (orders H)) (sym c.today) ∙ sym c.counted in
    let free : has_order (orders H) (commit_of c.opening c.culprit) ≡ false =
    false_from_ne_true (has_order (orders H) (commit_of c.opening c.culprit)) (λ t.
    c.unordered (has-is_ordered H (commit_of c.opening c.culprit) t)) in
    let left =
    filter-there (is_free (orders H)) (confirmed_searches H) _
    (confirmed-there H c.opening c.culprit c.there c.confirmed) (ap not free) in
    let first = some-first (candidates (confirmed_searches H) (orders H)) _ left in
    let next : next_order_at H (moment_ms M) ≡ Err (none.DailyLimit today number) =
    ap (λ (o : Option Candidate). draft_of o (length (order_lines H) + 1) today (daily_limit H) number) first.1
    ∙ full-day first.0 (length (order_lines H) + 1) today (daily_limit H) number
    (subst (λ (n : ℕ). daily_limit H ≤ n) (sym same) c.limited) in
    ap (λ (x : Command). own_decision H x M) c.takes
    ∙ ap (revert_decision c.key c.agent M) next
    ∙ ap (λ (d : ℕ). Refuse (DailyLimit d number)) (sym c.today)
    ∙ ap (λ (n : ℕ). Refuse (DailyLimit day n)) same
