-- What a new entry says, by what it holds; and facts on each part of a legal history.
use Rattle.std.proofs.Common.{◌≡◌, ℕ, true, false, List, [], ◌∷◌, ◌++◌, length, Option, Some, None, refl, sym, ap, subst, true≢false}
use Rattle.std.specs.List.{All, cons_option, filter_map}
use Rattle.std.proofs.lemmas.List.Elements.{All-append, All-cons, All-nil}
use Rattle.std.proofs.lemmas.Option.{none-some}
use Rattle.farm_rules.specs.Orders.{has_order}
use Rattle.farm_rules.specs.Orders as rules
use Rattle.farm_rules.proofs.Drafts.{next_draft-ok}
use Rattle.farm_types.specs.Moment.{moment_ms}
use Rattle.farm_types.specs.declared.moment.Moment.{Moment}
use Rattle.farm_entry.specs.History.{cancelled_in, daily_limit, is_closing, lease_in, opening_in, order_in, order_lines, ordered_in, report_in, skip_in, told_in}
use Rattle.farm_entry.specs.Legal.{IsFounding, IsLegal}
use Rattle.farm_entry.specs.Orders.{confirmed_searches, day_in, orders}
use Rattle.farm_entry.specs.declared.entry.Entry.{Entry}
use Rattle.farm_entry.specs.declared.entry.What.{What}
use Rattle.farm_entry.specs.declared.entry.What.TheVariants.{Founded, Opened, Leased, Reported, Skipped, Cancelled, Ordered, Carried, Closed}
use Rattle.farm_entry.specs.declared.lease.LeasedRun.{LeasedRun}
use Rattle.farm_entry.specs.declared.lease.ReportedRun.{ReportedRun}
use Rattle.farm_entry.specs.declared.lease.SkippedRun.{SkippedRun}
use Rattle.farm_entry.specs.declared.opening.Opening.{Opening}
use Rattle.farm_entry.specs.declared.order_page.OrderLine.{OrderLine}
use Rattle.farm_entry.proofs.Growing.{parts-grow}
use Rattle.farm_laws.proofs.Induct.{each_legal}
use Rattle.farm_laws.proofs.Stepped.{CancelledNext, ClosedNext, LeasedNext, OpenedNext, OrderedNext, ReportedNext, SkippedNext, Stepped, ToldNext}

-- the facts of an entry that holds an opening, a lease, a report with a verdict or not, a cancellation, an order

pub opened-facts : (H : List Entry) (m : Moment) (w : What) (o : Opening) → opening_in w ≡ Some o → Stepped H m w → OpenedNext H o
opened-facts H m (Opened x) o h s = let same : x ≡ o = cc in subst (λ (y : Opening). OpenedNext H y) same s.facts
opened-facts H m (Founded x) o h s = absurd (none-some o h)
opened-facts H m (Leased k w r q t p d) o h s = absurd (none-some o h)
opened-facts H m (Reported r v _) o h s = absurd (none-some o h)
opened-facts H m (Skipped r _) o h s = absurd (none-some o h)
opened-facts H m (Cancelled k q) o h s = absurd (none-some o h)
opened-facts H m (Ordered k a n c q d) o h s = absurd (none-some o h)
opened-facts H m (Carried c t) o h s = absurd (none-some o h)
opened-facts H m Closed o h s = absurd (none-some o h)

pub leased-facts : (H : List Entry) (m : Moment) (w : What) (l : LeasedRun) → lease_in w ≡ Some l → Stepped H m w → LeasedNext H m l
leased-facts H m (Leased k w r q t p d) l h s =
    let same : record { run = r; search = q; stage = t; position = p; deadline = d } ≡ l = cc in
    subst (λ (y : LeasedRun). LeasedNext H m y) same s.facts
leased-facts H m (Founded x) l h s = absurd (none-some l h)
leased-facts H m (Opened x) l h s = absurd (none-some l h)
leased-facts H m (Reported r v _) l h s = absurd (none-some l h)
leased-facts H m (Skipped r _) l h s = absurd (none-some l h)
leased-facts H m (Cancelled k q) l h s = absurd (none-some l h)
leased-facts H m (Ordered k a n c q d) l h s = absurd (none-some l h)
leased-facts H m (Carried c t) l h s = absurd (none-some l h)
leased-facts H m Closed l h s = absurd (none-some l h)

pub reported-facts : (H : List Entry) (m : Moment) (w : What) (r : ReportedRun) → report_in w ≡ Some r → Stepped H m w →
    ReportedNext H r.run r.verdict r.fate
reported-facts H m (Reported n v f) r h s =
    let same : record { run = n; verdict = v; fate = f } ≡ r = cc in
    subst (λ (y : ReportedRun). ReportedNext H y.run y.verdict y.fate) same s.facts
reported-facts H m (Founded x) r h s = absurd (none-some r h)
reported-facts H m (Opened x) r h s = absurd (none-some r h)
reported-facts H m (Leased k w n q t p d) r h s = absurd (none-some r h)
reported-facts H m (Skipped n _) r h s = absurd (none-some r h)
reported-facts H m (Cancelled k q) r h s = absurd (none-some r h)
reported-facts H m (Ordered k a n c q d) r h s = absurd (none-some r h)
reported-facts H m (Carried c t) r h s = absurd (none-some r h)
reported-facts H m Closed r h s = absurd (none-some r h)

pub skipped-facts : (H : List Entry) (m : Moment) (w : What) (r : SkippedRun) → skip_in w ≡ Some r → Stepped H m w →
    SkippedNext H r.run r.fate
skipped-facts H m (Skipped n f) r h s =
    let same : record { run = n; fate = f } ≡ r = cc in
    subst (λ (y : SkippedRun). SkippedNext H y.run y.fate) same s.facts
skipped-facts H m (Founded x) r h s = absurd (none-some r h)
skipped-facts H m (Opened x) r h s = absurd (none-some r h)
skipped-facts H m (Leased k w n q t p d) r h s = absurd (none-some r h)
skipped-facts H m (Reported n v _) r h s = absurd (none-some r h)
skipped-facts H m (Cancelled k q) r h s = absurd (none-some r h)
skipped-facts H m (Ordered k a n c q d) r h s = absurd (none-some r h)
skipped-facts H m (Carried c t) r h s = absurd (none-some r h)
skipped-facts H m Closed r h s = absurd (none-some r h)

-- what is reported with a verdict, or without, is reported
pub report-told : (w : What) (r : ReportedRun) → report_in w ≡ Some r → told_in w ≡ Some r.run
report-told (Reported n v f) r h =
    let same : record { run = n; verdict = v; fate = f } ≡ r = cc in ap (λ (x : ReportedRun). Some x.run) same
report-told (Founded x) r h = absurd (none-some r h)
report-told (Opened x) r h = absurd (none-some r h)
report-told (Leased k w n q t p d) r h = absurd (none-some r h)
report-told (Skipped n _) r h = absurd (none-some r h)
report-told (Cancelled k q) r h = absurd (none-some r h)
report-told (Ordered k a n c q d) r h = absurd (none-some r h)
report-told (Carried c t) r h = absurd (none-some r h)
report-told Closed r h = absurd (none-some r h)

pub skip-told : (w : What) (r : SkippedRun) → skip_in w ≡ Some r → told_in w ≡ Some r.run
skip-told (Skipped n f) r h =
    let same : record { run = n; fate = f } ≡ r = cc in ap (λ (x : SkippedRun). Some x.run) same
skip-told (Founded x) r h = absurd (none-some r h)
skip-told (Opened x) r h = absurd (none-some r h)
skip-told (Leased k w n q t p d) r h = absurd (none-some r h)
skip-told (Reported n v _) r h = absurd (none-some r h)
skip-told (Cancelled k q) r h = absurd (none-some r h)
skip-told (Ordered k a n c q d) r h = absurd (none-some r h)
skip-told (Carried c t) r h = absurd (none-some r h)
skip-told Closed r h = absurd (none-some r h)

-- what is told of no run is no report, with a verdict or without
pub told-none : (w : What) → told_in w ≡ None → (report_in w ≡ None) × (skip_in w ≡ None)
told-none (Founded x) h = (refl, refl)
told-none (Opened x) h = (refl, refl)
told-none (Leased k w n q t p d) h = (refl, refl)
told-none (Reported n v _) h = absurd (none-some n (sym h))
told-none (Skipped n _) h = absurd (none-some n (sym h))
told-none (Cancelled k q) h = (refl, refl)
told-none (Ordered k a n c q d) h = (refl, refl)
told-none (Carried c t) h = (refl, refl)
told-none Closed h = (refl, refl)

-- no entry reports a run both with a verdict and without
pub skip-no_report : (w : What) (r : SkippedRun) → skip_in w ≡ Some r → report_in w ≡ None
skip-no_report (Skipped n f) r h = refl
skip-no_report (Founded x) r h = refl
skip-no_report (Opened x) r h = refl
skip-no_report (Leased k w n q t p d) r h = refl
skip-no_report (Reported n v _) r h = absurd (none-some r h)
skip-no_report (Cancelled k q) r h = refl
skip-no_report (Ordered k a n c q d) r h = refl
skip-no_report (Carried c t) r h = refl
skip-no_report Closed r h = refl

pub report-no_skip : (w : What) (r : ReportedRun) → report_in w ≡ Some r → skip_in w ≡ None
report-no_skip (Reported n v _) r h = refl
report-no_skip (Founded x) r h = refl
report-no_skip (Opened x) r h = refl
report-no_skip (Leased k w n q t p d) r h = refl
report-no_skip (Skipped n _) r h = absurd (none-some r h)
report-no_skip (Cancelled k q) r h = refl
report-no_skip (Ordered k a n c q d) r h = refl
report-no_skip (Carried c t) r h = refl
report-no_skip Closed r h = refl

pub told-facts : (H : List Entry) (m : Moment) (w : What) (run : ℕ) → told_in w ≡ Some run → Stepped H m w → ToldNext H run
told-facts H m (Reported n v _) run h s =
    let same : n ≡ run = cc in
    subst (ToldNext H) same (record { lease = s.facts.lease; known = s.facts.known; first = s.facts.first })
told-facts H m (Skipped n _) run h s =
    let same : n ≡ run = cc in
    subst (ToldNext H) same (record { lease = s.facts.lease; known = s.facts.known; first = s.facts.first })
told-facts H m (Founded x) run h s = absurd (none-some run h)
told-facts H m (Opened x) run h s = absurd (none-some run h)
told-facts H m (Leased k w n q t p d) run h s = absurd (none-some run h)
told-facts H m (Cancelled k q) run h s = absurd (none-some run h)
told-facts H m (Ordered k a n c q d) run h s = absurd (none-some run h)
told-facts H m (Carried c t) run h s = absurd (none-some run h)
told-facts H m Closed run h s = absurd (none-some run h)

pub cancelled-facts : (H : List Entry) (m : Moment) (w : What) (q : ℕ) → cancelled_in w ≡ Some q → Stepped H m w → CancelledNext H q
cancelled-facts H m (Cancelled k x) q h s = let same : x ≡ q = cc in subst (λ (y : ℕ). CancelledNext H y) same s.facts
cancelled-facts H m (Founded x) q h s = absurd (none-some q h)
cancelled-facts H m (Opened x) q h s = absurd (none-some q h)
cancelled-facts H m (Leased k w n x t p d) q h s = absurd (none-some q h)
cancelled-facts H m (Reported n v _) q h s = absurd (none-some q h)
cancelled-facts H m (Skipped n _) q h s = absurd (none-some q h)
cancelled-facts H m (Ordered k a n c x d) q h s = absurd (none-some q h)
cancelled-facts H m (Carried c t) q h s = absurd (none-some q h)
cancelled-facts H m Closed q h s = absurd (none-some q h)

pub ordered-facts : (H : List Entry) (m : Moment) (w : What) (x : OrderLine) → order_in w ≡ Some x → Stepped H m w →
    OrderedNext H m x.order x.commit x.search x.day
ordered-facts H m (Ordered k a n c q d) x h s =
    let same : record { order = n; agent = a; commit = c; search = q; day = d } ≡ x = cc in
    subst (λ (y : OrderLine). OrderedNext H m y.order y.commit y.search y.day) same s.facts
ordered-facts H m (Founded y) x h s = absurd (none-some x h)
ordered-facts H m (Opened y) x h s = absurd (none-some x h)
ordered-facts H m (Leased k w n q t p d) x h s = absurd (none-some x h)
ordered-facts H m (Reported n v _) x h s = absurd (none-some x h)
ordered-facts H m (Skipped n _) x h s = absurd (none-some x h)
ordered-facts H m (Cancelled k q) x h s = absurd (none-some x h)
ordered-facts H m (Carried c t) x h s = absurd (none-some x h)
ordered-facts H m Closed x h s = absurd (none-some x h)

-- a carried order, and a closing

pub closing-is : (w : What) → is_closing w ≡ true → w ≡ Closed
closing-is Closed h = refl
closing-is (Founded s) h = absurd (true≢false (sym h))
closing-is (Opened o) h = absurd (true≢false (sym h))
closing-is (Leased k w r q t p d) h = absurd (true≢false (sym h))
closing-is (Reported r v _) h = absurd (true≢false (sym h))
closing-is (Skipped r _) h = absurd (true≢false (sym h))
closing-is (Cancelled k q) h = absurd (true≢false (sym h))
closing-is (Ordered k a n c q d) h = absurd (true≢false (sym h))
closing-is (Carried c t) h = absurd (true≢false (sym h))

pub closing-facts : (H : List Entry) (m : Moment) (w : What) → is_closing w ≡ true → Stepped H m w → ClosedNext H
closing-facts H m w h s = (subst (Stepped H m) (closing-is w h) s).facts

-- an order of either kind, one that the farm gives and one that is carried over, is for a commit that has none
pub ordered-free : (H : List Entry) (m : Moment) (w : What) (x : rules.Ordered) → ordered_in w ≡ Some x →
    Stepped H m w → has_order (orders H) x.commit ≡ false
ordered-free H m (Ordered k a n c q d) x h s =
    let made : rules.Ordered = record { commit = c; day = d } in
    let same : made ≡ x = cc in
    let next =
    next_draft-ok (confirmed_searches H) (orders H) (length (order_lines H)) (day_in H (moment_ms m)) (daily_limit H) _
    s.facts.next in
    subst (λ (y : rules.Ordered). has_order (orders H) y.commit ≡ false) same next.free
ordered-free H m (Carried c t) x h s =
    let made : rules.Ordered = record { commit = c; day = t } in
    let same : made ≡ x = cc in
    subst (λ (y : rules.Ordered). has_order (orders H) y.commit ≡ false) same s.facts.free
ordered-free H m (Founded y) x h s = absurd (none-some x h)
ordered-free H m (Opened y) x h s = absurd (none-some x h)
ordered-free H m (Leased k w n q t p d) x h s = absurd (none-some x h)
ordered-free H m (Reported n v _) x h s = absurd (none-some x h)
ordered-free H m (Skipped n _) x h s = absurd (none-some x h)
ordered-free H m (Cancelled k q) x h s = absurd (none-some x h)
ordered-free H m Closed x h s = absurd (none-some x h)

-- what holds of the value, if there is one, holds of the list of it
All-optional : {X : Type 0} (P : X → Type 0) (o : Option X) → ((x : X) → o ≡ Some x → P x) → All P (cons_option o [])
All-optional P None h = All-nil P
All-optional P (Some x) h = All-cons P x [] (h x refl) (All-nil P)

-- A part of each entry that has it. What holds of the part of a new entry, where it holds of all parts before, and
-- stays, holds of all parts
pub each_part_on : {X : Type 0} (part : What → Option X) (P : List Entry → X → Type 0) →
    ((w : What) → IsFounding w → part w ≡ None) →
    ((H : List Entry) (e : Entry) (x : X) → IsLegal H → All (P H) (filter_map (λ (y : Entry). part y.what) H) →
    Stepped H e.at e.what → P H x → P (H ++ e ∷ []) x) →
    ((H : List Entry) (e : Entry) (x : X) → IsLegal H → All (P H) (filter_map (λ (y : Entry). part y.what) H) →
    Stepped H e.at e.what → part e.what ≡ Some x → P (H ++ e ∷ []) x) →
    (H : List Entry) → IsLegal H → All (P H) (filter_map (λ (e : Entry). part e.what) H)
each_part_on part P none stays fresh =
    each_legal (λ (H : List Entry). All (P H) (filter_map (λ (e : Entry). part e.what) H))
    (λ e founding. subst (λ o. All (P (e ∷ [])) (cons_option o [])) (sym (none e.what founding)) (All-nil (P (e ∷ []))))
    (λ H e legal all s.
    subst (λ xs. All (P (H ++ e ∷ [])) xs) (sym (parts-grow part H e))
    (All-append (P (H ++ e ∷ [])) (filter_map (λ (x : Entry). part x.what) H) (cons_option (part e.what) [])
    (λ k d below. stays H e _ legal all s (all k d below))
    (All-optional (P (H ++ e ∷ [])) (part e.what) (λ x is. fresh H e x legal all s is))))

pub each_part : {X : Type 0} (part : What → Option X) (P : List Entry → X → Type 0) →
    ((w : What) → IsFounding w → part w ≡ None) →
    ((H : List Entry) (e : Entry) (x : X) → IsLegal H → Stepped H e.at e.what → P H x → P (H ++ e ∷ []) x) →
    ((H : List Entry) (e : Entry) (x : X) → IsLegal H → Stepped H e.at e.what → part e.what ≡ Some x → P (H ++ e ∷ []) x) →
    (H : List Entry) → IsLegal H → All (P H) (filter_map (λ (e : Entry). part e.what) H)
each_part part P none stays fresh =
    each_part_on part P none (λ H e x legal all s. stays H e x legal s) (λ H e x legal all s. fresh H e x legal s)
