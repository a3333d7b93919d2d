-- Each commit is ordered once, and no day is over its limit.
use Rattle.std.proofs.Common.{◌≡◌, ◌≢◌, ℕ, ◌+◌, ◌≤◌, ◌<◌, ◌==◌, false, ◌||◌, cond, List, [], ◌∷◌, ◌++◌, length, map, Option, Some, All, AllPairs, refl, sym, ap, subst, ◌∙◌, append-nil, ⊎_elim, arith}
use Rattle.std.specs.List.{cons_option}
use Rattle.std.proofs.lemmas.Bool.{both_ways, cases_eq, cases_lt, cond-false, cond_both, ne_eqb, or_parts}
use Rattle.std.proofs.lemmas.List.Elements.{All-cons, All-nil}
use Rattle.std.proofs.lemmas.List.Folds.{list_any-append}
use Rattle.std.proofs.lemmas.List.Sums.{sum_by_push}
use Rattle.farm_rules.specs.Orders.{has_order, orders_of}
use Rattle.farm_rules.specs.Orders as rules
use Rattle.farm_types.specs.CommitId.{same_id}
use Rattle.farm_types.specs.Moment.{moment_ms}
use Rattle.farm_types.specs.declared.commit_id.CommitId.{CommitId}
use Rattle.farm_types.specs.declared.moment.Moment.{Moment}
use Rattle.farm_types.proofs.SameValues.{same_id-Decides}
use Rattle.farm_rules.proofs.Drafts.{next_draft-ok}
use Rattle.farm_entry.specs.History.{daily_limit, order_in, order_lines, ordered_in}
use Rattle.farm_entry.specs.Legal.{IsFounding, IsLegal}
use Rattle.farm_entry.specs.Orders.{carried, confirmed_searches, day_in, given, ordered, orders}
use Rattle.farm_entry.specs.declared.entry.Entry.{Entry}
use Rattle.farm_entry.specs.declared.entry.What.{What}
use Rattle.farm_entry.specs.declared.entry.What.TheVariants.{Founded, Opened, Leased, Reported, Skipped, Cancelled, Ordered, Carried, Closed}
use Rattle.farm_entry.specs.declared.order_page.OrderLine.{OrderLine}
use Rattle.farm_entry.proofs.Growing.{order_lines-grow, orders-grow}
use Rattle.farm_laws.proofs.CarriedOver.{given-begun, given-grow, orders-split}
use Rattle.farm_laws.proofs.Counts.{count_by-append}
use Rattle.farm_laws.proofs.EntryParts.{ordered-free}
use Rattle.farm_laws.proofs.Induct.{each_legal}
use Rattle.farm_laws.proofs.Numbered.{no_order}
use Rattle.farm_laws.proofs.Pairs.{AllPairs-more, AllPairs-nil}
use Rattle.farm_laws.proofs.Stepped.{KindFacts}

-- an order comes where its commit has none, and where its day has room
record HasRoom (H : List Entry) (line : OrderLine) : Type 0 where
  pub free : has_order (orders H) line.commit ≡ false
  pub room : orders_of line.day (orders H) < daily_limit H

-- an order that is handed out does
has_room : (H : List Entry) (m : Moment) (what : What) (line : OrderLine) → KindFacts H m what → order_in what ≡ Some line → HasRoom H line
has_room H m (Founded settings) line facts holds = absurd facts
has_room H m (Opened o) line facts holds = absurd (cc)
has_room H m (Leased key worker run search stage position deadline) line facts holds = absurd (cc)
has_room H m (Reported run verdict _) line facts holds = absurd (cc)
has_room H m (Skipped run _) line facts holds = absurd (cc)
has_room H m (Cancelled key search) line facts holds = absurd (cc)
has_room H m (Ordered key agent order commit search day) line facts holds =
    let made : OrderLine = record { order = order; agent = agent; commit = commit; search = search; day = day } in
    let same : made ≡ line = cc in
    let next =
    next_draft-ok (confirmed_searches H) (orders H) (length (order_lines H)) (day_in H (moment_ms m)) (daily_limit H) _
    facts.next in
    subst (λ (x : OrderLine). HasRoom H x) same (record {
      free = next.free;
      room = subst (λ (d : ℕ). orders_of d (orders H) < daily_limit H) (sym next.dated) next.room;
    })
has_room H m (Carried c t) line facts holds = absurd (cc)
has_room H m Closed line facts holds = absurd (cc)

-- a commit that has no order differs from each that has one
commits-differ : (lines : List OrderLine) (commit : CommitId) → has_order (map ordered lines) commit ≡ false → All (λ (x : OrderLine). x.commit ≢ commit) lines
commits-differ [] commit free = All-nil (λ (x : OrderLine). x.commit ≢ commit)
commits-differ (l ∷ lines) commit free =
    let parts = or_parts (same_id l.commit commit) (has_order (map ordered lines) commit) free in
    All-cons (λ (x : OrderLine). x.commit ≢ commit) l lines
    (λ same. both_ways (same_id l.commit commit) parts.0 ((same_id-Decides l.commit commit).1 same)) (commits-differ lines commit parts.1)

-- a commit that has no order has none that the farm gave
free-given : (H : List Entry) (commit : CommitId) → IsLegal H → has_order (orders H) commit ≡ false →
    has_order (given H) commit ≡ false
free-given H commit legal free =
    let split : has_order (orders H) commit ≡ has_order (carried H ++ given H) commit =
    ap (λ (os : List rules.Ordered). has_order os commit) (orders-split H legal) in
    let either : has_order (carried H ++ given H) commit ≡ (has_order (carried H) commit || has_order (given H) commit) =
    list_any-append (λ (o : rules.Ordered). same_id o.commit commit) (carried H) (given H) in
    (or_parts (has_order (carried H) commit) (has_order (given H) commit) (sym either ∙ sym split ∙ free)).1

pub commits-once : (H : List Entry) → IsLegal H → AllPairs (λ (a b : OrderLine). a.commit ≢ b.commit) (order_lines H)
commits-once =
    let R : OrderLine → OrderLine → Type 0 = λ a b. a.commit ≢ b.commit in
    each_legal (λ (H : List Entry). AllPairs R (order_lines H))
    (λ e founding. AllPairs-more R [] (order_in e.what) (AllPairs-nil R) (λ y holds. All-nil (λ (x : OrderLine). R x y)))
    (λ H e legal once step. subst (λ (ls : List OrderLine). AllPairs R ls) (sym (order_lines-grow H e))
    (AllPairs-more R (order_lines H) (order_in e.what) once
    (λ line holds.
    commits-differ (order_lines H) line.commit
    (free-given H line.commit legal (has_room H e.at e.what line step.facts holds).free))))

-- the same of the orders that were carried over too
orders-differ : (os : List rules.Ordered) (commit : CommitId) → has_order os commit ≡ false →
    All (λ (x : rules.Ordered). x.commit ≢ commit) os
orders-differ [] commit free = All-nil (λ (x : rules.Ordered). x.commit ≢ commit)
orders-differ (o ∷ os) commit free =
    let parts = or_parts (same_id o.commit commit) (has_order os commit) free in
    All-cons (λ (x : rules.Ordered). x.commit ≢ commit) o os
    (λ same. both_ways (same_id o.commit commit) parts.0 ((same_id-Decides o.commit commit).1 same))
    (orders-differ os commit parts.1)

pub orders-once : (H : List Entry) → IsLegal H → AllPairs (λ (a b : rules.Ordered). a.commit ≢ b.commit) (orders H)
orders-once =
    let R : rules.Ordered → rules.Ordered → Type 0 = λ a b. a.commit ≢ b.commit in
    each_legal (λ (H : List Entry). AllPairs R (orders H))
    (λ e founding.
    AllPairs-more R [] (ordered_in e.what) (AllPairs-nil R) (λ y holds. All-nil (λ (x : rules.Ordered). R x y)))
    (λ H e legal once step. subst (λ (os : List rules.Ordered). AllPairs R os) (sym (orders-grow H e))
    (AllPairs-more R (orders H) (ordered_in e.what) once
    (λ x holds. orders-differ (orders H) x.commit (ordered-free H e.at e.what x holds step))))

-- The limit of a day.

-- whether an order is of a day, as a count of it
abbrev on_day : (day : ℕ) → rules.Ordered → ℕ
on_day day o = cond (o.day == day) 1 0

-- a day on which the farm gave an order is within the limit
abbrev IsLimited : (day limit : ℕ) → (all given_here : List rules.Ordered) → Type 0
IsLimited day limit all given_here = 0 < orders_of day given_here → orders_of day all ≤ limit

-- it stays so with an order more, which comes where its own day has room
limited-given : (day limit : ℕ) (os gs : List rules.Ordered) (x : rules.Ordered) → IsLimited day limit os gs →
    orders_of x.day os < limit → IsLimited day limit (os ++ x ∷ []) (gs ++ x ∷ [])
limited-given day limit os gs x few room some =
    let longer : orders_of day (os ++ x ∷ []) ≡ orders_of day os + on_day day x = sum_by_push (on_day day) os x in
    let more : orders_of day (gs ++ x ∷ []) ≡ orders_of day gs + on_day day x = sum_by_push (on_day day) gs x in
    ⊎_elim
    (λ (same : x.day ≡ day).
    let below : orders_of day os < limit = subst (λ (d : ℕ). orders_of d os < limit) same room in
    let one : on_day day x ≤ 1 = cond_both (x.day == day) 1 0 (λ n. n ≤ 1) (λ t. omega arith) (λ t. omega arith) in
    omega arith)
    (λ (differ : x.day ≡ day → ⊥).
    let none : on_day day x ≡ 0 = cond-false (x.day == day) 1 0 (ne_eqb x.day day differ) in
    let before : orders_of day os ≤ limit = few (omega arith) in
    omega arith)
    (cases_eq x.day day)

-- and with an entry that is no order
limited-none : (day limit : ℕ) (os gs : List rules.Ordered) → IsLimited day limit os gs →
    IsLimited day limit (os ++ []) (gs ++ [])
limited-none day limit os gs few =
    subst (λ (xs : List rules.Ordered). IsLimited day limit xs (gs ++ [])) (sym (append-nil os))
    (subst (λ (xs : List rules.Ordered). IsLimited day limit os xs) (sym (append-nil gs)) few)

-- where none was given yet nothing is said
limited-begun : (day limit : ℕ) (os gs : List rules.Ordered) → gs ≡ [] → IsLimited day limit os (gs ++ [])
limited-begun day limit os gs none some =
    let empty : orders_of day (gs ++ []) ≡ 0 = ap (orders_of day) (append-nil gs ∙ none) in
    absurd (omega (arith, some, empty))

limited-next : (H : List Entry) (m : Moment) (w : What) (day : ℕ) → KindFacts H m w →
    IsLimited day (daily_limit H) (orders H) (given H) →
    IsLimited day (daily_limit H) (orders H ++ cons_option (ordered_in w) [])
    (given H ++ map ordered (cons_option (order_in w) []))
limited-next H m (Founded settings) day facts few = absurd facts
limited-next H m (Opened o) day facts few = limited-none day (daily_limit H) (orders H) (given H) few
limited-next H m (Leased key worker run search stage position deadline) day facts few =
    limited-none day (daily_limit H) (orders H) (given H) few
limited-next H m (Reported run verdict _) day facts few = limited-none day (daily_limit H) (orders H) (given H) few
limited-next H m (Skipped run _) day facts few = limited-none day (daily_limit H) (orders H) (given H) few
limited-next H m (Cancelled key search) day facts few = limited-none day (daily_limit H) (orders H) (given H) few
limited-next H m (Ordered key agent order commit search on) day facts few =
    let line : OrderLine = record { order = order; agent = agent; commit = commit; search = search; day = on } in
    limited-given day (daily_limit H) (orders H) (given H) (ordered line) few
    (has_room H m (Ordered key agent order commit search on) line facts refl).room
limited-next H m (Carried commit on) day facts few =
    limited-begun day (daily_limit H) (orders H ++ record { commit = commit; day = on } ∷ []) (given H)
    (given-begun H m facts.begun)
limited-next H m Closed day facts few = limited-none day (daily_limit H) (orders H) (given H) few

-- the limit stays as the farm was founded with
daily_limit-stays : (H : List Entry) (e : Entry) → IsLegal H → daily_limit (H ++ e ∷ []) ≡ daily_limit H
daily_limit-stays [] e legal = absurd legal
daily_limit-stays (f ∷ H) e legal = refl

-- a founding has no order
given-founded : (day : ℕ) (w : What) → IsFounding w → orders_of day (map ordered (cons_option (order_in w) [])) ≡ 0
given-founded day w founding =
    ap (λ (o : Option OrderLine). orders_of day (map ordered (cons_option o []))) (no_order w founding)

-- a day on which the farm gave an order has no more than its limit, with those that were carried over
pub days-limited_together : (H : List Entry) (day : ℕ) → IsLegal H → 0 < orders_of day (given H) →
    orders_of day (orders H) ≤ daily_limit H
days-limited_together H day legal =
    each_legal (λ (G : List Entry). IsLimited day (daily_limit G) (orders G) (given G))
    (λ e founding some. absurd (omega (arith, some, given-founded day e.what founding)))
    (λ G e legal' few step.
    subst (λ (limit : ℕ). IsLimited day limit (orders (G ++ e ∷ [])) (given (G ++ e ∷ [])))
    (sym (daily_limit-stays G e legal'))
    (subst (λ (xs : List rules.Ordered). IsLimited day (daily_limit G) (orders (G ++ e ∷ [])) xs) (sym (given-grow G e))
    (subst
    (λ (xs : List rules.Ordered).
    IsLimited day (daily_limit G) xs (given G ++ map ordered (cons_option (order_in e.what) [])))
    (sym (orders-grow G e))
    (limited-next G e.at e.what day step.facts few))))
    H legal

-- how many orders a day has, of those carried over and of those given
pub orders_of-split : (H : List Entry) (day : ℕ) → IsLegal H →
    orders_of day (orders H) ≡ orders_of day (carried H) + orders_of day (given H)
orders_of-split H day legal =
    ap (orders_of day) (orders-split H legal) ∙ count_by-append (λ (o : rules.Ordered). o.day == day) (carried H) (given H)

-- and no day is given more than the limit
pub days-limited : (H : List Entry) (day : ℕ) → IsLegal H → orders_of day (given H) ≤ daily_limit H
days-limited H day legal =
    ⊎_elim
    (λ (some : 0 < orders_of day (given H)).
    let most : orders_of day (orders H) ≤ daily_limit H = days-limited_together H day legal some in
    omega (arith, most, orders_of-split H day legal))
    (λ (none : orders_of day (given H) ≤ 0). omega arith)
    (cases_lt 0 (orders_of day (given H)))
