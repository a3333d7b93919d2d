-- Up to which number no search waits for an order.
use Rattle.std.proofs.Common.{◌≡◌, inl, inr, ⊎_elim, ℕ, zero, suc, ◌+◌, ◌-◌, ◌<◌, ◌≤◌, ◌==◌, Bool, true, false, ◌||◌, if◌then◌else◌, List, [], ◌∷◌, ◌++◌, length, find, Contains, Option, Some, None, refl, sym, ap, subst, ◌∙◌, arith, append-nil, length-append, true≢false}
use Rattle.std.specs.List.{cons_option, filter_map}
use Rattle.std.specs.Option.{is_some, option_and_then, option_map}
use Rattle.std.proofs.lemmas.Bool.{cases_eq}
use Rattle.std.proofs.lemmas.List.Folds.{list_any-append}
use Rattle.std.proofs.Math.Nat.{min-le_left, min-le_right}
use Rattle.std.proofs.lemmas.Option.{none-some}
use Rattle.farm_types.specs.CommitId.{same_id}
use Rattle.farm_types.specs.declared.moment.Moment.{Moment}
use Rattle.farm_rules.specs.Orders.{candidates, earliest, has_order}
use Rattle.farm_rules.specs.Orders as rules
use Rattle.farm_rules.specs.declared.orders.Candidate.{Candidate}
use Rattle.farm_entry.specs.History.{cancelled_in, lease_in, lease_of, opening_in, opening_numbered, openings, told_in}
use Rattle.farm_entry.specs.Legal.{IsLegal}
use Rattle.farm_entry.specs.Orders.{confirmed_at, confirmed_searches, orders}
use Rattle.farm_entry.specs.Setup.{commit_of}
use Rattle.farm_entry.specs.Standing.{is_confirmed, standing}
use Rattle.farm_entry.specs.declared.entry.Entry.{Entry}
use Rattle.farm_entry.specs.declared.entry.What.{What}
use Rattle.farm_entry.specs.declared.entry.What.TheVariants.{Founded, Opened, Leased, Reported, Skipped, Cancelled, Ordered, Carried, Closed}
use Rattle.farm_entry.specs.declared.lease.LeasedRun.{LeasedRun}
use Rattle.farm_entry.specs.declared.opening.Opening.{Opening}
use Rattle.farm_entry.specs.declared.standing.Standing.{Standing}
use Rattle.farm_entry.specs.declared.standing.Standing.TheVariants as standings
use Rattle.farm_entry.proofs.Growing.{openings-grow, orders-grow}
use Rattle.farm_laws.proofs.EntryParts.{told-facts}
use Rattle.farm_laws.proofs.Filters.{lease_of-stays, opening_numbered-stays}
use Rattle.farm_laws.proofs.Numbered.{number-at, opening-found, opening-there, openings-numbered}
use Rattle.farm_laws.proofs.Stepped.{Stepped}
use Rattle.farm_laws.specs.Steps.{IsAbout}
use Rattle.farm_laws.proofs.OneMore.{standing-same}
use Rattle.search_state.specs.SearchView.{SearchView, standing_in}
use Rattle.search_state.specs.Seen.{seen}
use Rattle.search_state.proofs.Changes.{cancelled-seen}
use Rattle.farm_ledger.specs.Waiting.{IsLowest, IsServed, low_after, low_at, low_leased, unordered, waiting, waiting_numbered}
use Rattle.farm_ledger.proofs.Counts.{IsUnopened, opened-number}
use Rattle.farm_ledger.proofs.Earliest.{candidates-each, first-earliest, none-earliest}
use Rattle.farm_ledger.proofs.Found.{opened-at, unopened-none}

-- What is found by number.

abbrev pub waiting_in : List Entry → Option Opening → Option Candidate
waiting_in H x = option_and_then (waiting H) x

pub waiting-found : (H : List Entry) (o : Opening) → IsLegal H → Contains (openings H) o →
    waiting_numbered H o.search ≡ waiting H o
waiting-found H o legal there = ap (waiting_in H) (opening-found H o legal there)

pub waiting-unopened : (H : List Entry) (number : ℕ) → IsLegal H → IsUnopened H number → waiting_numbered H number ≡ None
waiting-unopened H number legal out = ap (waiting_in H) (unopened-none H number legal out)

-- one that waits was opened
pub waiting-opened : (H : List Entry) (number : ℕ) (c : Candidate) → IsLegal H → waiting_numbered H number ≡ Some c → 1 ≤ number
waiting-opened H zero c legal is = absurd (none-some c (sym (waiting-unopened H 0 legal (inl refl)) ∙ is))
waiting-opened H (suc n) c legal is = omega arith

-- as it is read off the state of the search
pub waiting-read : (H X : List Entry) (number : ℕ) (o : Opening) (v : SearchView) (s : Standing) (x : Option Candidate) → X ≡ H →
    Some o ≡ opening_numbered H number → Some v ≡ option_map (seen X) (opening_numbered X number) → s ≡ standing_in v →
    x ≡ confirmed_at s o → waiting_numbered H number ≡ unordered (orders H) x
waiting-read H X number o v s x same known has stands is =
    let held : Some v ≡ Some (seen H o) =
    has
    ∙ ap (λ (Y : List Entry). option_map (seen Y) (opening_numbered Y number)) same
    ∙ ap (option_map (seen H)) (sym known) in
    let view : v ≡ seen H o = cc in
    let stands_so : s ≡ standing H o = stands ∙ ap (λ (w : SearchView). standing_in w) view in
    ap (waiting_in H) (sym known)
    ∙ ap (unordered (orders H)) (sym (is ∙ ap (λ (t : Standing). confirmed_at t o) stands_so))

-- one that isn't there waits for none, nor one that isn't confirmed
waiting-none : (H X : List Entry) (number : ℕ) (x : Option Opening) → X ≡ H → opening_numbered H number ≡ x →
    option_map (seen X) (opening_numbered X number) ≡ None → waiting_in H x ≡ None
waiting-none H X number None same is none = refl
waiting-none H X number (Some o) same is none =
    absurd (none-some (seen H o) (sym none
    ∙ ap (λ (Y : List Entry). option_map (seen Y) (opening_numbered Y number)) same
    ∙ ap (option_map (seen H)) is))

pub waiting-unknown : (H X : List Entry) (number : ℕ) → X ≡ H → option_map (seen X) (opening_numbered X number) ≡ None →
    waiting_numbered H number ≡ None
waiting-unknown H X number same none = waiting-none H X number (opening_numbered H number) same refl none

unconfirmed-none : (s : Standing) (o : Opening) → is_confirmed s ≡ false → confirmed_at s o ≡ None
unconfirmed-none (standings.Confirmed culprit) o other = absurd (true≢false other)
unconfirmed-none standings.Searching o other = refl
unconfirmed-none (standings.Verifying i) o other = refl
unconfirmed-none (standings.Vindicated i) o other = refl
unconfirmed-none standings.NoCulprit o other = refl
unconfirmed-none standings.Inconclusive o other = refl
unconfirmed-none standings.Cancelled o other = refl

unconfirmed-in : (H X : List Entry) (number : ℕ) (x : Option Opening) (v : SearchView) (s : Standing) → X ≡ H →
    opening_numbered H number ≡ x → Some v ≡ option_map (seen X) (opening_numbered X number) → s ≡ standing_in v →
    is_confirmed s ≡ false → waiting_in H x ≡ None
unconfirmed-in H X number None v s same is has stands other = refl
unconfirmed-in H X number (Some o) v s same is has stands other =
    let held : Some v ≡ Some (seen H o) =
    has
    ∙ ap (λ (Y : List Entry). option_map (seen Y) (opening_numbered Y number)) same
    ∙ ap (option_map (seen H)) is in
    let view : v ≡ seen H o = cc in
    let stands_so : s ≡ standing H o = stands ∙ ap (λ (w : SearchView). standing_in w) view in
    ap (unordered (orders H))
    (unconfirmed-none (standing H o) o (subst (λ (t : Standing). is_confirmed t ≡ false) stands_so other))

pub waiting-unconfirmed : (H X : List Entry) (number : ℕ) (v : SearchView) (s : Standing) → X ≡ H →
    Some v ≡ option_map (seen X) (opening_numbered X number) → s ≡ standing_in v → is_confirmed s ≡ false →
    waiting_numbered H number ≡ None
waiting-unconfirmed H X number v s same has stands other =
    unconfirmed-in H X number (opening_numbered H number) v s same refl has stands other

pub unordered-by : (H : List Entry) (os : List rules.Ordered) (c : Candidate) (b : Bool) → os ≡ orders H →
    has_order os c.commit ≡ b → unordered (orders H) (Some c) ≡ (if b then None else Some c)
unordered-by H os c b same has =
    ap (λ (t : Bool). if t then None else Some c) (ap (λ (l : List rules.Ordered). has_order l c.commit) (sym same) ∙ has)

-- The first that waits.

candidate-own : (s : Standing) (o : Opening) (c : Candidate) → confirmed_at s o ≡ Some c → c.search ≡ o.search
candidate-own (standings.Confirmed culprit) o c h =
    let same : record { search = o.search; commit = commit_of o culprit } ≡ c = cc in
    sym (ap (λ (x : Candidate). x.search) same)
candidate-own standings.Searching o c h = absurd (none-some c h)
candidate-own (standings.Verifying i) o c h = absurd (none-some c h)
candidate-own (standings.Vindicated i) o c h = absurd (none-some c h)
candidate-own standings.NoCulprit o c h = absurd (none-some c h)
candidate-own standings.Inconclusive o c h = absurd (none-some c h)
candidate-own standings.Cancelled o c h = absurd (none-some c h)

unordered-from : (os : List rules.Ordered) (x : Option Candidate) (c : Candidate) → unordered os x ≡ Some c → x ≡ Some c
unordered-from os None c h = absurd (none-some c h)
unordered-from os (Some d) c h = by (has_order os d.commit) h
  where
    by : (b : Bool) → (if b then None else Some d) ≡ Some c → Some d ≡ Some c
    by true e = absurd (none-some c e)
    by false e = e

waiting-own : (H : List Entry) (o : Opening) (c : Candidate) → waiting H o ≡ Some c → c.search ≡ o.search
waiting-own H o c h =
    candidate-own (standing H o) o c (unordered-from (orders H) (confirmed_at (standing H o) o) c h)

-- the earliest of the searches that wait, one by one
earliest-waiting : (H : List Entry) →
    earliest (candidates (confirmed_searches H) (orders H)) ≡ earliest (filter_map (waiting H) (openings H))
earliest-waiting H = ap earliest (candidates-each (orders H) (λ o. confirmed_at (standing H o) o) (openings H))

none-before : (H : List Entry) (low : ℕ) (x : Opening) → IsLegal H → IsServed H low → Contains (openings H) x → x.search ≤ low →
    waiting H x ≡ None
none-before H low x legal s there small = sym (waiting-found H x legal there) ∙ s.none x.search small

-- where all searches are passed, none waits
pub served-all : (H : List Entry) (low : ℕ) → IsLegal H → IsServed H low → length (openings H) ≤ low →
    waiting_numbered H (low + 1) ≡ earliest (candidates (confirmed_searches H) (orders H))
served-all H low legal s all =
    let past : length (openings H) < low + 1 = omega (arith, all) in
    waiting-unopened H (low + 1) legal (inr past)
    ∙ sym (earliest-waiting H
    ∙ none-earliest (waiting H) (openings H)
    (λ x there. none-before H low x legal s there (omega (arith, (opened-number H x legal there).1, all))))

-- else the next one may be the first
first-by : (H : List Entry) (low : ℕ) (c : Candidate) (x : Option Opening) → IsLegal H → IsServed H low →
    opening_numbered H (low + 1) ≡ x → waiting_in H x ≡ Some c →
    earliest (filter_map (waiting H) (openings H)) ≡ Some c
first-by H low c None legal s is waits = absurd (none-some c waits)
first-by H low c (Some o) legal s is waits =
    let found = opening-there H (low + 1) o is in
    let there : Contains (openings H) o = found.0 in
    let at = number-at (λ (y : Opening). y.search) 1 (openings H) (openings-numbered H legal) there.0 o there.1 in
    let number : o.search ≡ 1 + there.0 = ap (λ (y : Opening). y.search) (sym there.2) ∙ at in
    first-earliest (waiting H) 1 (openings H) there.0 o c (λ y d makes. waiting-own H y d makes) (openings-numbered H legal)
    there.1 there.2
    (λ y in_it low_one. none-before H low y legal s in_it (omega (arith, low_one, number, found.1))) waits

pub served-first : (H : List Entry) (low : ℕ) (c : Candidate) → IsLegal H → IsServed H low → waiting_numbered H (low + 1) ≡ Some c →
    waiting_numbered H (low + 1) ≡ earliest (candidates (confirmed_searches H) (orders H))
served-first H low c legal s waits =
    waits ∙ sym (earliest-waiting H ∙ first-by H low c (opening_numbered H (low + 1)) legal s refl waits)

pub served-some : (H : List Entry) (low : ℕ) (x : Option Candidate) → IsLegal H → IsServed H low →
    waiting_numbered H (low + 1) ≡ x → is_some x ≡ true →
    waiting_numbered H (low + 1) ≡ earliest (candidates (confirmed_searches H) (orders H))
served-some H low None legal s is some = absurd (true≢false (sym some))
served-some H low (Some c) legal s is some = served-first H low c legal s is

-- One entry more.

-- what has an order keeps it
ordered-grow : (os more : List rules.Ordered) (x : Option Candidate) → unordered os x ≡ None → unordered (os ++ more) x ≡ None
ordered-grow os more None none = refl
ordered-grow os more (Some c) none = by (has_order os c.commit) refl none
  where
    by : (b : Bool) → has_order os c.commit ≡ b → (if b then None else Some c) ≡ None → unordered (os ++ more) (Some c) ≡ None
    by true has e =
        let still : has_order (os ++ more) c.commit ≡ true =
        list_any-append (λ (o : rules.Ordered). same_id o.commit c.commit) os more
        ∙ ap (λ (b : Bool). b || has_order more c.commit) has in
        ap (λ (b : Bool). if b then None else Some c) still
    by false has e = absurd (none-some c (sym e))

-- an entry that isn't about a search doesn't make it wait
quiet-waiting : (H : List Entry) (e : Entry) (o : Opening) → IsLegal H → Stepped H e.at e.what → (IsAbout H e.what o.search → ⊥) →
    waiting H o ≡ None → waiting (H ++ e ∷ []) o ≡ None
quiet-waiting H e o legal step other none =
    ap (λ (s : Standing). unordered (orders (H ++ e ∷ [])) (confirmed_at s o)) (standing-same H e o legal step other)
    ∙ ap (λ (os : List rules.Ordered). unordered os (confirmed_at (standing H o) o)) (orders-grow H e)
    ∙ ordered-grow (orders H) _ (confirmed_at (standing H o) o) none

-- a cancelled search doesn't wait
cancelled-waiting : (H : List Entry) (e : Entry) (o : Opening) → IsLegal H → Stepped H e.at e.what →
    cancelled_in e.what ≡ Some o.search → waiting (H ++ e ∷ []) o ≡ None
cancelled-waiting H e o legal step is =
    let ended : standing (H ++ e ∷ []) o ≡ standings.Cancelled =
    ap (λ (s : SearchView). standing_in s) (cancelled-seen H e o legal step is) in
    ap (λ (s : Standing). unordered (orders (H ++ e ∷ [])) (confirmed_at s o)) ended

low_at-low : (low search : ℕ) (x : Option Candidate) → low_at low search x ≤ low
low_at-low low search None = omega arith
low_at-low low search (Some c) = min-le_left low (search - 1)

low_leased-low : (H : List Entry) (low : ℕ) (x : Option LeasedRun) → low_leased H low x ≤ low
low_leased-low H low None = omega arith
low_leased-low H low (Some l) = low_at-low low l.search (waiting_numbered H l.search)

low_after-low : (H : List Entry) (low : ℕ) (x : Option ℕ) → low_after H low x ≤ low
low_after-low H low None = omega arith
low_after-low H low (Some run) = low_leased-low H low (lease_of H run)

-- the search of a report, where the number was lowered below it
reported-low : (low number : ℕ) (x : Option Candidate) → 1 ≤ number → number ≤ low_at low number x → x ≡ None
reported-low low number None some small = refl
reported-low low number (Some c) some small =
    absurd (omega (arith, some, small, min-le_right low (number - 1)))

-- of an entry that reports a run, with a verdict or not
told-waiting : (H : List Entry) (m : Moment) (w : What) (run low : ℕ) (o : Opening) → IsLegal H → Stepped H m w →
    told_in w ≡ Some run → (IsAbout H w o.search → (l : LeasedRun) × (lease_of H run ≡ Some l) × (l.search ≡ o.search)) →
    waiting H o ≡ None → 1 ≤ o.search →
    waiting_numbered (H ++ record { at = m; what = w } ∷ []) o.search ≡ waiting (H ++ record { at = m; what = w } ∷ []) o →
    o.search ≤ low_after (H ++ record { at = m; what = w } ∷ []) low (Some run) →
    waiting (H ++ record { at = m; what = w } ∷ []) o ≡ None
told-waiting H m w run low o legal step is of_run none some found small =
    let e : Entry = record { at = m; what = w } in
    let facts = told-facts H m w run is step in
    let l : LeasedRun = facts.lease in
    let known : lease_of (H ++ e ∷ []) run ≡ Some l = lease_of-stays H e run l facts.known in
    ⊎_elim
    (λ (same : l.search ≡ o.search).
    let lowered : low_after (H ++ e ∷ []) low (Some run) ≡ low_at low o.search (waiting_numbered (H ++ e ∷ []) o.search) =
    ap (low_leased (H ++ e ∷ []) low) known
    ∙ ap (λ (n : ℕ). low_at low n (waiting_numbered (H ++ e ∷ []) n)) same in
    sym found
    ∙ reported-low low o.search (waiting_numbered (H ++ e ∷ []) o.search) some
    (subst (λ (n : ℕ). o.search ≤ n) lowered small))
    (λ (other : l.search ≡ o.search → ⊥).
    quiet-waiting H e o legal step
    (λ about.
    let it = of_run about in
    other (ap (λ (x : LeasedRun). x.search) (one-lease facts.known it.1) ∙ it.2)) none)
    (cases_eq l.search o.search)
  where
    one-lease : {l k : LeasedRun} → lease_of H run ≡ Some l → lease_of H run ≡ Some k → l ≡ k
    one-lease first second = let both : Some _ ≡ Some _ = sym first ∙ second in cc

-- of each kind of entries
kind-waiting : (H : List Entry) (m : Moment) (w : What) (low : ℕ) (o : Opening) → IsLegal H →
    Stepped H m w → Contains (openings H) o → waiting H o ≡ None → 1 ≤ o.search →
    waiting_numbered (H ++ record { at = m; what = w } ∷ []) o.search ≡ waiting (H ++ record { at = m; what = w } ∷ []) o →
    o.search ≤ low_after (H ++ record { at = m; what = w } ∷ []) low (told_in w) →
    waiting (H ++ record { at = m; what = w } ∷ []) o ≡ None
kind-waiting H m (Founded x) low o legal step there none some found small = quiet-waiting H _ o legal step (λ h. h) none
kind-waiting H m (Opened x) low o legal step there none some found small = quiet-waiting H _ o legal step (λ h. h) none
kind-waiting H m (Leased k w n q t p d) low o legal step there none some found small =
    quiet-waiting H _ o legal step (λ h. h) none
kind-waiting H m (Ordered k a n c q d) low o legal step there none some found small =
    quiet-waiting H _ o legal step (λ h. h) none
kind-waiting H m (Carried c d) low o legal step there none some found small =
    quiet-waiting H _ o legal step (λ h. h) none
kind-waiting H m Closed low o legal step there none some found small =
    quiet-waiting H _ o legal step (λ h. h) none
kind-waiting H m (Cancelled k q) low o legal step there none some found small =
    ⊎_elim
    (λ (same : q ≡ o.search). cancelled-waiting H _ o legal step (ap Some same))
    (λ (other : q ≡ o.search → ⊥). quiet-waiting H _ o legal step other none)
    (cases_eq q o.search)
kind-waiting H m (Reported run v f) low o legal step there none some found small =
    told-waiting H m (Reported run v f) run low o legal step refl (λ about. about) none some found small
kind-waiting H m (Skipped run f) low o legal step there none some found small =
    told-waiting H m (Skipped run f) run low o legal step refl (λ about. about) none some found small

pushed-number : (H : List Entry) (e : Entry) (low number : ℕ) → IsLegal H → IsLegal (H ++ e ∷ []) → Stepped H e.at e.what →
    IsServed H low → 1 ≤ number → number ≤ low_after (H ++ e ∷ []) low (told_in e.what) →
    waiting_numbered (H ++ e ∷ []) number ≡ None
pushed-number H e low number legal longer step s some small =
    let least : number ≤ low = omega (arith, small, low_after-low (H ++ e ∷ []) low (told_in e.what)) in
    let it = opened-at H number legal some (omega (arith, least, s.within)) in
    let o : Opening = it.0 in
    let found = opening-there H number o it.1 in
    let before : waiting H o ≡ None = ap (waiting_in H) (sym it.1) ∙ s.none number least in
    let still : opening_numbered (H ++ e ∷ []) number ≡ Some o = opening_numbered-stays H e number o it.1 in
    let after : waiting_numbered (H ++ e ∷ []) number ≡ waiting (H ++ e ∷ []) o = ap (waiting_in (H ++ e ∷ [])) still in
    let same : number ≡ o.search = sym found.1 in
    after
    ∙ kind-waiting H e.at e.what low o legal step found.0 before (subst (λ (n : ℕ). 1 ≤ n) same some)
    (subst (λ (n : ℕ). waiting_numbered (H ++ e ∷ []) n ≡ waiting (H ++ e ∷ []) o) same after)
    (subst (λ (n : ℕ). n ≤ low_after (H ++ e ∷ []) low (told_in e.what)) same small)

pub pushed-served : (H : List Entry) (e : Entry) (low : ℕ) → IsLegal H → IsLegal (H ++ e ∷ []) → Stepped H e.at e.what →
    IsServed H low → IsServed (H ++ e ∷ []) (low_after (H ++ e ∷ []) low (told_in e.what))
pushed-served H e low legal longer step s =
    let added = cons_option (opening_in e.what) [] in
    let more : length (openings (H ++ e ∷ [])) ≡ length (openings H) + length added =
    ap length (openings-grow H e) ∙ length-append (openings H) added in
    record {
      within = omega (arith, more, s.within, low_after-low (H ++ e ∷ []) low (told_in e.what));
      none = λ number small.
          ⊎_elim
          (λ (zeroth : number ≡ 0). waiting-unopened (H ++ e ∷ []) number longer (inl zeroth))
          (λ (some : number ≡ 0 → ⊥).
          pushed-number H e low number legal longer step s (omega (arith, some)) small)
          (cases_eq number 0);
    }

-- A lease more.

-- a lease changes no search that waits
leased-waiting : (H : List Entry) (m : Moment) (w : What) (o : Opening) → IsLegal H → Stepped H m w →
    is_some (lease_in w) ≡ true → waiting (H ++ record { at = m; what = w } ∷ []) o ≡ waiting H o
leased-waiting H m (Leased k w n q t p d) o legal step is =
    let e : Entry = record { at = m; what = Leased k w n q t p d } in
    ap (λ (s : Standing). unordered (orders (H ++ e ∷ [])) (confirmed_at s o)) (standing-same H e o legal step (λ h. h))
    ∙ ap (λ (os : List rules.Ordered). unordered os (confirmed_at (standing H o) o))
    (orders-grow H e ∙ append-nil (orders H))
leased-waiting H m (Founded x) o legal step is = absurd (true≢false (sym is))
leased-waiting H m (Opened x) o legal step is = absurd (true≢false (sym is))
leased-waiting H m (Reported run v f) o legal step is = absurd (true≢false (sym is))
leased-waiting H m (Skipped run f) o legal step is = absurd (true≢false (sym is))
leased-waiting H m (Cancelled k q) o legal step is = absurd (true≢false (sym is))
leased-waiting H m (Ordered k a n c q d) o legal step is = absurd (true≢false (sym is))
leased-waiting H m (Carried c d) o legal step is = absurd (true≢false (sym is))
leased-waiting H m Closed o legal step is = absurd (true≢false (sym is))

-- and opens none
leased-openings : (H : List Entry) (m : Moment) (w : What) → is_some (lease_in w) ≡ true →
    openings (H ++ record { at = m; what = w } ∷ []) ≡ openings H
leased-openings H m (Leased k w n q t p d) is =
    openings-grow H (record { at = m; what = Leased k w n q t p d }) ∙ append-nil (openings H)
leased-openings H m (Founded x) is = absurd (true≢false (sym is))
leased-openings H m (Opened x) is = absurd (true≢false (sym is))
leased-openings H m (Reported run v f) is = absurd (true≢false (sym is))
leased-openings H m (Skipped run f) is = absurd (true≢false (sym is))
leased-openings H m (Cancelled k q) is = absurd (true≢false (sym is))
leased-openings H m (Ordered k a n c q d) is = absurd (true≢false (sym is))
leased-openings H m (Carried c d) is = absurd (true≢false (sym is))
leased-openings H m Closed is = absurd (true≢false (sym is))

-- so that as many searches stand before the first one that waits
pub leased-lowest : (H : List Entry) (e : Entry) (low : ℕ) → IsLegal H → Stepped H e.at e.what →
    is_some (lease_in e.what) ≡ true → IsLowest H low → IsLowest (H ++ e ∷ []) low
leased-lowest H e low legal step is lowest =
    let G : List Entry = H ++ e ∷ [] in
    let same : waiting G ≡ waiting H = λ i o. leased-waiting H e.at e.what o legal step is i in
    let opened : openings G ≡ openings H = leased-openings H e.at e.what is in
    let numbered : (number : ℕ) → waiting_numbered G number ≡ waiting_numbered H number =
    λ number.
    ap (λ (os : List Opening). option_and_then (waiting G) (find (λ (o : Opening). o.search == number) os)) opened
    ∙ ap (λ (f : Opening → Option Candidate). option_and_then f (opening_numbered H number)) same in
    record {
      served = record {
        within = omega (arith, lowest.served.within, ap length opened);
        none = λ number small. numbered number ∙ lowest.served.none number small;
      };
      first =
          numbered (low + 1)
          ∙ lowest.first
          ∙ earliest-waiting H
          ∙ sym
          (earliest-waiting G
          ∙ ap (λ (os : List Opening). earliest (filter_map (waiting G) os)) opened
          ∙ ap (λ (f : Opening → Option Candidate). earliest (filter_map f (openings H))) same);
    }
