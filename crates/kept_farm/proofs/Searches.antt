-- Where the entries of each search stand, where the history grows by an entry or loses its last.
use Rattle.std.proofs.Common.{◌≡◌, ◌≢◌, ◌⊎◌, ⊎_elim, ℕ, zero, suc, ◌+◌, ◌-◌, ◌<◌, ◌≤◌, ◌==◌, Bool, true, false, if◌then◌else◌, List, [], ◌∷◌, ◌++◌, length, map, set, slice_get, Option, Some, None, refl, sym, ap, subst, ◌∙◌, arith, length-append}
use Rattle.std.specs.List.{position_from}
use Rattle.std.specs.Option.{is_some, option_and_then}
use Rattle.std.specs.Prelude.{⊤}
use Rattle.std.proofs.lemmas.Bool.{cases_eq, cases_lt}
use Rattle.std.proofs.lemmas.Bool.Decides.{nat_tests}
use Rattle.std.proofs.lemmas.List.{map-append, set_past}
use Rattle.std.proofs.lemmas.Option.{none-some}
use Rattle.std.proofs.Math.Seq.{map-set_same}
use Rattle.farm_types.specs.Moment.{moment_ms}
use Rattle.farm_rules.specs.declared.orders.Candidate.{Candidate}
use Rattle.farm_rules.proofs.Drafts.{next_draft-ok}
use Rattle.farm_entry.specs.History.{daily_limit, is_lease_for, is_of_search, lease_in, opening_in, openings, order_in, order_lines}
use Rattle.farm_entry.specs.Legal.{IsFounding, IsLegal}
use Rattle.farm_entry.specs.Orders.{confirmed_at, confirmed_searches, day_in, orders}
use Rattle.farm_entry.specs.Setup.{commit_of}
use Rattle.farm_entry.specs.Standing.{standing}
use Rattle.farm_entry.specs.declared.entry.Entry.{Entry}
use Rattle.farm_entry.specs.declared.entry.What.{What}
use Rattle.farm_entry.specs.declared.entry.What.TheVariants.{Founded, Opened, Leased, Reported, Skipped, Cancelled, Ordered, Carried, Closed}
use Rattle.farm_entry.specs.declared.lease.LeasedRun.{LeasedRun}
use Rattle.farm_entry.specs.declared.opening.Opening.{Opening}
use Rattle.farm_entry.specs.declared.order_page.OrderLine.{OrderLine}
use Rattle.farm_entry.specs.declared.standing.Standing.{Standing}
use Rattle.farm_entry.specs.declared.standing.Standing.TheVariants.{Searching, Verifying, Confirmed, Vindicated, NoCulprit, Inconclusive, Cancelled as Stopped}
use Rattle.farm_laws.proofs.EntryParts.{leased-facts, ordered-facts}
use Rattle.farm_laws.proofs.Induct.{each_legal}
use Rattle.farm_laws.proofs.Known.{made-from, next_run-due}
use Rattle.farm_laws.proofs.Stepped.{Stepped}
use Rattle.farm_ledger.proofs.Counts.{opened-number}
use Rattle.farm_ledger.proofs.Places.{openings-count}
use Rattle.search_books.specs.SearchRows.{RowView, changed, first_of, new_row, row_numbered, with_entry, with_order, with_run, without_entry}
use Rattle.search_books.specs.declared.entry_kind.EntryKind.{EntryKind}
use Rattle.search_books.specs.declared.entry_kind.EntryKind.TheVariants as kind
use Rattle.search_books.proofs.Changed.{added-at, changed-count, changed-here, changed-there, row_at}
use Rattle.search_books.proofs.TakenBack.{AreBefore, added-before, taken-back}
use Rattle.kept_farm.specs.Lines.{runs_in}
use Rattle.kept_farm.specs.Searches.{kind_of, rows_from, search_rows}
use Rattle.kept_farm.proofs.Looked.{first-more, first-same, places-more, places-same, places_of}

-- An entry more, and taken back.

rows-from : (place : ℕ) (rows : List RowView) (H : List Entry) (e : Entry) →
    rows_from place rows (H ++ e ∷ []) ≡ with_entry (rows_from place rows H) (kind_of e.what) (place + length H)
rows-from place rows [] e =
    let here : place ≡ place + 0 = omega arith in ap (with_entry rows (kind_of e.what)) here
rows-from place rows (f ∷ H) e =
    let next : place + 1 + length H ≡ place + length (f ∷ H) = omega arith in
    rows-from (place + 1) (with_entry rows (kind_of f.what) place) H e
    ∙ ap (with_entry (rows_from (place + 1) (with_entry rows (kind_of f.what) place) H) (kind_of e.what)) next

pub rows-grow : (H : List Entry) (e : Entry) →
    search_rows (H ++ e ∷ []) ≡ with_entry (search_rows H) (kind_of e.what) (length H)
rows-grow H e =
    let here : 0 + length H ≡ length H = omega arith in
    rows-from 0 [] H e ∙ ap (with_entry (search_rows H) (kind_of e.what)) here

before-from : (place : ℕ) (rows : List RowView) (H : List Entry) → AreBefore place rows →
    AreBefore (place + length H) (rows_from place rows H)
before-from place rows [] before =
    let here : place ≡ place + 0 = omega arith in subst (λ (n : ℕ). AreBefore n rows) here before
before-from place rows (e ∷ H) before =
    let next : place + 1 + length H ≡ place + length (e ∷ H) = omega arith in
    subst (λ (n : ℕ). AreBefore n (rows_from (place + 1) (with_entry rows (kind_of e.what) place) H)) next
    (before-from (place + 1) (with_entry rows (kind_of e.what) place) H
    (added-before rows (kind_of e.what) place before))

pub rows-back : (H : List Entry) (e : Entry) →
    without_entry (with_entry (search_rows H) (kind_of e.what) (length H)) (kind_of e.what) (length H) ≡ search_rows H
rows-back H e =
    let here : 0 + length H ≡ length H = omega arith in
    taken-back (search_rows H) (kind_of e.what) (length H)
    (subst (λ (n : ℕ). AreBefore n (search_rows H)) here (before-from 0 [] H none))
  where
    none : AreBefore 0 []
    none zero = tt
    none (suc i) = tt

pub rows-popped : (G : List Entry) (e : Entry) →
    without_entry (search_rows (G ++ e ∷ [])) (kind_of e.what) (length G) ≡ search_rows G
rows-popped G e =
    ap (λ (rows : List RowView). without_entry rows (kind_of e.what) (length G)) (rows-grow G e) ∙ rows-back G e

-- What is kept after a call, by what the call changed.

pub searches-pushed : (H : List Entry) (e : Entry) (rows more : List RowView) (kind : EntryKind) (place : ℕ) →
    rows ≡ search_rows H → kind ≡ kind_of e.what → place ≡ length H → more ≡ with_entry rows kind place →
    more ≡ search_rows (H ++ e ∷ [])
searches-pushed H e rows more kind place are is at made =
    made
    ∙ ap (λ (rs : List RowView). with_entry rs kind place) are
    ∙ ap (λ (k : EntryKind). with_entry (search_rows H) k place) is
    ∙ ap (with_entry (search_rows H) (kind_of e.what)) at
    ∙ sym (rows-grow H e)

pub searches-popped : (G : List Entry) (e : Entry) (rows less : List RowView) (kind : EntryKind) (place : ℕ) →
    rows ≡ search_rows (G ++ e ∷ []) → kind ≡ kind_of e.what → place ≡ length G → less ≡ without_entry rows kind place →
    less ≡ search_rows G
searches-popped G e rows less kind place are is at made =
    made
    ∙ ap (λ (rs : List RowView). without_entry rs kind place) are
    ∙ ap (λ (k : EntryKind). without_entry (search_rows (G ++ e ∷ [])) k place) is
    ∙ ap (without_entry (search_rows (G ++ e ∷ [])) (kind_of e.what)) at
    ∙ rows-popped G e

-- Tests of entries.

-- whether an order is there, and is for a search
abbrev pub is_for : (search : ℕ) → Option OrderLine → Bool
is_for search None = false
is_for search (Some line) = line.search == search

-- whether an entry orders the revert of the culprit of a search
abbrev pub is_order_for : (search : ℕ) → Entry → Bool
is_order_for search e = is_for search (order_in e.what)

-- whether an entry opens a search
abbrev pub opens : Entry → Bool
opens e = is_some (opening_in e.what)

-- Rows that are changed.

changed-past : (search : ℕ) (f : RowView → RowView) (rows : List RowView) → length rows ≤ search - 1 →
    changed search f rows ≡ rows
changed-past search f rows past = by (search == 0)
  where
    by : (none : Bool) → (if none then rows else set rows (search - 1) (f (row_at rows (search - 1)))) ≡ rows
    by true = refl
    by false = set_past rows (search - 1) (f (row_at rows (search - 1))) past

-- a part of the rows that the change keeps
changed-part : {X : Type 0} (part : RowView → X) (search : ℕ) (f : RowView → RowView) (rows : List RowView) (i : ℕ) →
    ((row : RowView) → part (f row) ≡ part row) → part (row_at (changed search f rows) i) ≡ part (row_at rows i)
changed-part part search f rows i keeps = ⊎_elim
    (λ (here : search ≡ i + 1). ⊎_elim
    (λ (low : i < length rows). ap part (changed-here search f rows i low here) ∙ keeps (row_at rows i))
    (λ (past : length rows ≤ i).
    ap (λ (rs : List RowView). part (row_at rs i)) (changed-past search f rows (omega (arith, past, here))))
    (cases_lt i (length rows)))
    (λ (there : search ≢ i + 1). ap part (changed-there search f rows i there))
    (cases_eq search (i + 1))

changed-openings : (search : ℕ) (f : RowView → RowView) (rows : List RowView) →
    ((row : RowView) → (f row).opened ≡ row.opened) →
    map (λ (row : RowView). row.opened) (changed search f rows) ≡ map (λ (row : RowView). row.opened) rows
changed-openings search f rows keeps = by (search == 0)
  where
    by : (none : Bool) →
        map (λ (row : RowView). row.opened)
        (if none then rows else set rows (search - 1) (f (row_at rows (search - 1))))
        ≡ map (λ (row : RowView). row.opened) rows
    by true = refl
    by false =
        map-set_same (λ (row : RowView). row.opened) rows (search - 1) (f (row_at rows (search - 1))) (new_row 0)
        (keeps (row_at rows (search - 1)))

-- What the rows are.

-- the row of each search has the places of its entries, and there are no entries of a search numbered 0
pub record AreRows (H : List Entry) (rows : List RowView) : Type 0 where
  pub count : length rows ≡ length (openings H)
  pub opened : map (λ (row : RowView). row.opened) rows ≡ places_of opens 0 H
  pub runs : (k : ℕ) → (row_at rows k).runs ≡ places_of (is_lease_for (k + 1)) 0 H
  pub order : (k : ℕ) → (row_at rows k).order ≡ position_from (is_order_for (k + 1)) 0 H
  pub none : places_of (is_lease_for 0) 0 H ≡ []

-- the search that an entry is about was opened
abbrev pub IsOpened : List Entry → EntryKind → Type 0
IsOpened H (kind.Lease search) = (1 ≤ search) × (search ≤ length (openings H))
IsOpened H (kind.Order search) = (1 ≤ search) × (search ≤ length (openings H))
IsOpened H _ = ⊤

-- With an entry that has no place among those of a search.

same-count : (H : List Entry) (e : Entry) → opening_in e.what ≡ None →
    length (openings (H ++ e ∷ [])) ≡ length (openings H)
same-count H e unopened =
    let none : length (openings H) + 0 ≡ length (openings H) = omega arith in
    openings-count H e
    ∙ ap (λ (o : Option Opening). length (openings H) + (if is_some o then 1 else 0)) unopened
    ∙ none

same-runs : (H : List Entry) (e : Entry) (n : ℕ) → lease_in e.what ≡ None →
    places_of (is_lease_for n) 0 (H ++ e ∷ []) ≡ places_of (is_lease_for n) 0 H
same-runs H e n unleased = places-same (is_lease_for n) H e (ap (is_of_search n) unleased)

same-order : (H : List Entry) (e : Entry) (n : ℕ) → order_in e.what ≡ None →
    position_from (is_order_for n) 0 (H ++ e ∷ []) ≡ position_from (is_order_for n) 0 H
same-order H e n unordered = first-same (is_order_for n) H e (ap (is_for n) unordered)

same-openings : (H : List Entry) (e : Entry) → opening_in e.what ≡ None →
    places_of opens 0 (H ++ e ∷ []) ≡ places_of opens 0 H
same-openings H e unopened = places-same opens H e (ap (λ (o : Option Opening). is_some o) unopened)

rows-other : (H : List Entry) (e : Entry) (rows : List RowView) → AreRows H rows → opening_in e.what ≡ None →
    lease_in e.what ≡ None → order_in e.what ≡ None → AreRows (H ++ e ∷ []) rows
rows-other H e rows are unopened unleased unordered = record {
  count = are.count ∙ sym (same-count H e unopened);
  opened = are.opened ∙ sym (same-openings H e unopened);
  runs = λ k. are.runs k ∙ sym (same-runs H e (k + 1) unleased);
  order = λ k. are.order k ∙ sym (same-order H e (k + 1) unordered);
  none = same-runs H e 0 unleased ∙ are.none;
}

-- With the opening of a search.

rows-opened : (H : List Entry) (e : Entry) (rows : List RowView) (o : Opening) → AreRows H rows →
    opening_in e.what ≡ Some o →
    lease_in e.what ≡ None → order_in e.what ≡ None → AreRows (H ++ e ∷ []) (rows ++ new_row (length H) ∷ [])
rows-opened H e rows o are opened unleased unordered =
    let more : length (openings (H ++ e ∷ [])) ≡ length (openings H) + 1 =
    openings-count H e ∙ ap (λ (x : Option Opening). length (openings H) + (if is_some x then 1 else 0)) opened in
    let long : length (rows ++ new_row (length H) ∷ []) ≡ length rows + 1 =
    length-append rows (new_row (length H) ∷ []) in
    let count = are.count in
    record {
      count = omega (arith, more, long, count);
      opened =
          map-append (λ (row : RowView). row.opened) rows (new_row (length H) ∷ [])
          ∙ ap (λ (ps : List ℕ). ps ++ length H ∷ []) are.opened
          ∙ sym (places-more opens H e (ap (λ (x : Option Opening). is_some x) opened));
      runs = λ k. (added-at rows (length H) k).0 ∙ are.runs k ∙ sym (same-runs H e (k + 1) unleased);
      order = λ k. (added-at rows (length H) k).1 ∙ are.order k ∙ sym (same-order H e (k + 1) unordered);
      none = same-runs H e 0 unleased ∙ are.none;
    }

-- With a lease.

rows-leased : (H : List Entry) (e : Entry) (rows : List RowView) (l : LeasedRun) → AreRows H rows →
    opening_in e.what ≡ None →
    lease_in e.what ≡ Some l → order_in e.what ≡ None → 1 ≤ l.search → l.search ≤ length (openings H) →
    AreRows (H ++ e ∷ []) (changed l.search (with_run (length H)) rows)
rows-leased H e rows l are unopened leased unordered some within =
    let change : RowView → RowView = with_run (length H) in
    let counts = are.count in
    let zeroth : l.search == 0 ≡ false = grind (arith, nat_tests, some) in
    record {
      count = changed-count l.search change rows ∙ are.count ∙ sym (same-count H e unopened);
      opened = changed-openings l.search change rows (λ row. refl) ∙ are.opened ∙ sym (same-openings H e unopened);
      runs = λ k. ⊎_elim
          (λ (here : l.search ≡ k + 1).
          let same : l.search == k + 1 ≡ true = grind (arith, nat_tests, here) in
          ap (λ (row : RowView). row.runs)
          (changed-here l.search change rows k (omega (arith, here, within, counts)) here)
          ∙ ap (λ (ps : List ℕ). ps ++ length H ∷ []) (are.runs k)
          ∙ sym (places-more (is_lease_for (k + 1)) H e (ap (is_of_search (k + 1)) leased ∙ same)))
          (λ (there : l.search ≢ k + 1).
          let other : l.search == k + 1 ≡ false = grind (arith, nat_tests, there) in
          ap (λ (row : RowView). row.runs) (changed-there l.search change rows k there)
          ∙ are.runs k
          ∙ sym (places-same (is_lease_for (k + 1)) H e (ap (is_of_search (k + 1)) leased ∙ other)))
          (cases_eq l.search (k + 1));
      order = λ k.
          changed-part (λ (row : RowView). row.order) l.search change rows k (λ row. refl)
          ∙ are.order k
          ∙ sym (same-order H e (k + 1) unordered);
      none = places-same (is_lease_for 0) H e (ap (is_of_search 0) leased ∙ zeroth) ∙ are.none;
    }

-- With an order.

rows-ordered : (H : List Entry) (e : Entry) (rows : List RowView) (line : OrderLine) → AreRows H rows →
    opening_in e.what ≡ None → lease_in e.what ≡ None → order_in e.what ≡ Some line → 1 ≤ line.search →
    line.search ≤ length (openings H) → AreRows (H ++ e ∷ []) (changed line.search (with_order (length H)) rows)
rows-ordered H e rows line are unopened unleased ordered some within =
    let change : RowView → RowView = with_order (length H) in
    let counts = are.count in
    record {
      count = changed-count line.search change rows ∙ are.count ∙ sym (same-count H e unopened);
      opened = changed-openings line.search change rows (λ row. refl) ∙ are.opened ∙ sym (same-openings H e unopened);
      runs = λ k.
          changed-part (λ (row : RowView). row.runs) line.search change rows k (λ row. refl)
          ∙ are.runs k
          ∙ sym (same-runs H e (k + 1) unleased);
      order = λ k. ⊎_elim
          (λ (here : line.search ≡ k + 1).
          let same : line.search == k + 1 ≡ true = grind (arith, nat_tests, here) in
          ap (λ (row : RowView). row.order)
          (changed-here line.search change rows k (omega (arith, here, within, counts)) here)
          ∙ ap (λ (x : Option ℕ). first_of x (length H)) (are.order k)
          ∙ sym (first-more (is_order_for (k + 1)) H e (ap (is_for (k + 1)) ordered ∙ same)))
          (λ (there : line.search ≢ k + 1).
          let other : line.search == k + 1 ≡ false = grind (arith, nat_tests, there) in
          ap (λ (row : RowView). row.order) (changed-there line.search change rows k there)
          ∙ are.order k
          ∙ sym (first-same (is_order_for (k + 1)) H e (ap (is_for (k + 1)) ordered ∙ other)))
          (cases_eq line.search (k + 1));
      none = same-runs H e 0 unleased ∙ are.none;
    }

-- With any entry that may come next.

rows-pushed : (H : List Entry) (e : Entry) (rows : List RowView) → AreRows H rows → IsOpened H (kind_of e.what) →
    AreRows (H ++ e ∷ []) (with_entry rows (kind_of e.what) (length H))
rows-pushed H e rows are opened = by e.what opened
  where
    by : (w : What) → IsOpened H (kind_of w) →
        AreRows (H ++ (record { at = e.at; what = w }) ∷ []) (with_entry rows (kind_of w) (length H))
    by (Founded s) h = rows-other H (record { at = e.at; what = Founded s }) rows are refl refl refl
    by (Opened o) h = rows-opened H (record { at = e.at; what = Opened o }) rows o are refl refl refl
    by (Leased k w n q t p d) h =
        rows-leased H (record { at = e.at; what = Leased k w n q t p d }) rows
        (record { run = n; search = q; stage = t; position = p; deadline = d }) are refl refl refl h.0 h.1
    by (Reported n v f) h = rows-other H (record { at = e.at; what = Reported n v f }) rows are refl refl refl
    by (Skipped n f) h = rows-other H (record { at = e.at; what = Skipped n f }) rows are refl refl refl
    by (Cancelled k q) h = rows-other H (record { at = e.at; what = Cancelled k q }) rows are refl refl refl
    by (Ordered k a n c q d) h =
        rows-ordered H (record { at = e.at; what = Ordered k a n c q d }) rows
        (record { order = n; agent = a; commit = c; search = q; day = d }) are refl refl refl h.0 h.1
    by (Carried c d) h = rows-other H (record { at = e.at; what = Carried c d }) rows are refl refl refl
    by Closed h = rows-other H (record { at = e.at; what = Closed }) rows are refl refl refl

confirmed-search : (s : Standing) (o : Opening) (c : Candidate) → confirmed_at s o ≡ Some c → o.search ≡ c.search
confirmed-search (Confirmed k) o c is = let same : record { search = o.search; commit = commit_of o k } ≡ c = cc in
    ap (λ (x : Candidate). x.search) same
confirmed-search Searching o c is = absurd (none-some c is)
confirmed-search (Verifying k) o c is = absurd (none-some c is)
confirmed-search (Vindicated k) o c is = absurd (none-some c is)
confirmed-search NoCulprit o c is = absurd (none-some c is)
confirmed-search Inconclusive o c is = absurd (none-some c is)
confirmed-search Stopped o c is = absurd (none-some c is)

-- the search that it is about was opened before
kind-opened : (H : List Entry) (e : Entry) → IsLegal H → Stepped H e.at e.what → IsOpened H (kind_of e.what)
kind-opened H e legal step = by e.what step
  where
    by : (w : What) → Stepped H e.at w → IsOpened H (kind_of w)
    by (Founded s) h = tt
    by (Opened o) h = tt
    by (Leased k w n q t p d) h =
        let l : LeasedRun = record { run = n; search = q; stage = t; position = p; deadline = d } in
        let due_in = next_run-due H (moment_ms e.at) _ (leased-facts H e.at (Leased k w n q t p d) l refl h).due in
        let number = opened-number H due_in.opening legal due_in.there in
        (omega (arith, number.0, due_in.of_search), omega (arith, number.1, due_in.of_search))
    by (Reported n v f) h = tt
    by (Skipped n f) h = tt
    by (Cancelled k q) h = tt
    by (Ordered k a n c q d) h =
        let line : OrderLine = record { order = n; agent = a; commit = c; search = q; day = d } in
        let facts = ordered-facts H e.at (Ordered k a n c q d) line refl h in
        let next = next_draft-ok (confirmed_searches H) (orders H) (length (order_lines H))
        (day_in H (moment_ms e.at)) (daily_limit H) _ facts.next in
        let it : Candidate = record { search = q; commit = c } in
        let from = made-from (λ (o : Opening). confirmed_at (standing H o) o) (openings H) it next.confirmed in
        let same = confirmed-search (standing H from.from) from.from it from.makes in
        let number = opened-number H from.from legal from.there in
        (omega (arith, number.0, same), omega (arith, number.1, same))
    by (Carried c d) h = tt
    by Closed h = tt

no-rows : AreRows [] []
no-rows = record { count = refl; opened = refl; runs = runs; order = order; none = refl }
  where
    runs : (k : ℕ) → (row_at [] k).runs ≡ []
    runs zero = refl
    runs (suc k) = refl

    order : (k : ℕ) → (row_at [] k).order ≡ None
    order zero = refl
    order (suc k) = refl

founded-rows : (e : Entry) → IsFounding e.what → AreRows (e ∷ []) (search_rows (e ∷ []))
founded-rows e founding = by e.what founding
  where
    by : (w : What) → IsFounding w →
        AreRows ((record { at = e.at; what = w }) ∷ []) (search_rows ((record { at = e.at; what = w }) ∷ []))
    by (Founded s) h = rows-other [] (record { at = e.at; what = Founded s }) [] no-rows refl refl refl
    by (Opened o) h = absurd h
    by (Leased k w n q t p d) h = absurd h
    by (Reported n v f) h = absurd h
    by (Skipped n f) h = absurd h
    by (Cancelled k q) h = absurd h
    by (Ordered k a n c q d) h = absurd h
    by (Carried c d) h = absurd h
    by Closed h = absurd h

pub rows-are : (H : List Entry) → IsLegal H → AreRows H (search_rows H)
rows-are =
    each_legal (λ (H : List Entry). AreRows H (search_rows H)) founded-rows
    (λ H e legal are step.
    subst (AreRows (H ++ e ∷ [])) (sym (rows-grow H e))
    (rows-pushed H e (search_rows H) are (kind-opened H e legal step)))

-- What a row says, looked up by the number of its search.

row-runs : (rows : List RowView) (k : ℕ) → runs_in (slice_get rows k) ≡ (row_at rows k).runs
row-runs [] zero = refl
row-runs [] (suc k) = refl
row-runs (r ∷ rows) zero = refl
row-runs (r ∷ rows) (suc k) = row-runs rows k

row-order : (rows : List RowView) (k : ℕ) →
    option_and_then (λ (row : RowView). row.order) (slice_get rows k) ≡ (row_at rows k).order
row-order [] zero = refl
row-order [] (suc k) = refl
row-order (r ∷ rows) zero = refl
row-order (r ∷ rows) (suc k) = row-order rows k

pub runs-there : (H : List Entry) (n : ℕ) → IsLegal H →
    runs_in (row_numbered n (search_rows H)) ≡ places_of (is_lease_for n) 0 H
runs-there H n legal = by (n == 0) refl
  where
    are : AreRows H (search_rows H)
    are = rows-are H legal

    by : (none : Bool) → n == 0 ≡ none →
        runs_in (if none then None else slice_get (search_rows H) (n - 1)) ≡ places_of (is_lease_for n) 0 H
    by true is =
        let zeroth : 0 ≡ n = grind (arith, nat_tests, is) in
        sym are.none ∙ ap (λ (m : ℕ). places_of (is_lease_for m) 0 H) zeroth
    by false is =
        let next : n - 1 + 1 ≡ n = grind (arith, nat_tests, is) in
        row-runs (search_rows H) (n - 1)
        ∙ are.runs (n - 1)
        ∙ ap (λ (m : ℕ). places_of (is_lease_for m) 0 H) next

pub order-there : (H : List Entry) (n : ℕ) → IsLegal H → 1 ≤ n →
    option_and_then (λ (row : RowView). row.order) (row_numbered n (search_rows H)) ≡ position_from (is_order_for n) 0 H
order-there H n legal some =
    let are : AreRows H (search_rows H) = rows-are H legal in
    let other : n == 0 ≡ false = grind (arith, nat_tests, some) in
    let next : n - 1 + 1 ≡ n = omega (arith, some) in
    ap (λ (b : Bool). option_and_then (λ (row : RowView). row.order)
    (if b then None else slice_get (search_rows H) (n - 1))) other
    ∙ row-order (search_rows H) (n - 1)
    ∙ are.order (n - 1)
    ∙ ap (λ (m : ℕ). position_from (is_order_for m) 0 H) next

pub openings-there : (H : List Entry) → IsLegal H →
    map (λ (row : RowView). row.opened) (search_rows H) ≡ places_of opens 0 H
openings-there H legal = (rows-are H legal).opened
