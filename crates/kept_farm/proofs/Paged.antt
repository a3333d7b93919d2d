-- What the pages of runs and of searches show, looked up by the rows of the searches.
use Rattle.std.proofs.Common.{◌≡◌, ℕ, zero, suc, ◌+◌, ◌≤◌, ◌==◌, Bool, true, false, if◌then◌else◌, List, [], ◌∷◌, map, find, slice_get, Contains, Option, Some, None, refl, sym, ap, subst, ◌∙◌, arith}
use Rattle.std.specs.List.{cons_option, filter_map, position_from}
use Rattle.std.specs.Option.{is_some, option_and_then, option_map}
use Rattle.std.specs.Prelude.{cond}
use Rattle.std.proofs.lemmas.Option.{none-some}
use Rattle.std.proofs.lemmas.Simd.{map-map}
use Rattle.farm_types.specs.declared.moment.Moment.{Moment}
use Rattle.farm_entry.specs.History.{is_lease_for, is_of_search, is_report_of, lease_in, opening_in, opening_numbered, openings, order_in, order_lines, place_of_report}
use Rattle.farm_entry.specs.Legal.{IsLegal}
use Rattle.farm_entry.specs.RunPages.{lines_from, report_of, report_shown, run_line, run_lines}
use Rattle.farm_entry.specs.SearchLines.{order_for, search_line, search_lines}
use Rattle.farm_entry.specs.declared.entry.Entry.{Entry}
use Rattle.farm_entry.specs.declared.entry.What.{What}
use Rattle.farm_entry.specs.declared.entry.What.TheVariants.{Founded, Opened, Leased, Reported, Skipped, Cancelled, Ordered, Carried, Closed}
use Rattle.farm_entry.specs.declared.opening.Opening.{Opening}
use Rattle.farm_entry.specs.declared.order_page.OrderLine.{OrderLine}
use Rattle.farm_laws.proofs.Lists.{contains-head, contains-tail}
use Rattle.farm_laws.proofs.Numbered.{opening-found}
use Rattle.farm_ledger.proofs.Counts.{opened-number}
use Rattle.search_books.specs.SearchRows.{RowView, row_numbered}
use Rattle.kept_farm.specs.Lines.{order_at, order_in_row, run_line_at, run_lines_at, runs_in, search_line_at, search_lines_at}
use Rattle.kept_farm.specs.Searches.{search_rows}
use Rattle.kept_farm.proofs.Looked.{found-at, lines-found, made-all}
use Rattle.kept_farm.proofs.Searches.{is_for, is_order_for, openings-there, opens, order-there, runs-there}

-- The runs of a search.

some-if : {X : Type 0} (b : Bool) (x : X) → is_some (if b then Some x else None) ≡ b
some-if true x = refl
some-if false x = refl

-- an entry has a line exactly where it is a lease of the search
line-of_lease : (H : List Entry) (o : Opening) (at : Moment) (w : What) →
    is_some (run_line H o at w) ≡ is_of_search o.search (lease_in w)
line-of_lease H o at (Founded s) = refl
line-of_lease H o at (Opened x) = refl
line-of_lease H o at (Leased k w n q t p d) = some-if (q == o.search) _
line-of_lease H o at (Reported n v f) = refl
line-of_lease H o at (Skipped n f) = refl
line-of_lease H o at (Cancelled k q) = refl
line-of_lease H o at (Ordered k a n c q d) = refl
line-of_lease H o at (Carried c d) = refl
line-of_lease H o at Closed = refl

pub runs-paged : (H : List Entry) (o : Opening) (from : ℕ) → IsLegal H →
    run_lines_at H o (lines_from from (runs_in (row_numbered o.search (search_rows H))))
    ≡ lines_from from (run_lines H o)
runs-paged H o from legal =
    lines-found (run_line_at H o) from (runs_in (row_numbered o.search (search_rows H))) (run_lines H o)
    (ap (map (run_line_at H o)) (runs-there H o.search legal)
    ∙ made-all (λ (e : Entry). run_line H o e.at e.what) (is_lease_for o.search)
    (λ e. line-of_lease H o e.at e.what) H)

-- The list of searches.

mapped-some : {X Y : Type 0} (f : X → Y) (x : Option X) → is_some (option_map f x) ≡ is_some x
mapped-some f None = refl
mapped-some f (Some x) = refl

pub list-paged : (H : List Entry) (from : ℕ) → IsLegal H →
    search_lines_at H (lines_from from (search_rows H)) ≡ lines_from from (search_lines H)
list-paged H from legal =
    lines-found (λ (row : RowView). search_line_at H row.opened) from (search_rows H) (search_lines H)
    (sym (map-map (search_line_at H) (λ (row : RowView). row.opened) (search_rows H))
    ∙ ap (map (search_line_at H)) (openings-there H legal)
    ∙ made-all (λ (e : Entry). option_map (search_line H e.at) (opening_in e.what)) opens
    (λ e. mapped-some (search_line H e.at) (opening_in e.what)) H)

-- The order of a search.

order-from : (n : ℕ) (G : List Entry) (a : ℕ) (H : List Entry) → ((k : ℕ) → slice_get G (a + k) ≡ slice_get H k) →
    option_and_then (order_at G) (position_from (is_order_for n) a H)
    ≡ option_map (λ (line : OrderLine). line.order) (find (λ (line : OrderLine). line.search == n) (order_lines H))
order-from n G a [] stands = refl
order-from n G a (e ∷ H) stands =
    let here : a + 0 ≡ a = omega arith in
    let this : order_at G a ≡ option_map (λ (line : OrderLine). line.order) (order_in e.what) =
    ap (order_at G) (sym here)
    ∙ ap (option_and_then (λ (x : Entry). option_map (λ (line : OrderLine). line.order) (order_in x.what)))
    (stands 0) in
    by (order_in e.what) this
    (order-from n G (a + 1) H (λ k. (let next : a + 1 + k ≡ a + suc k = omega arith in
    ap (slice_get G) next ∙ stands (suc k))))
  where
    number : OrderLine → ℕ
    number line = line.order

    test : OrderLine → Bool
    test line = line.search == n

    rest : Option ℕ
    rest = position_from (is_order_for n) (a + 1) H

    choose : (b : Bool) (line : OrderLine) → order_at G a ≡ Some line.order →
        option_and_then (order_at G) rest ≡ option_map number (find test (order_lines H)) →
        option_and_then (order_at G) (cond b (Some a) rest)
        ≡ option_map number (cond b (Some line) (find test (order_lines H)))
    choose true line this later = this
    choose false line this later = later

    by : (x : Option OrderLine) → order_at G a ≡ option_map number x →
        option_and_then (order_at G) rest ≡ option_map number (find test (order_lines H)) →
        option_and_then (order_at G) (cond (is_for n x) (Some a) rest)
        ≡ option_map number (find test (cons_option x (order_lines H)))
    by None this later = later
    by (Some line) this later = choose (line.search == n) line this later

pub order-looked_up : (H : List Entry) (n : ℕ) → IsLegal H → 1 ≤ n →
    order_in_row H (row_numbered n (search_rows H)) ≡ order_for H n
order-looked_up H n legal some =
    ap (option_and_then (order_at H)) (order-there H n legal some)
    ∙ order-from n H 0 H (λ k. (let here : 0 + k ≡ k = omega arith in ap (slice_get H) here))

-- The search that an entry opens.

in-parts : {Y : Type 0} (f : Entry → Option Y) (H : List Entry) (k : ℕ) (e : Entry) (y : Y) → slice_get H k ≡ Some e →
    f e ≡ Some y → Contains (filter_map f H) y
in-parts f [] zero e y at makes = absurd (none-some e at)
in-parts f [] (suc k) e y at makes = absurd (none-some e at)
in-parts {Y} f (x ∷ H) zero e y at makes =
    let same : x ≡ e = cc in
    subst (λ (o : Option Y). Contains (cons_option o (filter_map f H)) y) (sym (ap f same ∙ makes))
    (contains-head (filter_map f H) y y refl)
in-parts {Y} f (x ∷ H) (suc k) e y at makes = by (f x) (in-parts f H k e y at makes)
  where
    by : (o : Option Y) → Contains (filter_map f H) y → Contains (cons_option o (filter_map f H)) y
    by None there = there
    by (Some z) there = contains-tail z (filter_map f H) y there

pub opened-known : (H : List Entry) (k : ℕ) (e : Entry) (o : Opening) → IsLegal H → slice_get H k ≡ Some e →
    opening_in e.what ≡ Some o → (opening_numbered H o.search ≡ Some o) × (1 ≤ o.search)
opened-known H k e o legal at is =
    let there : Contains (openings H) o = in-parts (λ (x : Entry). opening_in x.what) H k e o at is in
    (opening-found H o legal there, (opened-number H o legal there).0)

pub line-there : (H : List Entry) (k : ℕ) (e : Entry) (o : Opening) → slice_get H k ≡ Some e →
    opening_in e.what ≡ Some o →
    search_line_at H k ≡ Some (search_line H e.at o)
line-there H k e o at is =
    ap (option_and_then (λ (x : Entry). option_map (search_line H x.at) (opening_in x.what))) at
    ∙ ap (option_map (search_line H e.at)) is

-- The report of a run.

pub report-looked_up : (H : List Entry) (run : ℕ) →
    option_and_then (λ (place : ℕ). option_and_then report_shown (slice_get H place)) (place_of_report H run)
    ≡ report_of H run
report-looked_up H run =
    joined (slice_get H) (place_of_report H run) ∙ ap (option_and_then report_shown) (found-at (is_report_of run) H)
  where
    joined : (read : ℕ → Option Entry) (x : Option ℕ) →
        option_and_then (λ (place : ℕ). option_and_then report_shown (read place)) x
        ≡ option_and_then report_shown (option_and_then read x)
    joined read None = refl
    joined read (Some place) = refl
