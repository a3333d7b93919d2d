-- What the filters of a history give after appending an entry.
use Rattle.std.proofs.Common.{◌≡◌, ℕ, ◌==◌, Bool, ◌&&◌, ◌||◌, List, [], ◌∷◌, ◌++◌, find, filter, if◌then◌else◌, Option, Some, None, refl, sym, ap, ◌∙◌, All}
use Rattle.std.specs.List.{cons_option, filter_map, list_any}
use Rattle.std.specs.Option.{option_and_then, option_or}
use Rattle.std.proofs.lemmas.List.Elements.{All-head, All-tail, filter-append, filter_map-append}
use Rattle.std.proofs.lemmas.List.Folds.{find-append, list_any-append}
use Rattle.farm_types.specs.declared.stage.Stage.{Stage}
use Rattle.weight_exact.specs.declared.run.Run.{Run}
use Rattle.farm_entry.specs.History.{all_leases, cancellations, cancelled_in, counted, counted_run, is_counted, is_of_search, is_over, is_reported, lease_in, lease_of, leases, is_taken, opening_in, opening_numbered, openings, position_for, report_in, reports, run_of, skip_in, skipped, skipped_position, skips, told_in, told_runs, was_cancelled, went_over}
use Rattle.farm_entry.specs.declared.entry.Entry.{Entry}
use Rattle.farm_entry.specs.declared.lease.LeasedRun.{LeasedRun}
use Rattle.farm_entry.specs.declared.lease.ReportedRun.{ReportedRun}
use Rattle.farm_entry.specs.declared.lease.SkippedRun.{SkippedRun}
use Rattle.farm_entry.specs.declared.opening.Opening.{Opening}
use Rattle.farm_entry.proofs.Growing.{all_leases-grow, cancellations-grow, openings-grow, reports-grow, skips-grow, told_runs-grow}

-- lists

find-first : {X : Type 0} (p : X → Bool) (xs ys : List X) (x : X) → find p xs ≡ Some x → find p (xs ++ ys) ≡ Some x
find-first p xs ys x h = find-append p xs ys ∙ ap (λ o. option_or o (find p ys)) h

pub filter_map-same : {X Y : Type 0} (f g : X → Option Y) (xs : List X) → All (λ x. f x ≡ g x) xs → filter_map f xs ≡ filter_map g xs
filter_map-same f g [] h = refl
filter_map-same f g (x ∷ xs) h =
    let here : f x ≡ g x = All-head (λ x. f x ≡ g x) x xs h in
    let rest : filter_map f xs ≡ filter_map g xs = filter_map-same f g xs (All-tail (λ x. f x ≡ g x) x xs h) in
    λ i. cons_option (here i) (rest i)

pub list_any-same : {X : Type 0} (p q : X → Bool) (xs : List X) → All (λ x. p x ≡ q x) xs → list_any p xs ≡ list_any q xs
list_any-same p q [] h = refl
list_any-same p q (x ∷ xs) h =
    let here : p x ≡ q x = All-head (λ x. p x ≡ q x) x xs h in
    let rest : list_any p xs ≡ list_any q xs = list_any-same p q xs (All-tail (λ x. p x ≡ q x) x xs h) in
    λ i. here i || rest i

pub All-imp : {X : Type 0} (P Q : X → Type 0) (xs : List X) → ((x : X) → P x → Q x) → All P xs → All Q xs
All-imp P Q xs f h = λ k d below. f _ (h k d below)

-- what is known stays known

pub lease_of-stays : (H : List Entry) (e : Entry) (run : ℕ) (l : LeasedRun) → lease_of H run ≡ Some l → lease_of (H ++ e ∷ []) run ≡ Some l
lease_of-stays H e run l h =
    ap (find (λ (x : LeasedRun). x.run == run)) (all_leases-grow H e)
    ∙ find-first (λ (x : LeasedRun). x.run == run) (all_leases H) (cons_option (lease_in e.what) []) l h

pub opening_numbered-stays : (H : List Entry) (e : Entry) (s : ℕ) (o : Opening) →
    opening_numbered H s ≡ Some o → opening_numbered (H ++ e ∷ []) s ≡ Some o
opening_numbered-stays H e s o h =
    ap (find (λ (x : Opening). x.search == s)) (openings-grow H e)
    ∙ find-first (λ (x : Opening). x.search == s) (openings H) (cons_option (opening_in e.what) []) o h

-- the lease of a run is there
abbrev pub HasLease : List Entry → ℕ → Type 0
HasLease H run = (l : LeasedRun) × (lease_of H run ≡ Some l)

-- each reported run was handed out
abbrev pub ReportsKnown : List Entry → Type 0
ReportsKnown H = All (λ (r : ReportedRun). HasLease H r.run) (reports H)

-- the same of those that were reported without a verdict
abbrev pub SkipsKnown : List Entry → Type 0
SkipsKnown H = All (λ (r : SkippedRun). HasLease H r.run) (skips H)

lease_of-same : (H : List Entry) (e : Entry) (run : ℕ) → HasLease H run → lease_of (H ++ e ∷ []) run ≡ lease_of H run
lease_of-same H e run h = lease_of-stays H e run h.0 h.1 ∙ sym h.1

-- leases of a search
pub leases-grow : (H : List Entry) (e : Entry) (s : ℕ) →
    leases (H ++ e ∷ []) s ≡ leases H s ++ filter (λ (l : LeasedRun). l.search == s) (cons_option (lease_in e.what) [])
leases-grow H e s =
    ap (filter (λ (l : LeasedRun). l.search == s)) (all_leases-grow H e)
    ∙ filter-append (λ (l : LeasedRun). l.search == s) (all_leases H) (cons_option (lease_in e.what) [])

-- the counted runs of a search
pub counted-grow : (H : List Entry) (e : Entry) (s : ℕ) (stage : Stage) → ReportsKnown H →
    counted (H ++ e ∷ []) s stage ≡ counted H s stage ++ filter_map (counted_run (H ++ e ∷ []) s stage) (cons_option (report_in e.what) [])
counted-grow H e s stage known =
    let longer = counted_run (H ++ e ∷ []) s stage in
    let same : (r : ReportedRun) → HasLease H r.run → longer r ≡ counted_run H s stage r =
    λ r h. ap (λ (l : Option LeasedRun). if is_counted r.fate then option_and_then (run_of s stage r.verdict) l else None) (lease_of-same H e r.run h) in
    ap (filter_map longer) (reports-grow H e)
    ∙ filter_map-append longer (reports H) (cons_option (report_in e.what) [])
    ∙ ap (λ (xs : List Run). xs ++ filter_map longer (cons_option (report_in e.what) []))
    (filter_map-same longer (counted_run H s stage) (reports H)
    (All-imp (λ (r : ReportedRun). HasLease H r.run) (λ (r : ReportedRun). longer r ≡ counted_run H s stage r) (reports H) same known))

-- the skipped positions of a search
pub skipped-grow : (H : List Entry) (e : Entry) (s : ℕ) → SkipsKnown H →
    skipped (H ++ e ∷ []) s ≡ skipped H s ++ filter_map (skipped_position (H ++ e ∷ []) s) (cons_option (skip_in e.what) [])
skipped-grow H e s known =
    let longer = skipped_position (H ++ e ∷ []) s in
    let same : (r : SkippedRun) → HasLease H r.run → longer r ≡ skipped_position H s r =
    λ r h. ap (λ (l : Option LeasedRun). if is_taken r.fate then option_and_then (position_for s) l else None) (lease_of-same H e r.run h) in
    ap (filter_map longer) (skips-grow H e)
    ∙ filter_map-append longer (skips H) (cons_option (skip_in e.what) [])
    ∙ ap (λ (xs : List ℕ). xs ++ filter_map longer (cons_option (skip_in e.what) []))
    (filter_map-same longer (skipped_position H s) (skips H)
    (All-imp (λ (r : SkippedRun). HasLease H r.run) (λ (r : SkippedRun). longer r ≡ skipped_position H s r) (skips H) same known))

-- whether a search went over its budget
pub went_over-grow : (H : List Entry) (e : Entry) (s : ℕ) → ReportsKnown H →
    went_over (H ++ e ∷ []) s
    ≡ (went_over H s || list_any (λ (r : ReportedRun). is_over r.fate && is_of_search s (lease_of (H ++ e ∷ []) r.run)) (cons_option (report_in e.what) []))
went_over-grow H e s known =
    let longer : ReportedRun → Bool = λ r. is_over r.fate && is_of_search s (lease_of (H ++ e ∷ []) r.run) in
    let shorter : ReportedRun → Bool = λ r. is_over r.fate && is_of_search s (lease_of H r.run) in
    let same : (r : ReportedRun) → HasLease H r.run → longer r ≡ shorter r =
    λ r h. ap (λ (l : Option LeasedRun). is_over r.fate && is_of_search s l) (lease_of-same H e r.run h) in
    ap (list_any longer) (reports-grow H e)
    ∙ list_any-append longer (reports H) (cons_option (report_in e.what) [])
    ∙ ap (λ (b : Bool). b || list_any longer (cons_option (report_in e.what) []))
    (list_any-same longer shorter (reports H)
    (All-imp (λ (r : ReportedRun). HasLease H r.run) (λ (r : ReportedRun). longer r ≡ shorter r) (reports H) same known))

-- whether a search was cancelled
pub was_cancelled-grow : (H : List Entry) (e : Entry) (s : ℕ) →
    was_cancelled (H ++ e ∷ []) s ≡ (was_cancelled H s || list_any (λ (c : ℕ). c == s) (cons_option (cancelled_in e.what) []))
was_cancelled-grow H e s =
    ap (list_any (λ (c : ℕ). c == s)) (cancellations-grow H e)
    ∙ list_any-append (λ (c : ℕ). c == s) (cancellations H) (cons_option (cancelled_in e.what) [])

-- whether a run has a report, with a verdict or not
pub is_reported-grow : (H : List Entry) (e : Entry) (run : ℕ) →
    is_reported (H ++ e ∷ []) run ≡ (is_reported H run || list_any (λ (told : ℕ). told == run) (cons_option (told_in e.what) []))
is_reported-grow H e run =
    ap (list_any (λ (told : ℕ). told == run)) (told_runs-grow H e)
    ∙ list_any-append (λ (told : ℕ). told == run) (told_runs H) (cons_option (told_in e.what) [])
