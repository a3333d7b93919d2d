-- How appending an entry changes what a history holds of a search.
use Rattle.std.proofs.Common.{◌≡◌, ℕ, ◌+◌, ◌≤◌, ◌==◌, Bool, true, false, ◌&&◌, ◌||◌, List, [], ◌∷◌, ◌++◌, length, get_or, All, Option, Some, None, refl, sym, ap, ◌∙◌, append-nil, arith, true≢false}
use Rattle.std.specs.List.{cons_option, filter_map, list_any}
use Rattle.std.proofs.lemmas.Bool.Decides.{nat_tests}
use Rattle.std.proofs.lemmas.List.Elements.{All-contains, All-head, All-tail}
use Rattle.std.proofs.lemmas.Option.{none-some}
use Rattle.farm_types.specs.declared.stage.Stage.{Stage}
use Rattle.farm_types.specs.declared.stage.Stage.TheVariants.{Search, Verify}
use Rattle.weight_exact.specs.declared.run.Run.{Run}
use Rattle.farm_entry.specs.Decision.{run_with}
use Rattle.farm_entry.specs.History.{all_leases, cancellations, cancelled_in, counted, counted_run, is_counted, is_of_search, is_over, is_taken, lease_of, opening_in, openings, report_in, reports, same_stage, skip_in, skipped, skipped_position, skips, told_in, was_cancelled, went_over}
use Rattle.farm_entry.specs.Legal.{IsFounding, IsLegal, ask_of}
use Rattle.farm_entry.specs.declared.entry.Entry.{Entry}
use Rattle.farm_entry.specs.declared.entry.Fate.{Fate}
use Rattle.farm_entry.specs.declared.entry.Fate.TheVariants.{Counted, Late, Over}
use Rattle.farm_entry.specs.declared.entry.SkipFate.{SkipFate}
use Rattle.farm_entry.specs.declared.entry.SkipFate.TheVariants as skip
use Rattle.farm_entry.specs.declared.entry.What.{What}
use Rattle.farm_entry.specs.declared.entry.What.TheVariants.{Founded, Opened, Leased, Reported, Skipped, Cancelled, Ordered, Carried, Closed}
use Rattle.farm_entry.specs.declared.lease.LeasedRun.{LeasedRun}
use Rattle.farm_entry.specs.declared.lease.ReportedRun.{ReportedRun}
use Rattle.farm_entry.specs.declared.lease.SkippedRun.{SkippedRun}
use Rattle.farm_entry.specs.declared.opening.Opening.{Opening}
use Rattle.farm_laws.specs.Openings.{HasOpening}
use Rattle.farm_laws.proofs.EntryParts.{cancelled-facts, each_part, opened-facts, report-no_skip, skip-no_report, told-none}
use Rattle.farm_laws.proofs.Filters.{HasLease, counted-grow, lease_of-stays, opening_numbered-stays, skipped-grow, was_cancelled-grow, went_over-grow}
use Rattle.farm_laws.proofs.Known.{leases-known, reports-known, skips-known}
use Rattle.farm_laws.proofs.Made.{is_made}
use Rattle.farm_laws.proofs.Numbered.{lease-there, number-at, opening-there, openings-numbered}
use Rattle.farm_laws.proofs.Opened.{fresh-counted}
use Rattle.farm_laws.proofs.RunSteps.{chosen_position, chosen_run, counted_run-is, skipped_position-is}
use Rattle.farm_laws.proofs.Stepped.{Stepped}
use Rattle.farm_laws.specs.Steps.{IsAbout}
use Rattle.farm_laws.proofs.OneMore.{cancelled-same, not_about-cancel, not_about-report, over-same, runs-same, skips-same}
use Rattle.search_state.specs.SearchView.{SearchView, after_report, after_skip, cancelled, opened}
use Rattle.search_state.specs.Seen.{seen}

or-none : (a b : Bool) → b ≡ false → (a || b) ≡ a
or-none true b h = refl
or-none false b h = h

or-some : (a b : Bool) → b ≡ true → (a || b) ≡ true
or-some true b h = refl
or-some false b h = h

same-number : (a b : ℕ) → a ≡ b → a == b ≡ true
same-number a b e = grind (arith, nat_tests)

-- What an entry holds beside.

pub report-not_cancelled : (w : What) (r : ReportedRun) → report_in w ≡ Some r → cancelled_in w ≡ None
report-not_cancelled (Reported n v _) r h = refl
report-not_cancelled (Founded x) r h = absurd (none-some r h)
report-not_cancelled (Opened o) r h = absurd (none-some r h)
report-not_cancelled (Leased k w n q t p d) r h = absurd (none-some r h)
report-not_cancelled (Skipped n _) r h = absurd (none-some r h)
report-not_cancelled (Cancelled k q) r h = absurd (none-some r h)
report-not_cancelled (Ordered k a n c q d) r h = absurd (none-some r h)
report-not_cancelled (Carried c d) r h = absurd (none-some r h)
report-not_cancelled Closed r h = absurd (none-some r h)

pub skip-not_cancelled : (w : What) (r : SkippedRun) → skip_in w ≡ Some r → cancelled_in w ≡ None
skip-not_cancelled (Skipped n _) r h = refl
skip-not_cancelled (Founded x) r h = absurd (none-some r h)
skip-not_cancelled (Opened o) r h = absurd (none-some r h)
skip-not_cancelled (Leased k w n q t p d) r h = absurd (none-some r h)
skip-not_cancelled (Reported n v _) r h = absurd (none-some r h)
skip-not_cancelled (Cancelled k q) r h = absurd (none-some r h)
skip-not_cancelled (Ordered k a n c q d) r h = absurd (none-some r h)
skip-not_cancelled (Carried c d) r h = absurd (none-some r h)
skip-not_cancelled Closed r h = absurd (none-some r h)

pub cancelled-not_told : (w : What) (q : ℕ) → cancelled_in w ≡ Some q → told_in w ≡ None
cancelled-not_told (Cancelled k x) q h = refl
cancelled-not_told (Founded x) q h = absurd (none-some q h)
cancelled-not_told (Opened o) q h = absurd (none-some q h)
cancelled-not_told (Leased k w n x t p d) q h = absurd (none-some q h)
cancelled-not_told (Reported n v _) q h = absurd (none-some q h)
cancelled-not_told (Skipped n _) q h = absurd (none-some q h)
cancelled-not_told (Ordered k a n c x d) q h = absurd (none-some q h)
cancelled-not_told (Carried c d) q h = absurd (none-some q h)
cancelled-not_told Closed q h = absurd (none-some q h)

pub report-not_opened : (w : What) (r : ReportedRun) → report_in w ≡ Some r → opening_in w ≡ None
report-not_opened (Reported n v _) r h = refl
report-not_opened (Founded x) r h = absurd (none-some r h)
report-not_opened (Opened o) r h = absurd (none-some r h)
report-not_opened (Leased k w n q t p d) r h = absurd (none-some r h)
report-not_opened (Skipped n _) r h = absurd (none-some r h)
report-not_opened (Cancelled k q) r h = absurd (none-some r h)
report-not_opened (Ordered k a n c q d) r h = absurd (none-some r h)
report-not_opened (Carried c d) r h = absurd (none-some r h)
report-not_opened Closed r h = absurd (none-some r h)

pub skip-not_opened : (w : What) (r : SkippedRun) → skip_in w ≡ Some r → opening_in w ≡ None
skip-not_opened (Skipped n _) r h = refl
skip-not_opened (Founded x) r h = absurd (none-some r h)
skip-not_opened (Opened o) r h = absurd (none-some r h)
skip-not_opened (Leased k w n q t p d) r h = absurd (none-some r h)
skip-not_opened (Reported n v _) r h = absurd (none-some r h)
skip-not_opened (Cancelled k q) r h = absurd (none-some r h)
skip-not_opened (Ordered k a n c q d) r h = absurd (none-some r h)
skip-not_opened (Carried c d) r h = absurd (none-some r h)
skip-not_opened Closed r h = absurd (none-some r h)

pub cancelled-not_opened : (w : What) (q : ℕ) → cancelled_in w ≡ Some q → opening_in w ≡ None
cancelled-not_opened (Cancelled k x) q h = refl
cancelled-not_opened (Founded x) q h = absurd (none-some q h)
cancelled-not_opened (Opened o) q h = absurd (none-some q h)
cancelled-not_opened (Leased k w n x t p d) q h = absurd (none-some q h)
cancelled-not_opened (Reported n v _) q h = absurd (none-some q h)
cancelled-not_opened (Skipped n _) q h = absurd (none-some q h)
cancelled-not_opened (Ordered k a n c x d) q h = absurd (none-some q h)
cancelled-not_opened (Carried c d) q h = absurd (none-some q h)
cancelled-not_opened Closed q h = absurd (none-some q h)

pub opened-not_told : (w : What) (o : Opening) → opening_in w ≡ Some o → told_in w ≡ None
opened-not_told (Opened x) o h = refl
opened-not_told (Founded x) o h = absurd (none-some o h)
opened-not_told (Leased k w n q t p d) o h = absurd (none-some o h)
opened-not_told (Reported n v _) o h = absurd (none-some o h)
opened-not_told (Skipped n _) o h = absurd (none-some o h)
opened-not_told (Cancelled k q) o h = absurd (none-some o h)
opened-not_told (Ordered k a n c q d) o h = absurd (none-some o h)
opened-not_told (Carried c d) o h = absurd (none-some o h)
opened-not_told Closed o h = absurd (none-some o h)

pub opened-not_cancelled : (w : What) (o : Opening) → opening_in w ≡ Some o → cancelled_in w ≡ None
opened-not_cancelled (Opened x) o h = refl
opened-not_cancelled (Founded x) o h = absurd (none-some o h)
opened-not_cancelled (Leased k w n q t p d) o h = absurd (none-some o h)
opened-not_cancelled (Reported n v _) o h = absurd (none-some o h)
opened-not_cancelled (Skipped n _) o h = absurd (none-some o h)
opened-not_cancelled (Cancelled k q) o h = absurd (none-some o h)
opened-not_cancelled (Ordered k a n c q d) o h = absurd (none-some o h)
opened-not_cancelled (Carried c d) o h = absurd (none-some o h)
opened-not_cancelled Closed o h = absurd (none-some o h)

-- An entry that isn't about the search.

pub other-seen : (H : List Entry) (e : Entry) (o : Opening) → IsLegal H → Stepped H e.at e.what →
    (IsAbout H e.what o.search → ⊥) → seen (H ++ e ∷ []) o ≡ seen H o
other-seen H e o legal step other =
    let run = runs-same H e o.search Search legal step other in
    let again = runs-same H e o.search Verify legal step other in
    let skips_are = skips-same H e o.search legal step other in
    let over = over-same H e o.search legal step (not_about-report H e.what o.search other) in
    let ended = cancelled-same H e o.search (not_about-cancel H e.what o.search other) in
    λ i. record {
      opening = o;
      runs = run i;
      reruns = again i;
      skipped = skips_are i;
      is_over = over i;
      is_cancelled = ended i;
    }

-- A report of one of its runs.

-- what a report adds, by its fate and the stage of its run
by_fate : (s : SearchView) (stage : Stage) (r : Run) (f : Fate) →
    record {
      opening = s.opening;
      runs = s.runs ++ cons_option (chosen_run (is_counted f) (same_stage stage Search) r) [];
      reruns = s.reruns ++ cons_option (chosen_run (is_counted f) (same_stage stage Verify) r) [];
      skipped = s.skipped;
      is_over = s.is_over || is_over f;
      is_cancelled = s.is_cancelled;
    } ≡ after_report s stage r f
by_fate s Search r Counted = λ i. record {
  opening = s.opening;
  runs = s.runs ++ r ∷ [];
  reruns = append-nil s.reruns i;
  skipped = s.skipped;
  is_over = or-none s.is_over false refl i;
  is_cancelled = s.is_cancelled;
}
by_fate s Verify r Counted = λ i. record {
  opening = s.opening;
  runs = append-nil s.runs i;
  reruns = s.reruns ++ r ∷ [];
  skipped = s.skipped;
  is_over = or-none s.is_over false refl i;
  is_cancelled = s.is_cancelled;
}
by_fate s stage r Over = λ i. record {
  opening = s.opening;
  runs = append-nil s.runs i;
  reruns = append-nil s.reruns i;
  skipped = s.skipped;
  is_over = or-some s.is_over true refl i;
  is_cancelled = s.is_cancelled;
}
by_fate s stage r Late = λ i. record {
  opening = s.opening;
  runs = append-nil s.runs i;
  reruns = append-nil s.reruns i;
  skipped = s.skipped;
  is_over = or-none s.is_over false refl i;
  is_cancelled = s.is_cancelled;
}

-- the runs that count at a stage with it
counted-reported : (H : List Entry) (e : Entry) (o : Opening) (r : ReportedRun) (l : LeasedRun) (stage : Stage) → IsLegal H →
    report_in e.what ≡ Some r → lease_of H r.run ≡ Some l → l.search ≡ o.search →
    counted (H ++ e ∷ []) o.search stage
    ≡ counted H o.search stage
    ++ cons_option (chosen_run (is_counted r.fate) (same_stage l.stage stage) (run_with l r.verdict)) []
counted-reported H e o r l stage legal is known same =
    let longer = H ++ e ∷ [] in
    let before : List Run = counted H o.search stage in
    counted-grow H e o.search stage (reports-known H legal)
    ∙ ap (λ (x : Option ReportedRun). before ++ filter_map (counted_run longer o.search stage) (cons_option x [])) is
    ∙ ap (λ (x : Option Run). before ++ cons_option x [])
    (counted_run-is longer o.search stage r l (lease_of-stays H e r.run l known)
    ∙ ap (λ (here : Bool). chosen_run (is_counted r.fate) (here && same_stage l.stage stage) (run_with l r.verdict))
    (same-number l.search o.search same))

over-of : (over : Bool) (here : Bool) → here ≡ true → ((over && here) || false) ≡ over
over-of true true h = refl
over-of true false h = h
over-of false here h = refl

over-reported : (H : List Entry) (e : Entry) (o : Opening) (r : ReportedRun) (l : LeasedRun) → IsLegal H →
    report_in e.what ≡ Some r → lease_of H r.run ≡ Some l → l.search ≡ o.search →
    went_over (H ++ e ∷ []) o.search ≡ (went_over H o.search || is_over r.fate)
over-reported H e o r l legal is known same =
    let longer = H ++ e ∷ [] in
    let test : ReportedRun → Bool = λ x. is_over x.fate && is_of_search o.search (lease_of longer x.run) in
    let here : is_of_search o.search (lease_of longer r.run) ≡ true =
    ap (is_of_search o.search) (lease_of-stays H e r.run l known) ∙ same-number l.search o.search same in
    went_over-grow H e o.search (reports-known H legal)
    ∙ ap (λ (x : Option ReportedRun). went_over H o.search || list_any test (cons_option x [])) is
    ∙ ap (λ (b : Bool). went_over H o.search || b)
    (over-of (is_over r.fate) (is_of_search o.search (lease_of longer r.run)) here)

-- and the skipped positions stay
unskipped : (H : List Entry) (e : Entry) (s : ℕ) → IsLegal H → skip_in e.what ≡ None →
    skipped (H ++ e ∷ []) s ≡ skipped H s
unskipped H e s legal none =
    skipped-grow H e s (skips-known H legal)
    ∙ ap (λ (x : Option SkippedRun).
    skipped H s ++ filter_map (skipped_position (H ++ e ∷ []) s) (cons_option x [])) none
    ∙ append-nil (skipped H s)

pub reported-seen : (H : List Entry) (e : Entry) (o : Opening) (r : ReportedRun) (l : LeasedRun) → IsLegal H →
    report_in e.what ≡ Some r → lease_of H r.run ≡ Some l → l.search ≡ o.search →
    seen (H ++ e ∷ []) o ≡ after_report (seen H o) l.stage (run_with l r.verdict) r.fate
reported-seen H e o r l legal is known same =
    let run = counted-reported H e o r l Search legal is known same in
    let again = counted-reported H e o r l Verify legal is known same in
    let over = over-reported H e o r l legal is known same in
    let ended : was_cancelled (H ++ e ∷ []) o.search ≡ was_cancelled H o.search =
    cancelled-same H e o.search (λ x h. absurd (none-some x (sym (report-not_cancelled e.what r is) ∙ h))) in
    let skips_are = unskipped H e o.search legal (report-no_skip e.what r is) in
    (λ i. record {
      opening = o;
      runs = run i;
      reruns = again i;
      skipped = skips_are i;
      is_over = over i;
      is_cancelled = ended i;
    })
    ∙ by_fate (seen H o) l.stage (run_with l r.verdict) r.fate

-- A skip of one of its runs.

-- what a skip adds, by its fate
by_skip_fate : (s : SearchView) (position : ℕ) (f : SkipFate) →
    record {
      opening = s.opening;
      runs = s.runs;
      reruns = s.reruns;
      skipped = s.skipped ++ cons_option (chosen_position (is_taken f) true position) [];
      is_over = s.is_over;
      is_cancelled = s.is_cancelled;
    } ≡ after_skip s position f
by_skip_fate s position skip.Taken = refl
by_skip_fate s position skip.Late = λ i. record {
  opening = s.opening;
  runs = s.runs;
  reruns = s.reruns;
  skipped = append-nil s.skipped i;
  is_over = s.is_over;
  is_cancelled = s.is_cancelled;
}

-- the runs that count at a stage stay
unreported : (H : List Entry) (e : Entry) (s : ℕ) (stage : Stage) → IsLegal H → report_in e.what ≡ None →
    counted (H ++ e ∷ []) s stage ≡ counted H s stage
unreported H e s stage legal none =
    counted-grow H e s stage (reports-known H legal)
    ∙ ap (λ (x : Option ReportedRun).
    counted H s stage ++ filter_map (counted_run (H ++ e ∷ []) s stage) (cons_option x [])) none
    ∙ append-nil (counted H s stage)

-- and so does whether it went over
over-unreported : (H : List Entry) (e : Entry) (s : ℕ) → IsLegal H → report_in e.what ≡ None →
    went_over (H ++ e ∷ []) s ≡ went_over H s
over-unreported H e s legal none =
    let test : ReportedRun → Bool = λ x. is_over x.fate && is_of_search s (lease_of (H ++ e ∷ []) x.run) in
    went_over-grow H e s (reports-known H legal)
    ∙ ap (λ (x : Option ReportedRun). went_over H s || list_any test (cons_option x [])) none
    ∙ or-none (went_over H s) false refl

-- its position is added where it is taken
skipped-told : (H : List Entry) (e : Entry) (o : Opening) (r : SkippedRun) (l : LeasedRun) → IsLegal H →
    skip_in e.what ≡ Some r → lease_of H r.run ≡ Some l → l.search ≡ o.search →
    skipped (H ++ e ∷ []) o.search
    ≡ skipped H o.search ++ cons_option (chosen_position (is_taken r.fate) true l.position) []
skipped-told H e o r l legal is known same =
    let longer = H ++ e ∷ [] in
    let before : List ℕ = skipped H o.search in
    skipped-grow H e o.search (skips-known H legal)
    ∙ ap (λ (x : Option SkippedRun). before ++ filter_map (skipped_position longer o.search) (cons_option x [])) is
    ∙ ap (λ (x : Option ℕ). before ++ cons_option x [])
    (skipped_position-is longer o.search r l (lease_of-stays H e r.run l known)
    ∙ ap (λ (here : Bool). chosen_position (is_taken r.fate) here l.position) (same-number l.search o.search same))

pub skipped-seen : (H : List Entry) (e : Entry) (o : Opening) (r : SkippedRun) (l : LeasedRun) → IsLegal H →
    skip_in e.what ≡ Some r → lease_of H r.run ≡ Some l → l.search ≡ o.search →
    seen (H ++ e ∷ []) o ≡ after_skip (seen H o) l.position r.fate
skipped-seen H e o r l legal is known same =
    let none = skip-no_report e.what r is in
    let run = unreported H e o.search Search legal none in
    let again = unreported H e o.search Verify legal none in
    let skips_are = skipped-told H e o r l legal is known same in
    let over = over-unreported H e o.search legal none in
    let ended : was_cancelled (H ++ e ∷ []) o.search ≡ was_cancelled H o.search =
    cancelled-same H e o.search (λ x h. absurd (none-some x (sym (skip-not_cancelled e.what r is) ∙ h))) in
    (λ i. record {
      opening = o;
      runs = run i;
      reruns = again i;
      skipped = skips_are i;
      is_over = over i;
      is_cancelled = ended i;
    })
    ∙ by_skip_fate (seen H o) l.position r.fate

-- Its cancellation.

pub cancelled-seen : (H : List Entry) (e : Entry) (o : Opening) → IsLegal H → Stepped H e.at e.what →
    cancelled_in e.what ≡ Some o.search → seen (H ++ e ∷ []) o ≡ cancelled (seen H o)
cancelled-seen H e o legal step is =
    let none = told-none e.what (cancelled-not_told e.what o.search is) in
    let run = unreported H e o.search Search legal none.0 in
    let again = unreported H e o.search Verify legal none.0 in
    let skips_are = unskipped H e o.search legal none.1 in
    let over = over-unreported H e o.search legal none.0 in
    let ended : was_cancelled (H ++ e ∷ []) o.search ≡ true =
    was_cancelled-grow H e o.search
    ∙ ap (λ (x : Option ℕ). was_cancelled H o.search || list_any (λ (c : ℕ). c == o.search) (cons_option x [])) is
    ∙ or-some (was_cancelled H o.search) _ (or-none (o.search == o.search) false refl ∙ same-number o.search o.search refl) in
    λ i. record {
      opening = o;
      runs = run i;
      reruns = again i;
      skipped = skips_are i;
      is_over = over i;
      is_cancelled = ended i;
    }

-- Its opening.

-- a search that was opened has a number up to that of the last
known-low : (H : List Entry) (s : ℕ) → IsLegal H → HasOpening H s → s ≤ length (openings H)
known-low H s legal known =
    let o : Opening = known.0 in
    let there = opening-there H s o known.1 in
    let at = number-at (λ (x : Opening). x.search) 1 (openings H) (openings-numbered H legal) there.0.0 o there.0.1 in
    let number : o.search ≡ 1 + there.0.0 = ap (λ (x : Opening). x.search) (sym there.0.2) ∙ at in
    omega (arith, there.1, number, there.0.1)

no-cancelled : (w : What) → IsFounding w → cancelled_in w ≡ None
no-cancelled (Founded x) h = refl
no-cancelled (Opened o) h = absurd h
no-cancelled (Leased k w n s t p d) h = absurd h
no-cancelled (Reported run v _) h = absurd h
no-cancelled (Skipped run _) h = absurd h
no-cancelled (Cancelled k q) h = absurd h
no-cancelled (Ordered k a n c s d) h = absurd h
no-cancelled (Carried c d) h = absurd h
no-cancelled Closed h = absurd h

cancellations-known : (H : List Entry) → IsLegal H → All (λ (s : ℕ). HasOpening H s) (cancellations H)
cancellations-known =
    each_part cancelled_in (λ (H : List Entry) (s : ℕ). HasOpening H s) no-cancelled
    (λ H e s legal step known. (known.0, opening_numbered-stays H e s known.0 known.1))
    (λ H e s legal step is.
    let facts = cancelled-facts H e.at e.what s is step in
    (facts.opening, opening_numbered-stays H e s facts.opening facts.known))

none-any : {X : Type 0} (p : X → Bool) (xs : List X) → All (λ (x : X). p x ≡ false) xs → list_any p xs ≡ false
none-any p [] h = refl
none-any p (x ∷ xs) h =
    ap (λ (b : Bool). b || list_any p xs) (All-head (λ y. p y ≡ false) x xs h)
    ∙ none-any p xs (All-tail (λ y. p y ≡ false) x xs h)

above : (a n s : ℕ) → a ≤ n → n + 1 ≡ s → a == s ≡ false
above a n s low next = grind (arith, nat_tests)

over-none : (over here : Bool) → here ≡ false → (over && here) ≡ false
over-none true here h = h
over-none false here h = refl

-- no entry speaks of a search that has the next number
over_none_at : (H : List Entry) (s : ℕ) → IsLegal H → length (openings H) + 1 ≡ s → (r : ReportedRun) → HasLease H r.run →
    (is_over r.fate && is_of_search s (lease_of H r.run)) ≡ false
over_none_at H s legal next r known =
    let l : LeasedRun = known.0 in
    let has : HasOpening H l.search =
    All-contains (λ (x : LeasedRun). HasOpening H x.search) (all_leases H) l (leases-known H legal)
    (lease-there H r.run l known.1).0 in
    over-none (is_over r.fate) (is_of_search s (lease_of H r.run))
    (ap (is_of_search s) known.1 ∙ above l.search (length (openings H)) s (known-low H l.search legal has) next)

not-over : (H : List Entry) (s : ℕ) → IsLegal H → length (openings H) + 1 ≡ s → went_over H s ≡ false
not-over H s legal next =
    none-any (λ (r : ReportedRun). is_over r.fate && is_of_search s (lease_of H r.run)) (reports H)
    (λ k d below. over_none_at H s legal next (get_or (reports H) k d) (reports-known H legal k d below))

not-cancelled : (H : List Entry) (s : ℕ) → IsLegal H → length (openings H) + 1 ≡ s → was_cancelled H s ≡ false
not-cancelled H s legal next =
    none-any (λ (c : ℕ). c == s) (cancellations H)
    (λ k d below.
    above (get_or (cancellations H) k d) (length (openings H)) s
    (known-low H (get_or (cancellations H) k d) legal (cancellations-known H legal k d below)) next)

none-mapped : {X Y : Type 0} (f : X → Option Y) (xs : List X) → All (λ (x : X). f x ≡ None) xs → filter_map f xs ≡ []
none-mapped f [] h = refl
none-mapped f (x ∷ xs) h =
    ap (λ o. cons_option o (filter_map f xs)) (All-head (λ y. f y ≡ None) x xs h)
    ∙ none-mapped f xs (All-tail (λ y. f y ≡ None) x xs h)

elsewhere : (taken here : Bool) (k : ℕ) → here ≡ false → chosen_position taken here k ≡ None
elsewhere true true k h = absurd (true≢false h)
elsewhere true false k h = refl
elsewhere false here k h = refl

-- a run that was skipped is of a search that was opened
skipped_none_at : (H : List Entry) (s : ℕ) → IsLegal H → length (openings H) + 1 ≡ s → (r : SkippedRun) →
    HasLease H r.run → skipped_position H s r ≡ None
skipped_none_at H s legal next r known =
    let l : LeasedRun = known.0 in
    let has : HasOpening H l.search =
    All-contains (λ (x : LeasedRun). HasOpening H x.search) (all_leases H) l (leases-known H legal)
    (lease-there H r.run l known.1).0 in
    skipped_position-is H s r l known.1
    ∙ elsewhere (is_taken r.fate) (l.search == s) l.position
    (above l.search (length (openings H)) s (known-low H l.search legal has) next)

none-skipped : (H : List Entry) (s : ℕ) → IsLegal H → length (openings H) + 1 ≡ s → skipped H s ≡ []
none-skipped H s legal next =
    none-mapped (skipped_position H s) (skips H)
    (λ k d below. skipped_none_at H s legal next (get_or (skips H) k d) (skips-known H legal k d below))

pub opened-seen : (H : List Entry) (e : Entry) (o : Opening) → IsLegal H → Stepped H e.at e.what →
    opening_in e.what ≡ Some o → seen (H ++ e ∷ []) o ≡ opened o
opened-seen H e o legal step is =
    let next : length (openings H) + 1 ≡ o.search =
    (is_made (ask_of o) _ o (opened-facts H e.at e.what o is step).made).number in
    let none = told-none e.what (opened-not_told e.what o is) in
    let no_end = opened-not_cancelled e.what o is in
    let run = fresh-counted H e o Search legal step is in
    let again = fresh-counted H e o Verify legal step is in
    let skips_are = unskipped H e o.search legal none.1 ∙ none-skipped H o.search legal next in
    let over = over-unreported H e o.search legal none.0 ∙ not-over H o.search legal next in
    let ended =
    cancelled-same H e o.search (λ x h. absurd (none-some x (sym no_end ∙ h))) ∙ not-cancelled H o.search legal next in
    λ i. record {
      opening = o;
      runs = run i;
      reruns = again i;
      skipped = skips_are i;
      is_over = over i;
      is_cancelled = ended i;
    }
