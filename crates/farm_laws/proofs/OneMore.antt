-- What a search holds after an entry that isn't about it, and its leases after any entry.
use Rattle.std.proofs.Common.{◌≡◌, ℕ, ◌+◌, ◌==◌, Bool, true, false, ◌&&◌, ◌||◌, if◌then◌else◌, List, [], ◌∷◌, ◌++◌, length, Option, Some, None, refl, ap, ◌∙◌, append-nil, arith, true≢false}
use Rattle.std.specs.List.{cons_option, filter_map, list_any}
use Rattle.std.proofs.lemmas.Bool.{ne_eqb}
use Rattle.std.proofs.lemmas.Option.{none-some}
use Rattle.farm_types.specs.declared.stage.Stage.{Stage}
use Rattle.farm_types.specs.declared.stage.Stage.TheVariants.{Search, Verify}
use Rattle.weight_exact.specs.Share.{reached}
use Rattle.weight_exact.specs.declared.run.Run.{Run}
use Rattle.farm_entry.specs.Decision.{run_with}
use Rattle.farm_entry.specs.History.{cancelled_in, counted, counted_run, is_counted, is_lease_for, is_of_search, is_over, is_taken, last_lease, last_place, lease_of, report_in, same_stage, skip_in, skipped, skipped_position, was_cancelled, went_over}
use Rattle.farm_entry.specs.Legal.{IsLegal}
use Rattle.farm_entry.specs.Setup.{setup_of}
use Rattle.farm_entry.specs.Standing.{standing, standing_of_reached}
use Rattle.farm_entry.specs.declared.entry.Entry.{Entry}
use Rattle.farm_entry.specs.declared.entry.What.{What}
use Rattle.farm_entry.specs.declared.entry.What.TheVariants.{Founded, Opened, Leased, Reported, Skipped, Cancelled, Ordered, Carried, Closed}
use Rattle.farm_entry.specs.declared.lease.LeasedRun.{LeasedRun}
use Rattle.farm_entry.specs.declared.lease.ReportedRun.{ReportedRun}
use Rattle.farm_entry.specs.declared.lease.SkippedRun.{SkippedRun}
use Rattle.farm_entry.specs.declared.opening.Opening.{Opening}
use Rattle.farm_entry.specs.declared.standing.Standing.TheVariants as standings
use Rattle.farm_laws.proofs.EntryParts.{reported-facts, skipped-facts}
use Rattle.farm_laws.proofs.Filters.{counted-grow, lease_of-stays, skipped-grow, was_cancelled-grow, went_over-grow}
use Rattle.farm_laws.proofs.Known.{reports-known, skips-known}
use Rattle.farm_laws.proofs.RunSteps.{chosen_position, chosen_run, counted_run-is, skipped_position-is}
use Rattle.farm_laws.proofs.Stepped.{Stepped}
use Rattle.farm_laws.specs.Steps.{IsAbout}

-- A report of another search's run adds nothing to a search.

-- the run that an entry reports is of another search
abbrev pub IsOfOther : List Entry → What → ℕ → Type 0
IsOfOther H what s = (r : ReportedRun) (l : LeasedRun) → report_in what ≡ Some r → lease_of H r.run ≡ Some l →
    l.search == s ≡ false

none-more : (xs : List Run) (o : Option Run) → o ≡ None → xs ++ cons_option o [] ≡ xs
none-more xs o none = ap (λ (x : Option Run). xs ++ cons_option x []) none ∙ append-nil xs

other-run : (counts : Bool) (same here : Bool) (r : Run) → same ≡ false → chosen_run counts (same && here) r ≡ None
other-run true true here r h = absurd (true≢false h)
other-run true false here r h = refl
other-run false same here r h = refl

counted-same_by : (H : List Entry) (e : Entry) (s : ℕ) (stage : Stage) (rep : Option ReportedRun) →
    Stepped H e.at e.what → IsOfOther H e.what s →
    report_in e.what ≡ rep →
    counted (H ++ e ∷ []) s stage ≡ counted H s stage ++ filter_map (counted_run (H ++ e ∷ []) s stage)
    (cons_option rep []) →
    counted (H ++ e ∷ []) s stage ≡ counted H s stage
counted-same_by H e s stage None step other is grown = grown ∙ append-nil (counted H s stage)
counted-same_by H e s stage (Some r) step other is grown =
    let facts = reported-facts H e.at e.what r is step in
    let l = facts.lease in
    let longer = H ++ e ∷ [] in
    let none : counted_run longer s stage r ≡ None =
    counted_run-is longer s stage r l (lease_of-stays H e r.run l facts.known)
    ∙ other-run (is_counted r.fate) (l.search == s) (same_stage l.stage stage) (run_with l r.verdict)
    (other r l is facts.known) in
    grown ∙ none-more (counted H s stage) (counted_run longer s stage r) none

pub counted-same : (H : List Entry) (e : Entry) (s : ℕ) (stage : Stage) → IsLegal H → Stepped H e.at e.what →
    IsOfOther H e.what s →
    counted (H ++ e ∷ []) s stage ≡ counted H s stage
counted-same H e s stage legal step other =
    counted-same_by H e s stage (report_in e.what) step other refl (counted-grow H e s stage (reports-known H legal))

-- the run that an entry reports as one whose tree can't be tested is of another search
abbrev pub IsSkipOfOther : List Entry → What → ℕ → Type 0
IsSkipOfOther H what s = (r : SkippedRun) (l : LeasedRun) → skip_in what ≡ Some r → lease_of H r.run ≡ Some l →
    l.search == s ≡ false

other-position : (taken same : Bool) (k : ℕ) → same ≡ false → chosen_position taken same k ≡ None
other-position true true k h = absurd (true≢false h)
other-position true false k h = refl
other-position false same k h = refl

skipped-same_by : (H : List Entry) (e : Entry) (s : ℕ) (told : Option SkippedRun) → Stepped H e.at e.what →
    IsSkipOfOther H e.what s → skip_in e.what ≡ told →
    skipped (H ++ e ∷ []) s ≡ skipped H s ++ filter_map (skipped_position (H ++ e ∷ []) s) (cons_option told []) →
    skipped (H ++ e ∷ []) s ≡ skipped H s
skipped-same_by H e s None step other is grown = grown ∙ append-nil (skipped H s)
skipped-same_by H e s (Some r) step other is grown =
    let facts = skipped-facts H e.at e.what r is step in
    let l = facts.lease in
    let none : skipped_position (H ++ e ∷ []) s r ≡ None =
    skipped_position-is (H ++ e ∷ []) s r l (lease_of-stays H e r.run l facts.known)
    ∙ other-position (is_taken r.fate) (l.search == s) l.position (other r l is facts.known) in
    grown
    ∙ ap (λ (x : Option ℕ). skipped H s ++ cons_option x []) none
    ∙ append-nil (skipped H s)

pub skipped-same : (H : List Entry) (e : Entry) (s : ℕ) → IsLegal H → Stepped H e.at e.what → IsSkipOfOther H e.what s →
    skipped (H ++ e ∷ []) s ≡ skipped H s
skipped-same H e s legal step other =
    skipped-same_by H e s (skip_in e.what) step other refl (skipped-grow H e s (skips-known H legal))

or-none : (a b : Bool) → b ≡ false → (a || b) ≡ a
or-none true b h = refl
or-none false b h = h

and-none : (a b : Bool) → b ≡ false → (a && b) ≡ false
and-none true b h = h
and-none false b h = refl

over-same_by : (H : List Entry) (e : Entry) (s : ℕ) (rep : Option ReportedRun) → Stepped H e.at e.what →
    IsOfOther H e.what s → report_in e.what ≡ rep →
    went_over (H ++ e ∷ []) s
    ≡ (went_over H s || list_any (λ (r : ReportedRun). is_over r.fate && is_of_search s (lease_of
    (H ++ e ∷ []) r.run)) (cons_option rep [])) →
    went_over (H ++ e ∷ []) s ≡ went_over H s
over-same_by H e s None step other is grown = grown ∙ or-none (went_over H s) false refl
over-same_by H e s (Some r) step other is grown =
    let facts = reported-facts H e.at e.what r is step in
    let l = facts.lease in
    let not_of : is_of_search s (lease_of (H ++ e ∷ []) r.run) ≡ false =
    ap (is_of_search s) (lease_of-stays H e r.run l facts.known) ∙ other r l is facts.known in
    let none : (is_over r.fate && is_of_search s (lease_of (H ++ e ∷ []) r.run)) ≡ false =
    and-none (is_over r.fate) _ not_of in
    grown ∙ or-none (went_over H s) _ (or-none (is_over r.fate && is_of_search s (lease_of
    (H ++ e ∷ []) r.run)) false refl ∙ none)

pub over-same : (H : List Entry) (e : Entry) (s : ℕ) → IsLegal H → Stepped H e.at e.what → IsOfOther H e.what s →
    went_over (H ++ e ∷ []) s ≡ went_over H s
over-same H e s legal step other =
    over-same_by H e s (report_in e.what) step other refl (went_over-grow H e s (reports-known H legal))

cancelled-same_by : (H : List Entry) (e : Entry) (s : ℕ) (c : Option ℕ) → ((x : ℕ) → c ≡ Some x → x == s ≡ false) →
    was_cancelled (H ++ e ∷ []) s ≡ (was_cancelled H s || list_any (λ (x : ℕ). x == s) (cons_option c [])) →
    was_cancelled (H ++ e ∷ []) s ≡ was_cancelled H s
cancelled-same_by H e s None other grown = grown ∙ or-none (was_cancelled H s) false refl
cancelled-same_by H e s (Some x) other grown =
    grown ∙ or-none (was_cancelled H s) _ (or-none (x == s) false refl ∙ other x refl)

pub cancelled-same : (H : List Entry) (e : Entry) (s : ℕ) → ((x : ℕ) → cancelled_in e.what ≡ Some x → x == s ≡ false) →
    was_cancelled (H ++ e ∷ []) s ≡ was_cancelled H s
cancelled-same H e s other = cancelled-same_by H e s (cancelled_in e.what) other (was_cancelled-grow H e s)

-- What isn't about a search says so of its report and its cancellation.

abbrev run_of_report : Option ReportedRun → ℕ
run_of_report None = 0
run_of_report (Some r) = r.run

differ : (a b : ℕ) → (a ≡ b → ⊥) → a == b ≡ false
differ a b h = ne_eqb a b h

pub not_about-report : (H : List Entry) (what : What) (s : ℕ) → (IsAbout H what s → ⊥) → IsOfOther H what s
not_about-report H (Reported run verdict _) s other r l is known =
    let same : run ≡ r.run = ap run_of_report is in
    differ l.search s (λ of_it. other (l, ap (lease_of H) same ∙ known, of_it))
not_about-report H (Skipped run _) s other r l is known = absurd (none-some r is)
not_about-report H (Founded settings) s other r l is known = absurd (none-some r is)
not_about-report H (Opened o) s other r l is known = absurd (none-some r is)
not_about-report H (Leased k w q t p d x) s other r l is known = absurd (none-some r is)
not_about-report H (Cancelled k q) s other r l is known = absurd (none-some r is)
not_about-report H (Ordered k a n c q d) s other r l is known = absurd (none-some r is)
not_about-report H (Carried c d) s other r l is known = absurd (none-some r is)
not_about-report H Closed s other r l is known = absurd (none-some r is)

abbrev run_of_skip : Option SkippedRun → ℕ
run_of_skip None = 0
run_of_skip (Some r) = r.run

pub not_about-skip : (H : List Entry) (what : What) (s : ℕ) → (IsAbout H what s → ⊥) → IsSkipOfOther H what s
not_about-skip H (Skipped run _) s other r l is known =
    let same : run ≡ r.run = ap run_of_skip is in
    differ l.search s (λ of_it. other (l, ap (lease_of H) same ∙ known, of_it))
not_about-skip H (Founded settings) s other r l is known = absurd (none-some r is)
not_about-skip H (Opened o) s other r l is known = absurd (none-some r is)
not_about-skip H (Leased k w q t p d x) s other r l is known = absurd (none-some r is)
not_about-skip H (Reported run verdict _) s other r l is known = absurd (none-some r is)
not_about-skip H (Cancelled k q) s other r l is known = absurd (none-some r is)
not_about-skip H (Ordered k a n c q d) s other r l is known = absurd (none-some r is)
not_about-skip H (Carried c d) s other r l is known = absurd (none-some r is)
not_about-skip H Closed s other r l is known = absurd (none-some r is)

pub not_about-cancel : (H : List Entry) (what : What) (s : ℕ) → (IsAbout H what s → ⊥) → (x : ℕ) →
    cancelled_in what ≡ Some x → x == s ≡ false
not_about-cancel H (Cancelled key q) s other x is =
    let same : q ≡ x = cc in
    differ x s (λ of_it. other (same ∙ of_it))
not_about-cancel H (Founded settings) s other x is = absurd (none-some x is)
not_about-cancel H (Opened o) s other x is = absurd (none-some x is)
not_about-cancel H (Leased k w q t p d y) s other x is = absurd (none-some x is)
not_about-cancel H (Reported run verdict _) s other x is = absurd (none-some x is)
not_about-cancel H (Skipped run _) s other x is = absurd (none-some x is)
not_about-cancel H (Ordered k a n c q d) s other x is = absurd (none-some x is)
not_about-cancel H (Carried c d) s other x is = absurd (none-some x is)
not_about-cancel H Closed s other x is = absurd (none-some x is)

pub runs-same : (H : List Entry) (e : Entry) (s : ℕ) (stage : Stage) → IsLegal H → Stepped H e.at e.what →
    (IsAbout H e.what s → ⊥) →
    counted (H ++ e ∷ []) s stage ≡ counted H s stage
runs-same H e s stage legal step other = counted-same H e s stage legal step (not_about-report H e.what s other)

pub skips-same : (H : List Entry) (e : Entry) (s : ℕ) → IsLegal H → Stepped H e.at e.what → (IsAbout H e.what s → ⊥) →
    skipped (H ++ e ∷ []) s ≡ skipped H s
skips-same H e s legal step other = skipped-same H e s legal step (not_about-skip H e.what s other)

pub standing-same : (H : List Entry) (e : Entry) (o : Opening) → IsLegal H → Stepped H e.at e.what →
    (IsAbout H e.what o.search → ⊥) →
    standing (H ++ e ∷ []) o ≡ standing H o
standing-same H e o legal step other =
    let cancelled = cancelled-same H e o.search (not_about-cancel H e.what o.search other) in
    let over = over-same H e o.search legal step (not_about-report H e.what o.search other) in
    let run = runs-same H e o.search Search legal step other in
    let again = runs-same H e o.search Verify legal step other in
    let skips = skips-same H e o.search legal step other in
    λ i. if cancelled i then standings.Cancelled
    else (if over i then standings.Inconclusive
    else standing_of_reached o (run i) (skips i) (again i) (reached (setup_of o) (run i)))

-- Leases.

last_place-append : (test : Entry → Bool) (place found : ℕ) (H : List Entry) (e : Entry) →
    last_place test place found (H ++ e ∷ []) ≡ (if test e then place + length H else last_place test place found H)
last_place-append test place found [] e = ap (λ (n : ℕ). if test e then n else found) (omega arith)
last_place-append test place found (f ∷ H) e =
    last_place-append test (place + 1) (if test f then place else found) H e
    ∙ ap (λ (n : ℕ). if test e then n else last_place test (place + 1) (if test f then place else found) H)
    (omega arith)

pub last_lease-step : (H : List Entry) (e : Entry) (s : ℕ) →
    last_lease (H ++ e ∷ []) s ≡ (if is_lease_for s e then length H else last_lease H s)
last_lease-step H e s =
    last_place-append (is_lease_for s) 0 0 H e
    ∙ ap (λ (n : ℕ). if is_lease_for s e then n else last_lease H s) (omega arith)
