-- What appending an entry makes of what is kept of the searches.
use Rattle.std.proofs.Common.{◌≡◌, ◌⊎◌, ⊎_elim, ℕ, ◌+◌, ◌-◌, ◌<◌, ◌≤◌, true, false, List, [], ◌∷◌, ◌++◌, length, map, set, get_or, Contains, Option, Some, None, refl, sym, ap, subst, ◌∙◌, true≢false, arith, length-append, append-nil}
use Rattle.std.specs.List.{cons_option}
use Rattle.std.proofs.lemmas.List.{get_or-map, get_or_push, length-map, map-append, map-set}
use Rattle.std.proofs.lemmas.Simd.{map-map}
use Rattle.farm_types.specs.declared.stage.Stage.{Stage}
use Rattle.farm_types.specs.declared.stage.Stage.TheVariants.{Search, Verify}
use Rattle.weight_exact.specs.declared.run.Run.{Run}
use Rattle.farm_entry.specs.Decision.{run_with}
use Rattle.farm_entry.specs.History.{all_leases, cancelled_in, is_counted, lease_in, lease_of, opening_in, opening_numbered, openings, report_in, skip_in, told_in}
use Rattle.farm_entry.specs.Legal.{IsFounding, IsLegal}
use Rattle.farm_entry.specs.Standing.{is_active, standing}
use Rattle.farm_entry.specs.declared.entry.Entry.{Entry}
use Rattle.farm_entry.specs.declared.entry.Fate.{Fate}
use Rattle.farm_entry.specs.declared.entry.Fate.TheVariants.{Counted, Late, Over}
use Rattle.farm_entry.specs.declared.entry.SkipFate.{SkipFate}
use Rattle.farm_entry.specs.declared.entry.SkipFate.TheVariants as skip
use Rattle.farm_entry.specs.declared.lease.LeasedRun.{LeasedRun}
use Rattle.farm_entry.specs.declared.lease.ReportedRun.{ReportedRun}
use Rattle.farm_entry.specs.declared.lease.SkippedRun.{SkippedRun}
use Rattle.farm_entry.specs.declared.opening.Opening.{Opening}
use Rattle.farm_entry.specs.declared.standing.Standing.{Standing}
use Rattle.farm_entry.specs.declared.standing.Standing.TheVariants.{Searching, Verifying, Confirmed, Vindicated, NoCulprit, Inconclusive, Cancelled}
use Rattle.farm_entry.proofs.Growing.{all_leases-grow, openings-grow}
use Rattle.farm_laws.proofs.Ends.{end-final}
use Rattle.farm_laws.proofs.Filters.{opening_numbered-stays}
use Rattle.farm_laws.proofs.Induct.{AreNext-first, IsLegal-pushed}
use Rattle.farm_laws.proofs.Numbered.{lease-there, leases-numbered, number-at, opening-found, opening-there, openings-numbered}
use Rattle.farm_laws.proofs.Stepped.{Stepped, stepped}
use Rattle.search_state.specs.SearchView.{SearchView, after_report, after_skip, cancelled, opened, standing_in}
use Rattle.search_state.specs.Seen.{all_seen, seen}
use Rattle.search_state.proofs.AllStates.{cancelled-all, opened-all, quiet-all, reported-all, skipped-all}
use Rattle.search_state.proofs.Changes.{cancelled-not_opened, cancelled-seen, opened-seen, report-not_opened, reported-seen, skip-not_opened, skipped-seen}
use Rattle.rates_report.specs.Noted.{Noted, all_noted, noted_at, noted_of, started, with_run}
use Rattle.rates_report.specs.Tally.{StandsAfter, tells}
use Rattle.rates_report.proofs.Parts.{search-of_cancel, search-of_opening, search-of_told, told-either}

-- Before the entry.

-- an entry that founds no farm comes after a legal history
pub legal-before : (H : List Entry) (e : Entry) → IsLegal (H ++ e ∷ []) → (IsFounding e.what → ⊥) → IsLegal H
legal-before [] e longer not_first = absurd (not_first longer.0)
legal-before (f ∷ H) e longer not_first = (longer.0, AreNext-first (f ∷ []) H (e ∷ []) longer.1)

-- and it may come next
pub steps : (H : List Entry) (e : Entry) → IsLegal H → IsLegal (H ++ e ∷ []) → Stepped H e.at e.what
steps H e legal longer = stepped H e (IsLegal-pushed H e legal longer)

-- By numbers.

-- the place of a search
pub search-place : (H : List Entry) (o : Opening) (n : ℕ) → IsLegal H → opening_numbered H n ≡ Some o →
    (1 ≤ n) × (n - 1 < length (all_noted H)) × (get_or (all_noted H) (n - 1) (noted_of H o) ≡ noted_of H o)
search-place H o n legal known =
    let there = opening-there H n o known in
    let at = number-at (λ (x : Opening). x.search) 1 (openings H) (openings-numbered H legal) there.0.0 o there.0.1 in
    let number : o.search ≡ 1 + there.0.0 = ap (λ (x : Opening). x.search) (sym there.0.2) ∙ at in
    let same : n - 1 ≡ there.0.0 = omega (arith, number, there.1) in (
      omega (arith, number, there.1),
      omega (arith, same, there.0.1, length-map (openings H) (noted_of H)),
      ap (λ (k : ℕ). get_or (all_noted H) k (noted_of H o)) same
          ∙ get_or-map (noted_of H) (openings H) there.0.0 o (noted_of H o) there.0.1
          ∙ ap (noted_of H) there.0.2,
    )

-- the place of a lease
pub lease-place : (H : List Entry) (l : LeasedRun) (run : ℕ) → IsLegal H → lease_of H run ≡ Some l →
    (1 ≤ run) × (run - 1 < length (all_leases H)) × (get_or (all_leases H) (run - 1) l ≡ l)
lease-place H l run legal known =
    let there = lease-there H run l known in
    let at = number-at (λ (x : LeasedRun). x.run) 1 (all_leases H) (leases-numbered H legal) there.0.0 l there.0.1 in
    let number : l.run ≡ 1 + there.0.0 = ap (λ (x : LeasedRun). x.run) (sym there.0.2) ∙ at in
    let same : run - 1 ≡ there.0.0 = omega (arith, number, there.1) in (
      omega (arith, number, there.1),
      omega (arith, same, there.0.1),
      ap (λ (k : ℕ). get_or (all_leases H) k l) same ∙ there.0.2,
    )

-- What is kept, by what the laws see.

abbrev noted_in : SearchView → Noted
noted_in s = record { test = s.opening.test; standing = standing_in s; runs = s.runs; reruns = s.reruns }

noted-seen : (H : List Entry) → all_noted H ≡ map noted_in (all_seen H)
noted-seen H = sym (map-map noted_in (seen H) (openings H))

noted-set : (H : List Entry) (k : ℕ) (s : SearchView) (n : Noted) → noted_in s ≡ n →
    map noted_in (set (all_seen H) k s) ≡ set (all_noted H) k n
noted-set H k s n is =
    map-set noted_in (all_seen H) k s ∙ (λ i. set (sym (noted-seen H) i) k (is i))

-- A search that is opened.

last-there : (os : List Opening) (o : Opening) → Contains (os ++ o ∷ []) o
last-there os o =
    let long : length (os ++ o ∷ []) ≡ length os + 1 = length-append os (o ∷ []) in
    (length os, omega (arith, long), get_or_push os o o (length os) refl)

opened-there : (H : List Entry) (e : Entry) (o : Opening) → opening_in e.what ≡ Some o → Contains (openings (H ++ e ∷ [])) o
opened-there H e o is =
    subst (λ (os : List Opening). Contains os o)
    (sym (openings-grow H e ∙ ap (λ (x : Option Opening). openings H ++ cons_option x []) is))
    (last-there (openings H) o)

pub opened-noted : (H : List Entry) (e : Entry) (o : Opening) (s : Standing) → IsLegal H → IsLegal (H ++ e ∷ []) →
    opening_in e.what ≡ Some o → StandsAfter H e s → all_noted (H ++ e ∷ []) ≡ all_noted H ++ started o.test s ∷ []
opened-noted H e o s legal longer is stands =
    let step = steps H e legal longer in
    let found : opening_numbered (H ++ e ∷ []) o.search ≡ Some o =
    opening-found (H ++ e ∷ []) o longer (opened-there H e o is) in
    let stand : standing_in (opened o) ≡ s =
    ap standing_in (sym (opened-seen H e o legal step is))
    ∙ stands o.search o (search-of_opening H e.what o is) found in
    noted-seen (H ++ e ∷ [])
    ∙ ap (map noted_in) (opened-all H e o legal step is)
    ∙ map-append noted_in (all_seen H) (opened o ∷ [])
    ∙ (λ i. sym (noted-seen H) i ++ started o.test (stand i) ∷ [])

-- A run that is reported.

counted-by : (v : SearchView) (stage : Stage) (r : Run) (f : Fate) (s : Standing) → is_counted f ≡ true →
    noted_at s (noted_in (after_report v stage r f)) ≡ noted_at s (with_run (noted_in v) stage r)
counted-by v Search r Counted s is = refl
counted-by v Verify r Counted s is = refl
counted-by v stage r Late s is = absurd (true≢false (sym is))
counted-by v stage r Over s is = absurd (true≢false (sym is))

uncounted-by : (v : SearchView) (stage : Stage) (r : Run) (f : Fate) (s : Standing) → is_counted f ≡ false →
    noted_at s (noted_in (after_report v stage r f)) ≡ noted_at s (noted_in v)
uncounted-by v stage r Counted s is = absurd (true≢false is)
uncounted-by v stage r Late s is = refl
uncounted-by v stage r Over s is = refl

-- what a report, with a verdict or not, says of a search that was opened before
pub record IsTold (H : List Entry) (e : Entry) (run : ℕ) (l : LeasedRun) (o : Opening) (s : Standing) : Type 0 where
  pub legal : IsLegal H
  pub longer : IsLegal (H ++ e ∷ [])
  pub tells : told_in e.what ≡ Some run
  pub known : lease_of H run ≡ Some l
  pub numbered : opening_numbered H l.search ≡ Some o
  pub stands : StandsAfter H e s

-- the search stands so after it
pub stands-told : (H : List Entry) (e : Entry) (run : ℕ) (l : LeasedRun) (o : Opening) (s : Standing) →
    IsTold H e run l o s → standing (H ++ e ∷ []) o ≡ s
stands-told H e run l o s it =
    it.stands l.search o (search-of_told H e.what run l it.tells it.known)
    (opening_numbered-stays H e l.search o it.numbered)

-- what is kept of it, by what the laws see of it afterwards
told-noted : (H : List Entry) (e : Entry) (run : ℕ) (l : LeasedRun) (o : Opening) (s : Standing) (after : SearchView)
    (n : Noted) → IsTold H e run l o s → seen (H ++ e ∷ []) o ≡ after →
    all_seen (H ++ e ∷ []) ≡ set (all_seen H) (o.search - 1) after → noted_at s (noted_in after) ≡ n →
    all_noted (H ++ e ∷ []) ≡ set (all_noted H) (l.search - 1) n
told-noted H e run l o s after n it here all is =
    let number : o.search ≡ l.search = (opening-there H l.search o it.numbered).1 in
    let stand : standing_in after ≡ s = ap standing_in (sym here) ∙ stands-told H e run l o s it in
    noted-seen (H ++ e ∷ [])
    ∙ ap (map noted_in) all
    ∙ noted-set H (o.search - 1) after n (ap (λ (x : Standing). noted_at x (noted_in after)) stand ∙ is)
    ∙ ap (λ (k : ℕ). set (all_noted H) (k - 1) n) number

reported-noted : (H : List Entry) (e : Entry) (r : ReportedRun) (l : LeasedRun) (o : Opening) (s : Standing) →
    IsTold H e r.run l o s → report_in e.what ≡ Some r → (n : Noted) →
    noted_at s (noted_in (after_report (seen H o) l.stage (run_with l r.verdict) r.fate)) ≡ n →
    all_noted (H ++ e ∷ []) ≡ set (all_noted H) (l.search - 1) n
reported-noted H e r l o s it reports n is =
    let there = opening-there H l.search o it.numbered in
    let same : l.search ≡ o.search = sym there.1 in
    told-noted H e r.run l o s (after_report (seen H o) l.stage (run_with l r.verdict) r.fate) n it
    (reported-seen H e o r l it.legal reports it.known same)
    (reported-all H e o r l it.legal (steps H e it.legal it.longer) there.0 (report-not_opened e.what r reports) reports
    it.known same)
    is

pub counted-noted : (H : List Entry) (e : Entry) (r : ReportedRun) (l : LeasedRun) (o : Opening) (s : Standing) →
    IsTold H e r.run l o s → report_in e.what ≡ Some r → is_counted r.fate ≡ true →
    all_noted (H ++ e ∷ [])
    ≡ set (all_noted H) (l.search - 1) (noted_at s (with_run (noted_of H o) l.stage (run_with l r.verdict)))
counted-noted H e r l o s it reports counts =
    reported-noted H e r l o s it reports (noted_at s (with_run (noted_of H o) l.stage (run_with l r.verdict)))
    (counted-by (seen H o) l.stage (run_with l r.verdict) r.fate s counts)

skipped-by : (v : SearchView) (position : ℕ) (f : SkipFate) (s : Standing) →
    noted_at s (noted_in (after_skip v position f)) ≡ noted_at s (noted_in v)
skipped-by v position skip.Taken s = refl
skipped-by v position skip.Late s = refl

skipped-noted : (H : List Entry) (e : Entry) (r : SkippedRun) (l : LeasedRun) (o : Opening) (s : Standing) →
    IsTold H e r.run l o s → skip_in e.what ≡ Some r →
    all_noted (H ++ e ∷ []) ≡ set (all_noted H) (l.search - 1) (noted_at s (noted_of H o))
skipped-noted H e r l o s it skips =
    let there = opening-there H l.search o it.numbered in
    let same : l.search ≡ o.search = sym there.1 in
    told-noted H e r.run l o s (after_skip (seen H o) l.position r.fate) (noted_at s (noted_of H o)) it
    (skipped-seen H e o r l it.legal skips it.known same)
    (skipped-all H e o r l it.legal (steps H e it.legal it.longer) there.0 (skip-not_opened e.what r skips) skips
    it.known same)
    (skipped-by (seen H o) l.position r.fate s)

-- a report that doesn't count, and a skip
pub uncounted-noted : (H : List Entry) (e : Entry) (run : ℕ) (l : LeasedRun) (o : Opening) (s : Standing) →
    IsTold H e run l o s → ((r : ReportedRun) → report_in e.what ≡ Some r → is_counted r.fate ≡ false) →
    all_noted (H ++ e ∷ []) ≡ set (all_noted H) (l.search - 1) (noted_at s (noted_of H o))
uncounted-noted H e run l o s it counts =
    ⊎_elim
    (λ (reported : (r : ReportedRun) × (report_in e.what ≡ Some r) × (r.run ≡ run)).
    let r = reported.0 in
    let told : IsTold H e r.run l o s = subst (λ (n : ℕ). IsTold H e n l o s) (sym reported.2) it in
    reported-noted H e r l o s told reported.1 (noted_at s (noted_of H o))
    (uncounted-by (seen H o) l.stage (run_with l r.verdict) r.fate s (counts r reported.1)))
    (λ (skipped : (r : SkippedRun) × (skip_in e.what ≡ Some r) × (r.run ≡ run)).
    skipped-noted H e skipped.0 l o s (subst (λ (n : ℕ). IsTold H e n l o s) (sym skipped.2) it) skipped.1)
    (told-either e.what run it.tells)

-- A search that is cancelled.

pub record IsEnded (H : List Entry) (e : Entry) (q : ℕ) (o : Opening) (s : Standing) : Type 0 where
  pub legal : IsLegal H
  pub longer : IsLegal (H ++ e ∷ [])
  pub cancels : cancelled_in e.what ≡ Some q
  pub numbered : opening_numbered H q ≡ Some o
  pub stands : StandsAfter H e s

pub cancelled-after : (H : List Entry) (e : Entry) (q : ℕ) (o : Opening) (s : Standing) → IsEnded H e q o s →
    standing (H ++ e ∷ []) o ≡ s
cancelled-after H e q o s it =
    it.stands q o (search-of_cancel H e.what q it.cancels) (opening_numbered-stays H e q o it.numbered)

cancelled-is : (H : List Entry) (e : Entry) (q : ℕ) (o : Opening) (s : Standing) → IsEnded H e q o s →
    seen (H ++ e ∷ []) o ≡ cancelled (seen H o)
cancelled-is H e q o s it =
    let there = opening-there H q o it.numbered in
    cancelled-seen H e o it.legal (steps H e it.legal it.longer) (it.cancels ∙ ap Some (sym there.1))

pub cancelled-stands : (H : List Entry) (e : Entry) (q : ℕ) (o : Opening) (s : Standing) → IsEnded H e q o s → s ≡ Cancelled
cancelled-stands H e q o s it = sym (cancelled-after H e q o s it) ∙ ap standing_in (cancelled-is H e q o s it)

pub cancelled-noted : (H : List Entry) (e : Entry) (q : ℕ) (o : Opening) (s : Standing) → IsEnded H e q o s →
    all_noted (H ++ e ∷ []) ≡ set (all_noted H) (q - 1) (noted_at s (noted_of H o))
cancelled-noted H e q o s it =
    let there = opening-there H q o it.numbered in
    let is : cancelled_in e.what ≡ Some o.search = it.cancels ∙ ap Some (sym there.1) in
    noted-seen (H ++ e ∷ [])
    ∙ ap (map noted_in)
    (cancelled-all H e o it.legal (steps H e it.legal it.longer) there.0 (cancelled-not_opened e.what q it.cancels) is)
    ∙ noted-set H (o.search - 1) (cancelled (seen H o)) (noted_at s (noted_of H o))
    (ap (λ (x : Standing). noted_at x (noted_of H o)) (sym (cancelled-stands H e q o s it)))
    ∙ ap (λ (k : ℕ). set (all_noted H) (k - 1) (noted_at s (noted_of H o))) there.1

-- Any other entry.

pub quiet-noted : (H : List Entry) (e : Entry) → (H ≡ []) ⊎ IsLegal H → IsLegal (H ++ e ∷ []) → opening_in e.what ≡ None →
    told_in e.what ≡ None → cancelled_in e.what ≡ None → all_noted (H ++ e ∷ []) ≡ all_noted H
quiet-noted H e legal longer opens told cancels =
    ⊎_elim
    (λ (none : H ≡ []).
    let same : openings (H ++ e ∷ []) ≡ openings H =
    openings-grow H e ∙ ap (λ (x : Option Opening). openings H ++ cons_option x []) opens ∙ append-nil (openings H) in
    let empty : openings H ≡ [] = ap openings none in
    ap (map (noted_of (H ++ e ∷ []))) (same ∙ empty) ∙ ap (map (noted_of H)) (sym empty))
    (λ (here : IsLegal H).
    noted-seen (H ++ e ∷ [])
    ∙ ap (map noted_in) (quiet-all H e here (steps H e here longer) opens told cancels)
    ∙ sym (noted-seen H))
    legal

pub quiet-leases : (H : List Entry) (e : Entry) → lease_in e.what ≡ None → all_leases (H ++ e ∷ []) ≡ all_leases H
quiet-leases H e none =
    all_leases-grow H e ∙ ap (λ (x : Option LeasedRun). all_leases H ++ cons_option x []) none ∙ append-nil (all_leases H)

-- A search that tells goes on to stand as it does.

telling-ended : (s : Standing) → tells s ≡ true → is_active s ≡ false
telling-ended Searching h = absurd (true≢false (sym h))
telling-ended (Verifying c) h = absurd (true≢false (sym h))
telling-ended (Confirmed c) h = refl
telling-ended (Vindicated c) h = refl
telling-ended NoCulprit h = refl
telling-ended Inconclusive h = refl
telling-ended Cancelled h = refl

pub told-stays : (H : List Entry) (e : Entry) (o : Opening) (n : ℕ) (s : Standing) → IsLegal (H ++ e ∷ []) →
    opening_numbered H n ≡ Some o → standing (H ++ e ∷ []) o ≡ s → tells (standing H o) ≡ true → tells s ≡ true
told-stays H e o n s longer known is told =
    let there = opening-there H n o known in
    ap tells (sym is ∙ (end-final H (e ∷ []) o longer there.0 (telling-ended (standing H o) told)).0) ∙ told
