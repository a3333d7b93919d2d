-- Which reports are evidence is read off what the search came to: late ones are where its runs ended it, whatever came
-- between, as such an end stays.
use Rattle.std.proofs.Common.{◌≡◌, ℕ, ◌+◌, ◌<◌, ◌==◌, Bool, true, false, not, ◌&&◌, ◌||◌, if◌then◌else◌, List, [], ◌∷◌, ◌++◌, length, drop, find, get_or, Contains, Option, Some, None, refl, sym, ap, ap₂, subst, ◌∙◌, append_assoc, append-nil, arith, is_some, true≢false, ⊎_elim}
use Rattle.std.specs.List.{cons_option, list_any}
use Rattle.std.specs.Option.{is_none, option_and_then, option_or}
use Rattle.std.proofs.lemmas.Bool.{and_parts, cases_Bool}
use Rattle.std.proofs.lemmas.Bool.Decides.{nat_tests}
use Rattle.std.proofs.lemmas.List.Elements.{filter_map-append}
use Rattle.std.proofs.lemmas.List.Folds.{find-append}
use Rattle.farm_types.specs.declared.stage.Stage.{Stage}
use Rattle.farm_types.specs.declared.stage.Stage.TheVariants.{Search, Verify}
use Rattle.threshold_pick.specs.HiddenBlocks.{is_hidden}
use Rattle.weight_exact.specs.Share.{reached}
use Rattle.weight_exact.specs.declared.run.Run.{Run}
use Rattle.weight_exact.specs.declared.run.Verdict.{Verdict}
use Rattle.farm_entry.specs.Decision.{fate_at, is_past_budget, run_with}
use Rattle.farm_entry.specs.History.{all_leases, cancelled_in, lease_in, lease_of, opening_in, opening_numbered, openings, report_in, run_of, runs, same_stage, skipped, was_cancelled, went_over}
use Rattle.farm_entry.specs.Legal.{AreNext, IsLegal}
use Rattle.farm_entry.specs.Setup.{setup_of}
use Rattle.farm_entry.specs.Standing.{at_bar, is_searching, standing}
use Rattle.farm_entry.specs.declared.entry.Entry.{Entry}
use Rattle.farm_entry.specs.declared.entry.Fate.TheVariants.{Counted, Late, Over}
use Rattle.farm_entry.specs.declared.entry.What.{What}
use Rattle.farm_entry.specs.declared.entry.What.TheVariants.{Founded, Opened, Leased, Reported, Skipped, Cancelled, Ordered, Carried, Closed}
use Rattle.farm_entry.specs.declared.lease.LeasedRun.{LeasedRun}
use Rattle.farm_entry.specs.declared.lease.ReportedRun.{ReportedRun}
use Rattle.farm_entry.specs.declared.opening.Opening.{Opening}
use Rattle.farm_entry.specs.declared.standing.Standing.{Standing}
use Rattle.farm_entry.specs.declared.standing.Standing.TheVariants.{Searching, Verifying, Confirmed, Vindicated, NoCulprit, Inconclusive, Cancelled as WasCancelled}
use Rattle.farm_laws.proofs.Ends.{Kept, over-kept, runs-kept, not_searching-kept}
use Rattle.farm_laws.proofs.EntryParts.{reported-facts}
use Rattle.farm_laws.proofs.Filters.{was_cancelled-grow}
use Rattle.farm_laws.proofs.Induct.{IsLegal-first, IsLegal-rest, grown}
use Rattle.farm_laws.proofs.Known.{leases-known}
use Rattle.farm_laws.proofs.Numbered.{lease-there, no_report, opening-found, opening-there}
use Rattle.farm_laws.proofs.Opened.{opened-stays}
use Rattle.farm_laws.proofs.RunSteps.{fate-here}
use Rattle.farm_laws.proofs.Standings.{is_searching-parts}
use Rattle.farm_laws.proofs.Stepped.{Stepped, stepped}
use Rattle.farm_laws.specs.Openings.{HasOpening}
use Rattle.plain_history.proofs.Items.{drop-at}
use Rattle.std.proofs.lemmas.List.Elements.{All-contains}
use Rattle.search_evidence.specs.Kept.{cancels, ended_by_runs, is_number, is_timely, kept_run, kept_runs}
use Rattle.search_evidence.specs.Written.{ended_by_skips, evidence_runs, is_evidence, reported_run, run_added, runs_added}

-- Where a search isn't searching, it stays as it is whether its runs ended it.

record Quiet (P G : List Entry) (o : Opening) : Type 0 where
  kept : Kept P G o
  over : went_over G o.search ≡ went_over P o.search

ended_by_runs-stays : (P K : List Entry) (o : Opening) → IsLegal P → AreNext P K → Contains (openings P) o →
    is_searching (standing P o) ≡ false → ended_by_runs (P ++ K) o ≡ ended_by_runs P o
ended_by_runs-stays P K o legal next there idle =
    let quiet : Quiet P (P ++ K) o =
    grown (λ (G : List Entry). Quiet P G o)
    (λ G e is q s. record {
      kept = record {
        opened = opened-stays G e o q.kept.opened;
        runs_are = runs-kept G e o is q.kept.opened s q.kept.not_searching ∙ q.kept.runs_are;
        not_searching = not_searching-kept G e o is q.kept.opened s q.kept.not_searching;
      };
      over = over-kept G e o is q.kept.opened s q.kept.not_searching ∙ q.over;
    })
    P K legal
    (record { kept = record { opened = there; runs_are = refl; not_searching = idle }; over = refl }) next in
    λ i. quiet.over i || is_some (reached (setup_of o) (quiet.kept.runs_are i))

-- Which reports are evidence, by the parts of the standing.

searching-evidence : (cancelled over hidden : Bool) (n : Option ℕ) →
    (not cancelled && (not over && (is_none n && not hidden))) ≡ true →
    (not cancelled && not (not over && is_none n && hidden)) ≡ true
searching-evidence true over hidden n h = absurd (true≢false (sym h))
searching-evidence false true hidden n h = absurd (true≢false (sym h))
searching-evidence false false hidden (Some i) h = absurd (true≢false (sym h))
searching-evidence false false true None h = absurd (true≢false (sym h))
searching-evidence false false false None h = refl

quiet-evidence : (cancelled over hidden : Bool) (n : Option ℕ) → cancelled ≡ false →
    (not cancelled && (not over && (is_none n && not hidden))) ≡ false →
    (not cancelled && not (not over && is_none n && hidden)) ≡ (over || is_some n)
quiet-evidence true over hidden n fresh h = absurd (true≢false fresh)
quiet-evidence false true hidden n fresh h = refl
quiet-evidence false false hidden (Some i) fresh h = refl
quiet-evidence false false true None fresh h = refl
quiet-evidence false false false None fresh h = absurd (true≢false h)

-- A report of a search run is timely exactly where the search is searching.

other-stage : (s : Stage) → same_stage s Search ≡ true → same_stage s Verify ≡ false
other-stage Search h = refl
other-stage Verify h = absurd (true≢false (sym h))

timely-here : (here past : Bool) → here ≡ true →
    is_timely (if here then (if past then Over else Counted) else Late) ≡ true
timely-here true true h = refl
timely-here true false h = refl
timely-here false past h = absurd (true≢false (sym h))

late-here : (here few : Bool) → here ≡ false → is_timely (if here && few then Counted else Late) ≡ false
late-here true few h = absurd (true≢false h)
late-here false few h = refl

timely-searching : (st : Standing) (H : List Entry) (o : Opening) (l : LeasedRun) (v : Verdict) →
    same_stage l.stage Search ≡ true →
    is_timely (fate_at st H o l v) ≡ is_searching st
timely-searching Searching H o l v here =
    timely-here (same_stage l.stage Search) (is_past_budget H o (run_with l v)) here
timely-searching (Verifying c) H o l v here = late-here (same_stage l.stage Verify) _ (other-stage l.stage here)
timely-searching (Confirmed c) H o l v here = refl
timely-searching (Vindicated c) H o l v here = refl
timely-searching NoCulprit H o l v here = refl
timely-searching Inconclusive H o l v here = refl
timely-searching WasCancelled H o l v here = refl

-- What is known stays known in a longer history.

lease_of-longer : (P K : List Entry) (run : ℕ) (l : LeasedRun) → lease_of P run ≡ Some l →
    lease_of (P ++ K) run ≡ Some l
lease_of-longer P K run l h =
    ap (find (λ (x : LeasedRun). x.run == run)) (filter_map-append (λ (e : Entry). lease_in e.what) P K)
    ∙ find-append (λ (x : LeasedRun). x.run == run) (all_leases P) (all_leases K)
    ∙ ap (λ (x : Option LeasedRun). option_or x (lease_of K run)) h

opening_numbered-longer : (P K : List Entry) (s : ℕ) (o : Opening) → opening_numbered P s ≡ Some o →
    opening_numbered (P ++ K) s ≡ Some o
opening_numbered-longer P K s o h =
    ap (find (λ (x : Opening). x.search == s)) (filter_map-append (λ (e : Entry). opening_in e.what) P K)
    ∙ find-append (λ (x : Opening). x.search == s) (openings P) (openings K)
    ∙ ap (λ (x : Option Opening). option_or x (opening_numbered K s)) h

-- a search whose run was handed out was opened before
opened-before : (P K : List Entry) (o : Opening) (run : ℕ) (l : LeasedRun) → IsLegal P → IsLegal (P ++ K) →
    Contains (openings (P ++ K)) o → lease_of P run ≡ Some l → l.search ≡ o.search → Contains (openings P) o
opened-before P K o run l legal longer there known same =
    let has : HasOpening P l.search =
    All-contains (λ (x : LeasedRun). HasOpening P x.search) (all_leases P) l (leases-known P legal)
    (lease-there P run l known).0 in
    let found : opening_numbered P o.search ≡ Some has.0 = ap (opening_numbered P) (sym same) ∙ has.1 in
    let both : Some has.0 ≡ Some o =
    sym (opening_numbered-longer P K o.search has.0 found) ∙ opening-found (P ++ K) o longer there in
    let it : has.0 ≡ o = cc in
    (opening-there P o.search o (found ∙ ap Some it)).0

-- The run of a report, by its parts.

abbrev chosen : (here : Bool) → Run → Option Run
chosen here r = if here then Some r else None

reported_run-is : (H : List Entry) (s : ℕ) (r : ReportedRun) (l : LeasedRun) → lease_of H r.run ≡ Some l →
    reported_run H s r ≡ chosen (l.search == s && same_stage l.stage Search) (run_with l r.verdict)
reported_run-is H s r l known = ap (option_and_then (run_of s Search r.verdict)) known

same-choice : (written kept here : Bool) (r : Run) → (here ≡ true → written ≡ kept) →
    (if written then chosen here r else None) ≡ (if kept then chosen here r else None)
same-choice written kept true r same = ap (λ (b : Bool). if b then Some r else None) (same refl)
same-choice true true false r same = refl
same-choice true false false r same = refl
same-choice false true false r same = refl
same-choice false false false r same = refl

-- A report of an opened search, before it was cancelled: it is evidence exactly where it is timely, or the search was
-- ended by its runs.
written-is : (P K : List Entry) (o : Opening) (timely : Bool) → IsLegal P → AreNext P K → Contains (openings P) o →
    was_cancelled P o.search ≡ false → timely ≡ is_searching (standing P o) →
    is_evidence P o ≡ (ended_by_runs (P ++ K) o || timely)
written-is P K o timely legal next there fresh is = ⊎_elim
    (λ (searching : is_searching (standing P o) ≡ true).
    searching-evidence (was_cancelled P o.search) (went_over P o.search)
    (is_hidden (setup_of o) (runs P o.search) (skipped P o.search)) (at_bar P o)
    (sym (is_searching-parts P o) ∙ searching)
    ∙ sym (or-true (ended_by_runs (P ++ K) o) timely (is ∙ searching)))
    (λ (idle : is_searching (standing P o) ≡ false).
    quiet-evidence (was_cancelled P o.search) (went_over P o.search)
    (is_hidden (setup_of o) (runs P o.search) (skipped P o.search)) (at_bar P o) fresh
    (sym (is_searching-parts P o) ∙ idle)
    ∙ sym (ended_by_runs-stays P K o legal next there idle)
    ∙ sym (or-false (ended_by_runs (P ++ K) o) timely (is ∙ idle)))
    (cases_Bool (is_searching (standing P o)))
  where
    or-true : (a b : Bool) → b ≡ true → (a || b) ≡ true
    or-true true b h = refl
    or-true false b h = h

    or-false : (a b : Bool) → b ≡ false → (a || b) ≡ a
    or-false true b h = refl
    or-false false b h = h

-- the run of a report, by what was known when it was made and by the whole history
report-kept : (P K : List Entry) (e : Entry) (o : Opening) (r : ReportedRun) → IsLegal P → IsLegal (P ++ K) →
    AreNext P K → Stepped P e.at e.what → report_in e.what ≡ Some r → Contains (openings (P ++ K)) o →
    was_cancelled P o.search ≡ false →
    (if is_evidence P o then reported_run P o.search r else None)
    ≡ kept_run (P ++ K) o.search (ended_by_runs (P ++ K) o) r
report-kept P K e o r legal longer next s is there fresh =
    let facts = reported-facts P e.at e.what r is s in
    let l = facts.lease in
    let here : Bool = l.search == o.search && same_stage l.stage Search in
    let run = run_with l r.verdict in
    let kept : Bool = ended_by_runs (P ++ K) o || is_timely r.fate in
    let written : here ≡ true → is_evidence P o ≡ kept =
    λ yes.
    let parts = and_parts (l.search == o.search) (same_stage l.stage Search) yes in
    let same : l.search ≡ o.search = grind (arith, nat_tests, parts.0) in
    let opened : Contains (openings P) o = opened-before P K o r.run l legal longer there facts.known same in
    let timely : is_timely r.fate ≡ is_searching (standing P o) =
    ap is_timely (facts.ruled ∙ fate-here P o l r.verdict legal opened same)
    ∙ timely-searching (standing P o) P o l r.verdict parts.1 in
    written-is P K o (is_timely r.fate) legal next opened fresh timely in
    ap (λ (x : Option Run). if is_evidence P o then x else None) (reported_run-is P o.search r l facts.known)
    ∙ same-choice (is_evidence P o) kept here run written
    ∙ ap (λ (x : Option Run). if kept then x else None)
    (sym (reported_run-is (P ++ K) o.search r l (lease_of-longer P K r.run l facts.known)))

-- what an entry without a report adds
added-none : (b : Bool) (f : ReportedRun → Option Run) (x : Option ReportedRun) → x ≡ None →
    (if b then option_and_then f x else None) ≡ None
added-none true f x is = ap (option_and_then f) is
added-none false f x is = refl

-- the run that an entry adds, by what was known before it and by the whole history
entry-kept_by : (P K : List Entry) (e : Entry) (o : Opening) (x : Option ReportedRun) → report_in e.what ≡ x →
    IsLegal (P ++ e ∷ K) → Contains (openings (P ++ e ∷ K)) o → was_cancelled P o.search ≡ false →
    run_added P o e ≡ option_and_then (kept_run (P ++ e ∷ K) o.search (ended_by_runs (P ++ e ∷ K) o)) (report_in e.what)
entry-kept_by P K e o None is longer there fresh =
    added-none (is_evidence P o) (reported_run P o.search) (report_in e.what) is
    ∙ sym (ap (option_and_then (kept_run (P ++ e ∷ K) o.search (ended_by_runs (P ++ e ∷ K) o))) is)
entry-kept_by [] K e o (Some r) is longer there fresh =
    let none : Some r ≡ None = sym is ∙ no_report e.what longer.0 in
    absurd (true≢false (ap is_some none))
entry-kept_by (p ∷ P) K e o (Some r) is longer there fresh =
    let before = p ∷ P in
    let some : before ≡ [] → ⊥ = λ h. let b : true ≡ false = cc in true≢false b in
    let next : AreNext before (e ∷ K) = IsLegal-rest before (e ∷ K) some longer in
    ap (λ (y : Option ReportedRun).
    if is_evidence before o then option_and_then (reported_run before o.search) y else None) is
    ∙ report-kept before (e ∷ K) e o r (IsLegal-first before (e ∷ K) some longer) longer next
    (stepped before e next.0) is there fresh
    ∙ sym (ap (option_and_then (kept_run (before ++ e ∷ K) o.search (ended_by_runs (before ++ e ∷ K) o))) is)

-- Behind the cancellation of a search nothing is added.

no-report : (s : ℕ) (w : What) → cancels s w ≡ true → report_in w ≡ None
no-report s (Cancelled key search) h = refl
no-report s (Founded x) h = refl
no-report s (Opened x) h = refl
no-report s (Leased k w n q t p d) h = refl
no-report s (Reported n v f) h = absurd (true≢false (sym h))
no-report s (Skipped n f) h = refl
no-report s (Ordered k a n c q d) h = refl
no-report s (Carried c d) h = refl
no-report s Closed h = refl

cancels-any : (s : ℕ) (x : Option ℕ) → list_any (λ (n : ℕ). n == s) (cons_option x []) ≡ is_number s x
cancels-any s None = refl
cancels-any s (Some n) = or-none (n == s)
  where
    or-none : (b : Bool) → (b || false) ≡ b
    or-none true = refl
    or-none false = refl

cancelled-step : (H : List Entry) (e : Entry) (s : ℕ) →
    was_cancelled (H ++ e ∷ []) s ≡ (was_cancelled H s || cancels s e.what)
cancelled-step H e s =
    was_cancelled-grow H e s ∙ ap (λ (b : Bool). was_cancelled H s || b) (cancels-any s (cancelled_in e.what))

unwritten : (b c : Bool) (x : Option Run) → b ≡ true → (if not b && c then x else None) ≡ None
unwritten true c x h = refl
unwritten false c x h = absurd (true≢false (sym h))

behind-cancelled : (P K : List Entry) (o : Opening) → was_cancelled P o.search ≡ true → runs_added P o K ≡ []
behind-cancelled P [] o was = refl
behind-cancelled P (e ∷ K) o was =
    let still : was_cancelled (P ++ e ∷ []) o.search ≡ true =
    cancelled-step P e o.search ∙ ap (λ (b : Bool). b || cancels o.search e.what) was in
    ap₂ (λ (x : Option Run) (rest : List Run). cons_option x rest)
    (unwritten (was_cancelled P o.search) (not (ended_by_skips P o))
    (option_and_then (reported_run P o.search) (report_in e.what)) was)
    (behind-cancelled (P ++ e ∷ []) K o still)

-- So going through the entries once, up to the cancellation, gives the evidence.

pub evidence-kept : (H : List Entry) (o : Opening) → IsLegal H → Contains (openings H) o → (P K : List Entry) →
    P ++ K ≡ H →
    was_cancelled P o.search ≡ false → runs_added P o K ≡ kept_runs H o.search (ended_by_runs H o) K
evidence-kept H o legal there P [] whole fresh = refl
evidence-kept H o legal there P (e ∷ K) whole fresh =
    let more = kept_runs H o.search (ended_by_runs H o) K in
    let kept : Option Run = option_and_then (kept_run H o.search (ended_by_runs H o)) (report_in e.what) in
    ⊎_elim
    (λ (ends : cancels o.search e.what ≡ true).
    let was : was_cancelled (P ++ e ∷ []) o.search ≡ true =
    cancelled-step P e o.search ∙ ap₂ (λ (a b : Bool). a || b) fresh ends in
    ap₂ (λ (x : Option Run) (rest : List Run). cons_option x rest)
    (added-none (is_evidence P o) (reported_run P o.search) (report_in e.what) (no-report o.search e.what ends))
    (behind-cancelled (P ++ e ∷ []) K o was)
    ∙ sym (ap (λ (b : Bool). if b then [] else cons_option kept more) ends))
    (λ (goes : cancels o.search e.what ≡ false).
    let on : was_cancelled (P ++ e ∷ []) o.search ≡ false =
    cancelled-step P e o.search ∙ ap₂ (λ (a b : Bool). a || b) fresh goes in
    let here : run_added P o e ≡ kept =
    subst (λ (G : List Entry). run_added P o e ≡ option_and_then (kept_run G o.search (ended_by_runs G o))
    (report_in e.what)) whole
    (entry-kept_by P K e o (report_in e.what) refl (subst IsLegal (sym whole) legal)
    (subst (λ (G : List Entry). Contains (openings G) o) (sym whole) there) fresh) in
    ap₂ (λ (x : Option Run) (rest : List Run). cons_option x rest) here
    (evidence-kept H o legal there (P ++ e ∷ []) K (append_assoc P (e ∷ []) K ∙ whole) on)
    ∙ sym (ap (λ (b : Bool). if b then [] else cons_option kept more) goes))
    (cases_Bool (cancels o.search e.what))

-- Going through a history, from a place on.

pub kept-ends : (H : List Entry) (s : ℕ) (late : Bool) (place : ℕ) (e : Entry) → place < length H →
    e ≡ get_or H place e → cancels s e.what ≡ true → kept_runs H s late (drop place H) ≡ []
kept-ends H s late place e below is ends =
    ap (kept_runs H s late) (drop-at H place e below is)
    ∙ ap (λ (b : Bool). if b then [] else cons_option (option_and_then (kept_run H s late) (report_in e.what))
    (kept_runs H s late (drop (place + 1) H))) ends

pub kept-next : (H : List Entry) (s : ℕ) (late : Bool) (place : ℕ) (e : Entry) (runs : List Run) (run : Option Run) →
    place < length H → e ≡ get_or H place e → cancels s e.what ≡ false →
    run ≡ option_and_then (kept_run H s late) (report_in e.what) →
    (runs ++ cons_option run []) ++ kept_runs H s late (drop (place + 1) H) ≡ runs ++ kept_runs H s late (drop place H)
kept-next H s late place e runs run below is goes made =
    let more = kept_runs H s late (drop (place + 1) H) in
    append_assoc runs (cons_option run []) more
    ∙ ap (λ (rest : List Run). runs ++ rest)
    (before-more run more
    ∙ ap (λ (x : Option Run). cons_option x more) made
    ∙ sym (ap (λ (b : Bool). if b then [] else cons_option (option_and_then (kept_run H s late)
    (report_in e.what)) more) goes)
    ∙ sym (ap (kept_runs H s late) (drop-at H place e below is)))
  where
    before-more : (x : Option Run) (more : List Run) → cons_option x [] ++ more ≡ cons_option x more
    before-more None more = refl
    before-more (Some x) more = refl

-- what was gathered where nothing more is kept is the evidence
pub kept-whole : (H : List Entry) (o : Opening) (late : Bool) (runs rest : List Run) → IsLegal H →
    Contains (openings H) o →
    late ≡ ended_by_runs H o → runs ++ rest ≡ kept_runs H o.search late H → rest ≡ [] → runs ≡ evidence_runs H o
kept-whole H o late runs rest legal there is whole none =
    sym (append-nil runs)
    ∙ ap (λ (x : List Run). runs ++ x) (sym none)
    ∙ whole
    ∙ ap (λ (b : Bool). kept_runs H o.search b H) is
    ∙ sym (evidence-kept H o legal there [] H refl refl)
