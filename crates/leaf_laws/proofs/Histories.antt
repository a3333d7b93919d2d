-- The runs that are the evidence of a search, in a legal history: where they are, and how far judge comes with them.
use Rattle.std.proofs.Common.{◌≡◌, ◌≤◌, ◌+◌, ℕ, Bool, true, false, not, ◌&&◌, ◌==◌, List, ◌∷◌, ◌++◌, length, All, Contains, if◌then◌else◌, Option, Some, None, refl, sym, ap, subst, ◌∙◌, arith, append-nil, append_assoc, true≢false, [], ◌||◌}
use Rattle.std.specs.List.{cons_option, filter_map, list_any}
use Rattle.std.specs.Option.{is_none, option_and_then}
use Rattle.std.proofs.lemmas.Bool.{and_parts}
use Rattle.std.proofs.lemmas.Bool.Decides.{nat_tests}
use Rattle.std.proofs.lemmas.List.Elements.{All-append, All-cons, All-contains, All-nil}
use Rattle.std.proofs.lemmas.Option.{none-some}
use Rattle.farm_types.specs.declared.stage.Stage.{Stage}
use Rattle.farm_types.specs.declared.stage.Stage.TheVariants.{Search, Verify}
use Rattle.threshold_pick.specs.HiddenBlocks.{is_hidden}
use Rattle.weight_exact.specs.Weights.{Setup, suspects}
use Rattle.weight_exact.specs.declared.run.Run.{Run}
use Rattle.farm_entry.specs.Decision.{fate_at, is_past_budget, run_with}
use Rattle.farm_entry.specs.History.{all_leases, counted_run, is_counted, is_of_search, is_over, lease_of, opening_numbered, openings, report_in, reports, run_of, runs, same_stage, skipped, was_cancelled, went_over}
use Rattle.farm_entry.specs.Legal.{IsFounding, IsLegal}
use Rattle.farm_entry.specs.Setup.{setup_of}
use Rattle.farm_entry.specs.Standing.{at_bar, is_searching, standing}
use Rattle.farm_entry.specs.declared.entry.Entry.{Entry}
use Rattle.farm_entry.specs.declared.lease.LeasedRun.{LeasedRun}
use Rattle.farm_entry.specs.declared.lease.ReportedRun.{ReportedRun}
use Rattle.farm_entry.specs.declared.opening.Opening.{Opening}
use Rattle.farm_laws.specs.Openings.{HasOpening}
use Rattle.farm_laws.proofs.EntryParts.{reported-facts}
use Rattle.farm_laws.proofs.Filters.{counted-grow, lease_of-stays, opening_numbered-stays, went_over-grow}
use Rattle.farm_laws.proofs.Induct.{each_legal}
use Rattle.farm_laws.proofs.InRange.{lease-fits}
use Rattle.farm_laws.proofs.Known.{leases-known, reports-known}
use Rattle.farm_laws.proofs.Numbered.{lease-there, no_report, opening-found, opening-there}
use Rattle.farm_laws.proofs.RunSteps.{chosen_run, counted_run-is, fate-here}
use Rattle.farm_laws.proofs.Standings.{is_searching-parts}
use Rattle.farm_laws.proofs.Stepped.{Stepped}
use Rattle.search_evidence.specs.Written.{evidence_runs, is_evidence, reported_run, run_added, runs_added}
use Rattle.leaf_laws.proofs.Fates.{fate-ruled_by, rerun-over, ruled-counts, ruled-over, ruled_by}
use Rattle.leaf_laws.proofs.Inquiries.{IsAtSuspect}
use Rattle.leaf_laws.proofs.Progresses.{HasCome, come-more, come-none, counted_with, goes_on, is_past}

same-number : (a b : ℕ) → a == b ≡ true → a ≡ b
same-number a b h = grind (arith, nat_tests)

-- An entry more.

pub option-append : {X : Type 0} (o : Option X) (xs ys : List X) → cons_option o (xs ++ ys) ≡ cons_option o xs ++ ys
option-append None xs ys = refl
option-append (Some x) xs ys = refl

pub runs_added-grow : (before : List Entry) (o : Opening) (H : List Entry) (e : Entry) →
    runs_added before o (H ++ e ∷ []) ≡ runs_added before o H ++ cons_option (run_added (before ++ H) o e) []
runs_added-grow before o [] e =
    ap (λ (G : List Entry). cons_option (run_added G o e) []) (sym (append-nil before))
runs_added-grow before o (x ∷ H) e =
    let rest = runs_added-grow (before ++ x ∷ []) o H e in
    ap (cons_option (run_added before o x)) rest
    ∙ option-append (run_added before o x) (runs_added (before ++ x ∷ []) o H) _
    ∙ ap (λ (G : List Entry). runs_added before o (x ∷ H) ++ cons_option (run_added G o e) [])
    (append_assoc before (x ∷ []) H)

-- An opening is that of its search, if a search with its number was opened.
abbrev pub IsItsOwn : List Entry → Opening → Type 0
IsItsOwn H o = (x : Opening) → opening_numbered H o.search ≡ Some x → x ≡ o

pub own-before : (H : List Entry) (e : Entry) (o : Opening) → IsItsOwn (H ++ e ∷ []) o → IsItsOwn H o
own-before H e o own x is = own x (opening_numbered-stays H e o.search x is)

pub own-opened : (H : List Entry) (o : Opening) → IsLegal H → Contains (openings H) o → IsItsOwn H o
own-opened H o legal there x is =
    let same : Some x ≡ Some o = sym is ∙ opening-found H o legal there in
    let it : x ≡ o = cc in it

-- a search of which a run was handed out is open
pub own-leased : (H : List Entry) (o : Opening) (run : ℕ) (l : LeasedRun) → IsLegal H → IsItsOwn H o →
    lease_of H run ≡ Some l →
    l.search ≡ o.search → Contains (openings H) o
own-leased H o run l legal own known same =
    let has : HasOpening H l.search =
    All-contains (λ (x : LeasedRun). HasOpening H x.search) (all_leases H) l (leases-known H legal)
    (lease-there H run l known).0 in
    let is : opening_numbered H o.search ≡ Some has.0 = ap (opening_numbered H) (sym same) ∙ has.1 in
    subst (λ (x : Opening). Contains (openings H) x) (own has.0 is) (opening-there H o.search has.0 is).0

-- Where the runs are.

-- a run that an entry adds to the evidence: of a report and its lease
pub record Added (H : List Entry) (o : Opening) (rep : Option ReportedRun) (x : Run) : Type 0 where
  pub report : ReportedRun
  pub reported : rep ≡ Some report
  pub seen : is_evidence H o ≡ true
  pub lease : LeasedRun
  pub known : lease_of H report.run ≡ Some lease
  pub of_search : lease.search ≡ o.search
  pub at_stage : same_stage lease.stage Search ≡ true
  pub run : run_with lease report.verdict ≡ x

stage-search : (s : Stage) → same_stage s Search ≡ true → s ≡ Search
stage-search Search h = refl
stage-search Verify h = absurd (true≢false (sym h))

if-some : {X : Type 0} (b : Bool) (x y : X) → (if b then Some x else None) ≡ Some y → (b ≡ true) × (x ≡ y)
if-some true x y h = (refl, cc)
if-some false x y h = absurd (none-some y h)

added-lease : (H : List Entry) (o : Opening) (x : Run) (r : ReportedRun) (l : Option LeasedRun) →
    is_evidence H o ≡ true → lease_of H r.run ≡ l → option_and_then (run_of o.search Search r.verdict) l ≡ Some x →
    Added H o (Some r) x
added-lease H o x r None seen known is = absurd (none-some x is)
added-lease H o x r (Some l) seen known is =
    let made = if-some (l.search == o.search && same_stage l.stage Search) (run_with l r.verdict) x is in
    let parts = and_parts (l.search == o.search) (same_stage l.stage Search) made.0 in
    record {
      report = r;
      reported = refl;
      seen = seen;
      lease = l;
      known = known;
      of_search = same-number l.search o.search parts.0;
      at_stage = parts.1;
      run = made.1;
    }

added-report : (H : List Entry) (o : Opening) (x : Run) (evidence : Bool) (rep : Option ReportedRun) →
    is_evidence H o ≡ evidence →
    (if evidence then option_and_then (reported_run H o.search) rep else None) ≡ Some x → Added H o rep x
added-report H o x false rep seen is = absurd (none-some x is)
added-report H o x true None seen is = absurd (none-some x is)
added-report H o x true (Some r) seen is = added-lease H o x r (lease_of H r.run) seen refl is

pub added-from : (H : List Entry) (o : Opening) (e : Entry) (x : Run) → run_added H o e ≡ Some x →
    Added H o (report_in e.what) x
added-from H o e x is = added-report H o x (is_evidence H o) (report_in e.what) refl is

added-at : (H : List Entry) (o : Opening) (e : Entry) (x : Run) → IsLegal H → IsItsOwn H o → run_added H o e ≡ Some x →
    IsAtSuspect (suspects (setup_of o)) x
added-at H o e x legal own is =
    let from = added-from H o e x is in
    let l = from.lease in
    let there = own-leased H o from.report.run l legal own from.known from.of_search in
    let fits = lease-fits H o l legal there (lease-there H from.report.run l from.known).0 from.of_search in
    let at = fits.searching (stage-search l.stage from.at_stage) in
    let position : l.position ≡ x.position = ap (λ (y : Run). y.position) from.run in
    (omega (arith, at.0, position), omega (arith, at.1, position))

All-one : {X : Type 0} (P : X → Type 0) (o : Option X) → ((x : X) → o ≡ Some x → P x) → All P (cons_option o [])
All-one P None h = All-nil P
All-one P (Some x) h = All-cons P x [] (h x refl) (All-nil P)

pub no_report-added : (H : List Entry) (o : Opening) (evidence : Bool) (rep : Option ReportedRun) → rep ≡ None →
    (if evidence then option_and_then (reported_run H o.search) rep else None) ≡ None
no_report-added H o true rep none = ap (option_and_then (reported_run H o.search)) none
no_report-added H o false rep none = refl

pub evidence-founding : (e : Entry) (o : Opening) → IsFounding e.what → evidence_runs (e ∷ []) o ≡ []
evidence-founding e o founding =
    ap (λ (x : Option Run). cons_option x [])
    (no_report-added [] o (is_evidence [] o) (report_in e.what) (no_report e.what founding))

each-at : (H : List Entry) → IsLegal H → (o : Opening) → IsItsOwn H o →
    All (IsAtSuspect (suspects (setup_of o))) (evidence_runs H o)
each-at =
    each_legal (λ (H : List Entry). (o : Opening) → IsItsOwn H o →
    All (IsAtSuspect (suspects (setup_of o))) (evidence_runs H o))
    (λ e founding o own.
    let P : Run → Type 0 = IsAtSuspect (suspects (setup_of o)) in
    subst (λ (xs : List Run). All P xs) (sym (evidence-founding e o founding)) (All-nil P))
    (λ H e legal all s o own.
    let P : Run → Type 0 = IsAtSuspect (suspects (setup_of o)) in
    let before = own-before H e o own in
    subst (λ (xs : List Run). All P xs) (sym (runs_added-grow [] o H e))
    (All-append P (evidence_runs H o) (cons_option (run_added H o e) []) (all o before)
    (All-one P (run_added H o e) (λ x is. added-at H o e x legal before is))))

pub evidence-at_suspects : (H : List Entry) (o : Opening) → IsLegal H → Contains (openings H) o →
    All (IsAtSuspect (suspects (setup_of o))) (evidence_runs H o)
evidence-at_suspects H o legal there = each-at H legal o (own-opened H o legal there)

-- They are no more than the entries.

length-option : {X : Type 0} (o : Option X) (rest : List X) (n : ℕ) → length rest ≤ n →
    length (cons_option o rest) ≤ n + 1
length-option None rest n few = omega arith
length-option (Some x) rest n few = omega arith

few_added : (before : List Entry) (o : Opening) (H : List Entry) → length (runs_added before o H) ≤ length H
few_added before o [] = omega arith
few_added before o (e ∷ H) =
    omega (
      arith,
      length-option (run_added before o e) (runs_added (before ++ e ∷ []) o H) (length H)
          (few_added (before ++ e ∷ []) o H),
    )

pub length-evidence_runs : (H : List Entry) (o : Opening) → length (evidence_runs H o) ≤ length H
length-evidence_runs H o = few_added [] o H

-- Whether a search goes on, by what ends it: where its reports are evidence, judge knows of each.
goes-by : (cancelled over none hidden : Bool) → (not cancelled && not (not over && none && hidden)) ≡ true →
    (not cancelled && (not over && (none && not hidden))) ≡ (not over && none)
goes-by true over none hidden h = absurd (true≢false (sym h))
goes-by false true none hidden h = refl
goes-by false false true true h = absurd (true≢false (sym h))
goes-by false false true false h = refl
goes-by false false false hidden h = refl

stops-by : (cancelled over none hidden : Bool) → (not cancelled && not (not over && none && hidden)) ≡ false →
    (not cancelled && (not over && (none && not hidden))) ≡ false
stops-by true over none hidden h = refl
stops-by false true none hidden h = refl
stops-by false false true true h = refl
stops-by false false true false h = absurd (true≢false h)
stops-by false false false hidden h = refl

pub evidence-goes : (H : List Entry) (o : Opening) → is_evidence H o ≡ true →
    is_searching (standing H o) ≡ goes_on (setup_of o) (runs H o.search) (went_over H o.search)
evidence-goes H o h =
    is_searching-parts H o
    ∙ goes-by (was_cancelled H o.search) (went_over H o.search) (is_none (at_bar H o))
    (is_hidden (setup_of o) (runs H o.search) (skipped H o.search)) h

pub evidence-stops : (H : List Entry) (o : Opening) → is_evidence H o ≡ false → is_searching (standing H o) ≡ false
evidence-stops H o h =
    is_searching-parts H o
    ∙ stops-by (was_cancelled H o.search) (went_over H o.search) (is_none (at_bar H o))
    (is_hidden (setup_of o) (runs H o.search) (skipped H o.search)) h

-- One report more, by whether it is of the search, at the stage and evidence, and by whether it counts or goes over.

come-same : (s : Setup) (told told' counted counted' : List Run) (over over' : Bool) → HasCome s told counted over →
    told' ≡ told → counted' ≡ counted → over' ≡ over → HasCome s told' counted' over'
come-same s told told' counted counted' over over' come t c v =
    subst (λ (x : List Run). HasCome s x counted' over') (sym t)
    (subst (λ (x : List Run). HasCome s told x over') (sym c)
    (subst (λ (x : Bool). HasCome s told counted x) (sym v) come))

none-chosen : (counts : Bool) (r : Run) (xs : List Run) → xs ++ cons_option (chosen_run counts false r) [] ≡ xs
none-chosen true r xs = append-nil xs
none-chosen false r xs = append-nil xs

one-chosen : (counts : Bool) (r : Run) (xs : List Run) →
    xs ++ cons_option (chosen_run counts true r) [] ≡ (if counts then xs ++ r ∷ [] else xs)
one-chosen true r xs = refl
one-chosen false r xs = append-nil xs

over-left : (over past same : Bool) → (past && same) ≡ false → (over || ((past && same) || false)) ≡ over
over-left true past same h = refl
over-left false past same h = ap (λ (b : Bool). b || false) h

and-false : (b : Bool) → (b && false) ≡ false
and-false true = refl
and-false false = refl

over-joined : (over past : Bool) → (over || ((past && true) || false)) ≡ (over || past)
over-joined true past = refl
over-joined false true = refl
over-joined false false = refl

-- how the fate of a report is ruled
record IsRuled (s : Setup) (rs : List Run) (over : Bool) (r : Run) (same at evidence counts past : Bool) : Type 0 where
  late : same ≡ true → at ≡ true → evidence ≡ false → (counts ≡ false) × (past ≡ false)
  ruled : same ≡ true → at ≡ true → evidence ≡ true → (counts ≡ (goes_on s rs over && not (is_past s rs r)))
      × (past ≡ (goes_on s rs over && is_past s rs r))
  rerun : same ≡ true → at ≡ false → past ≡ false

come-by : (s : Setup) (told rs : List Run) (over : Bool) (r : Run) (same at evidence counts past : Bool) →
    HasCome s told rs over →
    IsRuled s rs over r same at evidence counts past →
    HasCome s (told ++ cons_option (chosen_run evidence (same && at) r) [])
    (rs ++ cons_option (chosen_run counts (same && at) r) [])
    (over || ((past && same) || false))
come-by s told rs over r false at evidence counts past come is =
    come-same s told _ rs _ over _ come (none-chosen evidence r told) (none-chosen counts r rs)
    (over-left over past false (and-false past))
come-by s told rs over r true false evidence counts past come is =
    come-same s told _ rs _ over _ come (none-chosen evidence r told) (none-chosen counts r rs)
    (over-left over past true (ap (λ (b : Bool). b && true) (is.rerun refl refl)))
come-by s told rs over r true true false counts past come is =
    let late = is.late refl refl refl in
    come-same s told _ rs _ over _ come (append-nil told)
    (ap (λ (b : Bool). rs ++ cons_option (chosen_run b true r) []) late.0 ∙ append-nil rs)
    (over-left over past true (ap (λ (b : Bool). b && true) late.1))
come-by s told rs over r true true true counts past come is =
    let ruled = is.ruled refl refl refl in
    come-same s (told ++ r ∷ []) _ (counted_with (goes_on s rs over) (is_past s rs r) rs r) _
    (over || (goes_on s rs over && is_past s rs r)) _ (come-more s told rs over r come) refl
    (one-chosen counts r rs ∙ ap (λ (b : Bool). if b then rs ++ r ∷ [] else rs) ruled.0)
    (over-joined over past ∙ ap (λ (b : Bool). over || b) ruled.1)

-- the fate of a report in a legal history is ruled so
fate-ruled : (H : List Entry) (o : Opening) (r : ReportedRun) (l : LeasedRun) →
    (l.search ≡ o.search → r.fate ≡ fate_at (standing H o) H o l r.verdict) →
    IsRuled (setup_of o) (runs H o.search) (went_over H o.search) (run_with l r.verdict) (l.search == o.search)
    (same_stage l.stage Search) (is_evidence H o) (is_counted r.fate) (is_over r.fate)
fate-ruled H o r l fate =
    let past : Bool = is_past_budget H o (run_with l r.verdict) in
    let ruled : (goes : Bool) → is_searching (standing H o) ≡ goes → l.search == o.search ≡ true →
    same_stage l.stage Search ≡ true → r.fate ≡ ruled_by goes past =
    λ goes is same at. fate (same-number l.search o.search same)
    ∙ fate-ruled_by (standing H o) H o l r.verdict at ∙ ap (λ (b : Bool). ruled_by b past) is in
    record {
      late = λ same at stops.
          let late = ruled false (evidence-stops H o stops) same at in (ap is_counted late, ap is_over late);
      ruled = λ same at goes.
          let on : Bool = goes_on (setup_of o) (runs H o.search) (went_over H o.search) in
          let is = ruled on (evidence-goes H o goes) same at in
          (ap is_counted is ∙ ruled-counts on past, ap is_over is ∙ ruled-over on past);
      rerun = λ same at.
          ap is_over (fate (same-number l.search o.search same)) ∙ rerun-over (standing H o) H o l r.verdict at;
    }

-- a search with an entry more

or-nothing : (b : Bool) → (b || false) ≡ b
or-nothing true = refl
or-nothing false = refl

run_added-is : (H : List Entry) (o : Opening) (evidence : Bool) (rep : Option ReportedRun) (r : ReportedRun)
    (l : LeasedRun) →
    rep ≡ Some r → lease_of H r.run ≡ Some l →
    (if evidence then option_and_then (reported_run H o.search) rep else None)
    ≡ chosen_run evidence (l.search == o.search && same_stage l.stage Search) (run_with l r.verdict)
run_added-is H o evidence rep r l is known =
    ap (λ (x : Option ReportedRun). if evidence then option_and_then (reported_run H o.search) x else None) is
    ∙ ap (λ (x : Option LeasedRun).
    if evidence then option_and_then (run_of o.search Search r.verdict) x else None) known

-- a search has come as far as the farm says
abbrev pub Agrees : List Entry → Opening → Type 0
Agrees H o = HasCome (setup_of o) (evidence_runs H o) (runs H o.search) (went_over H o.search)

agrees-step_by : (H : List Entry) (e : Entry) (o : Opening) → IsLegal H → IsItsOwn H o → Stepped H e.at e.what →
    Agrees H o →
    (rep : Option ReportedRun) → report_in e.what ≡ rep →
    runs (H ++ e ∷ []) o.search
    ≡ runs H o.search ++ filter_map (counted_run (H ++ e ∷ []) o.search Search) (cons_option rep []) →
    went_over (H ++ e ∷ []) o.search
    ≡ (went_over H o.search
    || list_any (λ (r : ReportedRun). is_over r.fate && is_of_search o.search (lease_of (H ++ e ∷ []) r.run))
    (cons_option rep [])) →
    Agrees (H ++ e ∷ []) o
agrees-step_by H e o legal own s come None is more past =
    come-same (setup_of o) (evidence_runs H o) _ (runs H o.search) _ (went_over H o.search) _ come
    (runs_added-grow [] o H e
    ∙ ap (λ (x : Option Run). evidence_runs H o ++ cons_option x [])
    (no_report-added H o (is_evidence H o) (report_in e.what) is)
    ∙ append-nil (evidence_runs H o))
    (more ∙ append-nil (runs H o.search))
    (past ∙ or-nothing (went_over H o.search))
agrees-step_by H e o legal own s come (Some r) is more past =
    let facts = reported-facts H e.at e.what r is s in
    let l = facts.lease in
    let longer = H ++ e ∷ [] in
    let still : lease_of longer r.run ≡ Some l = lease_of-stays H e r.run l facts.known in
    let here : Bool = l.search == o.search && same_stage l.stage Search in
    let fate : l.search ≡ o.search → r.fate ≡ fate_at (standing H o) H o l r.verdict =
    λ same. facts.ruled ∙ fate-here H o l r.verdict legal (own-leased H o r.run l legal own facts.known same) same in
    come-same (setup_of o) _ _ _ _ _ _
    (come-by (setup_of o) (evidence_runs H o) (runs H o.search) (went_over H o.search) (run_with l r.verdict)
    (l.search == o.search)
    (same_stage l.stage Search) (is_evidence H o) (is_counted r.fate) (is_over r.fate) come
    (fate-ruled H o r l fate))
    (runs_added-grow [] o H e
    ∙ ap (λ (x : Option Run). evidence_runs H o ++ cons_option x [])
    (run_added-is H o (is_evidence H o) (report_in e.what) r l is facts.known))
    (more ∙ ap (λ (x : Option Run). runs H o.search ++ cons_option x [])
    (counted_run-is longer o.search Search r l still))
    (past ∙ ap (λ (x : Option LeasedRun).
    went_over H o.search || ((is_over r.fate && is_of_search o.search x) || false)) still)

agrees-step : (H : List Entry) (e : Entry) (o : Opening) → IsLegal H → IsItsOwn H o → Stepped H e.at e.what →
    Agrees H o →
    Agrees (H ++ e ∷ []) o
agrees-step H e o legal own s come =
    agrees-step_by H e o legal own s come (report_in e.what) refl
    (counted-grow H e o.search Search (reports-known H legal))
    (went_over-grow H e o.search (reports-known H legal))

-- a founding

reports-founding : (e : Entry) → IsFounding e.what → reports (e ∷ []) ≡ []
reports-founding e founding = ap (λ (x : Option ReportedRun). cons_option x []) (no_report e.what founding)

agrees-founding : (e : Entry) (o : Opening) → IsFounding e.what → Agrees (e ∷ []) o
agrees-founding e o founding =
    come-same (setup_of o) [] _ [] _ false _ (come-none (setup_of o)) (evidence-founding e o founding)
    (ap (filter_map (counted_run (e ∷ []) o.search Search)) (reports-founding e founding))
    (ap (list_any (λ (r : ReportedRun). is_over r.fate && is_of_search o.search (lease_of (e ∷ []) r.run)))
    (reports-founding e founding))

pub each-agrees : (H : List Entry) → IsLegal H → (o : Opening) → IsItsOwn H o → Agrees H o
each-agrees =
    each_legal (λ (H : List Entry). (o : Opening) → IsItsOwn H o → Agrees H o)
    (λ e founding o own. agrees-founding e o founding)
    (λ H e legal all s o own.
    let before = own-before H e o own in
    agrees-step H e o legal before s (all o before))

-- with the evidence of an opened search judge comes as far as the farm says
pub evidence-agrees : (H : List Entry) (o : Opening) → IsLegal H → Contains (openings H) o → Agrees H o
evidence-agrees H o legal there = each-agrees H legal o (own-opened H o legal there)
