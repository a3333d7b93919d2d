-- Judge gives to each run of the evidence the fate that the farm gave to it.
use Rattle.std.proofs.Common.{◌≡◌, ◌+◌, ℕ, Bool, true, false, List, [], ◌∷◌, ◌++◌, map, length, Contains, Option, Some, None, refl, sym, ap, ◌∙◌, append-nil, append_assoc}
use Rattle.std.specs.List.{cons_option}
use Rattle.std.specs.Option.{option_and_then, option_map}
use Rattle.std.proofs.lemmas.List.{map-append}
use Rattle.judge.specs.Answer.{fate_text, fates_text}
use Rattle.judge.specs.Fates.{JudgeProgress, after, at_start, fate}
use Rattle.judge.specs.declared.fate.JudgeFate.{JudgeFate}
use Rattle.weight_exact.specs.Weights.{Setup}
use Rattle.weight_exact.specs.declared.run.Run.{Run}
use Rattle.farm_entry.specs.Decision.{fate_at, fate_of, is_past_budget, run_with}
use Rattle.farm_entry.specs.History.{opening_numbered, openings, report_in, runs, went_over}
use Rattle.farm_entry.specs.Legal.{IsFounding, IsLegal}
use Rattle.farm_entry.specs.Setup.{setup_of}
use Rattle.farm_entry.specs.Standing.{is_searching, standing}
use Rattle.farm_entry.specs.declared.entry.Entry.{Entry}
use Rattle.farm_entry.specs.declared.entry.Fate.{Fate}
use Rattle.farm_entry.specs.declared.lease.LeasedRun.{LeasedRun}
use Rattle.farm_entry.specs.declared.lease.ReportedRun.{ReportedRun}
use Rattle.farm_entry.specs.declared.opening.Opening.{Opening}
use Rattle.farm_laws.proofs.EntryParts.{reported-facts}
use Rattle.farm_laws.proofs.Induct.{each_legal}
use Rattle.farm_laws.proofs.Numbered.{no_report}
use Rattle.farm_laws.proofs.RunSteps.{fate-here}
use Rattle.farm_laws.proofs.Stepped.{Stepped}
use Rattle.search_evidence.specs.Written.{evidence_runs, is_evidence, run_added}
use Rattle.leaf_laws.specs.Judgements.{evidence_fates, fate_added, fate_lines, fates_added, judge_fate, numbered, with_number}
use Rattle.leaf_laws.proofs.Fates.{fate-ruled_by, ruled_by}
use Rattle.leaf_laws.proofs.Histories.{Added, IsItsOwn, added-from, each-agrees, evidence-founding, evidence-goes, no_report-added, option-append, own-before, own-leased, own-opened, runs_added-grow}
use Rattle.leaf_laws.proofs.Progresses.{come-fate, fate_by, fates-more, fates_by, is_past, progress_of}

-- An entry more.

fates_added-grow : (before : List Entry) (o : Opening) (H : List Entry) (e : Entry) →
    fates_added before o (H ++ e ∷ []) ≡ fates_added before o H ++ cons_option (fate_added (before ++ H) o e) []
fates_added-grow before o [] e =
    ap (λ (G : List Entry). cons_option (fate_added G o e) []) (sym (append-nil before))
fates_added-grow before o (x ∷ H) e =
    ap (cons_option (fate_added before o x)) (fates_added-grow (before ++ x ∷ []) o H e)
    ∙ option-append (fate_added before o x) (fates_added (before ++ x ∷ []) o H) _
    ∙ ap (λ (G : List Entry). fates_added before o (x ∷ H) ++ cons_option (fate_added G o e) [])
    (append_assoc before (x ∷ []) H)

-- the fate of an entry, by what it adds
abbrev fate_with : Option ReportedRun → Option Run → Option Fate
fate_with rep added = option_and_then (λ (x : Run). option_map (λ (r : ReportedRun). r.fate) rep) added

-- judge's word for a fate by the two tests
judge-ruled : (goes past : Bool) → judge_fate (ruled_by goes past) ≡ fate_by goes past
judge-ruled true true = refl
judge-ruled true false = refl
judge-ruled false past = refl

-- what judge says of the run that an entry adds, which the farm said of it
same-fate : (H : List Entry) (e : Entry) (o : Opening) (x : Run) → IsLegal H → IsItsOwn H o → Stepped H e.at e.what →
    (from : Added H o (report_in e.what) x) →
    fate (setup_of o) (progress_of (setup_of o) (evidence_runs H o)) (with_number (1 + length (evidence_runs H o)) x)
    ≡ judge_fate from.report.fate
same-fate H e o x legal own s from =
    let l = from.lease in
    let r = from.report in
    let there = own-leased H o r.run l legal own from.known from.of_search in
    let facts = reported-facts H e.at e.what r from.reported s in
    let both : Some facts.lease ≡ Some l = sym facts.known ∙ from.known in
    let it : facts.lease ≡ l = cc in
    let given : r.fate ≡ fate_at (standing H o) H o l r.verdict =
    facts.ruled
    ∙ ap (λ (m : LeasedRun). fate_of H m r.verdict (opening_numbered H m.search)) it
    ∙ fate-here H o l r.verdict legal there from.of_search in
    let past : is_past_budget H o (run_with l r.verdict) ≡ is_past (setup_of o) (runs H o.search) x =
    ap (is_past (setup_of o) (runs H o.search)) from.run in
    come-fate (setup_of o) (evidence_runs H o) (runs H o.search) (went_over H o.search) x (each-agrees H legal o own)
    ∙ (λ i. fate_by (sym (evidence-goes H o from.seen) i) (sym past i))
    ∙ sym (judge-ruled (is_searching (standing H o)) (is_past_budget H o (run_with l r.verdict)))
    ∙ ap judge_fate (sym (given ∙ fate-ruled_by (standing H o) H o l r.verdict from.at_stage))

-- judge says of the runs of the evidence what the farm said
abbrev SayAlike : List Entry → Opening → Type 0
SayAlike H o =
    fates_by (setup_of o) at_start (numbered 1 (evidence_runs H o)) ≡ map judge_fate (evidence_fates H o)

alike-by : (H : List Entry) (e : Entry) (o : Opening) → IsLegal H → IsItsOwn H o → Stepped H e.at e.what →
    SayAlike H o →
    (added : Option Run) → run_added H o e ≡ added →
    evidence_runs (H ++ e ∷ []) o ≡ evidence_runs H o ++ cons_option added [] →
    evidence_fates (H ++ e ∷ []) o ≡ evidence_fates H o ++ cons_option (fate_with (report_in e.what) added) [] →
    SayAlike (H ++ e ∷ []) o
alike-by H e o legal own s alike None is more fates =
    ap (λ (rs : List Run). fates_by (setup_of o) at_start (numbered 1 rs)) (more ∙ append-nil (evidence_runs H o))
    ∙ alike
    ∙ ap (map judge_fate) (sym (fates ∙ append-nil (evidence_fates H o)))
alike-by H e o legal own s alike (Some x) is more fates =
    let from = added-from H o e x is in
    let told : fate_with (report_in e.what) (Some x) ≡ Some from.report.fate =
    ap (option_map (λ (r : ReportedRun). r.fate)) from.reported in
    ap (λ (rs : List Run). fates_by (setup_of o) at_start (numbered 1 rs)) more
    ∙ fates-more (setup_of o) (evidence_runs H o) x
    ∙ (λ i. alike i ++ same-fate H e o x legal own s from i ∷ [])
    ∙ sym (map-append judge_fate (evidence_fates H o) (from.report.fate ∷ []))
    ∙ ap (map judge_fate) (sym (fates ∙ ap (λ (f : Option Fate). evidence_fates H o ++ cons_option f []) told))

alike-step : (H : List Entry) (e : Entry) (o : Opening) → IsLegal H → IsItsOwn H o → Stepped H e.at e.what →
    SayAlike H o → SayAlike (H ++ e ∷ []) o
alike-step H e o legal own s alike =
    alike-by H e o legal own s alike (run_added H o e) refl (runs_added-grow [] o H e) (fates_added-grow [] o H e)

-- a founding
no-added : (e : Entry) (o : Opening) → IsFounding e.what → run_added [] o e ≡ None
no-added e o founding = no_report-added [] o (is_evidence [] o) (report_in e.what) (no_report e.what founding)

alike-founding : (e : Entry) (o : Opening) → IsFounding e.what → SayAlike (e ∷ []) o
alike-founding e o founding =
    ap (λ (rs : List Run). fates_by (setup_of o) at_start (numbered 1 rs)) (evidence-founding e o founding)
    ∙ ap (λ (added : Option Run). map judge_fate (cons_option (fate_with (report_in e.what) added) []))
    (sym (no-added e o founding))

each-alike : (H : List Entry) → IsLegal H → (o : Opening) → IsItsOwn H o → SayAlike H o
each-alike =
    each_legal (λ (H : List Entry). (o : Opening) → IsItsOwn H o → SayAlike H o)
    (λ e founding o own. alike-founding e o founding)
    (λ H e legal all s o own.
    let before = own-before H e o own in
    alike-step H e o legal before s (all o before))

pub evidence-alike : (H : List Entry) (o : Opening) → IsLegal H → Contains (openings H) o →
    fates_by (setup_of o) at_start (numbered 1 (evidence_runs H o)) ≡ map judge_fate (evidence_fates H o)
evidence-alike H o legal there = each-alike H legal o (own-opened H o legal there)

-- In lines.

-- a line for each of judge's fates
abbrev judge_lines : ℕ → List JudgeFate → List ℕ
judge_lines number [] = []
judge_lines number (f ∷ fates) = fate_text number f ++ judge_lines (number + 1) fates

text-lines : (s : Setup) (p : JudgeProgress) (k : ℕ) (rs : List Run) →
    fates_text s p (numbered k rs) ≡ judge_lines k (fates_by s p (numbered k rs))
text-lines s p k [] = refl
text-lines s p k (r ∷ rs) =
    ap (λ (t : List ℕ). fate_text k (fate s p (with_number k r)) ++ t)
    (text-lines s (after s p (with_number k r)) (k + 1) rs)

lines-mapped : (k : ℕ) (fates : List Fate) → judge_lines k (map judge_fate fates) ≡ fate_lines k fates
lines-mapped k [] = refl
lines-mapped k (f ∷ fates) = ap (λ (t : List ℕ). fate_text k (judge_fate f) ++ t) (lines-mapped (k + 1) fates)

pub evidence-fate_lines : (H : List Entry) (o : Opening) → IsLegal H → Contains (openings H) o →
    fates_text (setup_of o) at_start (numbered 1 (evidence_runs H o)) ≡ fate_lines 1 (evidence_fates H o)
evidence-fate_lines H o legal there =
    text-lines (setup_of o) at_start 1 (evidence_runs H o)
    ∙ ap (judge_lines 1) (evidence-alike H o legal there)
    ∙ lines-mapped 1 (evidence_fates H o)
