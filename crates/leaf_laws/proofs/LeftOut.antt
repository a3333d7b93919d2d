-- Which reports are evidence, and which are left out.
use Rattle.std.proofs.Common.{◌≡◌, ◌⊎◌, inl, inr, ◌↔◌, ℕ, ◌==◌, Bool, true, false, not, ◌&&◌, List, ◌∷◌, ◌++◌, Contains, if◌then◌else◌, Option, Some, None, refl, sym, ap, ◌∙◌, arith, append-nil, true≢false, ⊎_elim, []}
use Rattle.std.specs.List.{cons_option}
use Rattle.std.specs.Option.{is_none, option_and_then}
use Rattle.std.proofs.lemmas.Bool.{and_from}
use Rattle.std.proofs.lemmas.Bool.Decides.{nat_tests}
use Rattle.std.proofs.lemmas.Option.{none-some}
use Rattle.farm_types.specs.declared.stage.Stage.{Stage}
use Rattle.farm_types.specs.declared.stage.Stage.TheVariants.{Search}
use Rattle.farm_rules.specs.Reruns.{Outcome, confirmed, outcome, verifying, vindicating}
use Rattle.threshold_pick.specs.HiddenBlocks.{is_hidden}
use Rattle.weight_exact.specs.Share.{reached}
use Rattle.weight_exact.specs.Weights.{hypotheses}
use Rattle.weight_exact.specs.declared.run.Run.{Run}
use Rattle.weight_exact.specs.declared.run.Verdict.{Verdict}
use Rattle.farm_entry.specs.Decision.{fate_at, is_past_budget, run_with}
use Rattle.farm_entry.specs.History.{lease_of, openings, report_in, reruns, run_of, runs, same_stage, skipped, was_cancelled, went_over}
use Rattle.farm_entry.specs.Legal.{IsLegal}
use Rattle.farm_entry.specs.Setup.{setup_of}
use Rattle.farm_entry.specs.Standing.{at_bar, is_active, is_searching, lacks, standing, standing_of_hidden, standing_of_outcome, standing_of_reached}
use Rattle.farm_entry.specs.declared.entry.Entry.{Entry}
use Rattle.farm_entry.specs.declared.entry.Fate.TheVariants.{Late}
use Rattle.farm_entry.specs.declared.lease.LeasedRun.{LeasedRun}
use Rattle.farm_entry.specs.declared.lease.ReportedRun.{ReportedRun}
use Rattle.farm_entry.specs.declared.opening.Opening.{Opening}
use Rattle.farm_entry.specs.declared.standing.Standing.{Standing}
use Rattle.farm_entry.specs.declared.standing.Standing.TheVariants.{Searching, Verifying, Confirmed, Vindicated, NoCulprit, Inconclusive, Cancelled}
use Rattle.farm_laws.proofs.Ends.{over-kept, runs-kept, skips-kept, some-entries}
use Rattle.farm_laws.proofs.EntryParts.{reported-facts}
use Rattle.farm_laws.proofs.Induct.{IsLegal-first, IsLegal-pushed, IsLegal-rest, grown}
use Rattle.farm_laws.proofs.Opened.{opened-stays}
use Rattle.farm_laws.proofs.RunSteps.{cancel-step, fate-here}
use Rattle.farm_laws.proofs.Standings.{inactive-searching}
use Rattle.farm_laws.proofs.Stepped.{Stepped, stepped}
use Rattle.search_evidence.specs.Written.{evidence_runs, is_evidence, reported_run, run_added}
use Rattle.leaf_laws.specs.Unseen.{HasEndedUnseen}
use Rattle.leaf_laws.proofs.Fates.{fate-ruled_by, ruled_by}
use Rattle.leaf_laws.proofs.Histories.{evidence-stops, runs_added-grow}

-- Where reports are left out: behind a cancellation, and behind the end to which skips alone brought the search.

hidden-ends : (hidden : Bool) → not hidden ≡ false → standing_of_hidden hidden ≡ Inconclusive
hidden-ends true h = refl
hidden-ends false h = absurd (true≢false h)

ends-hidden : (hidden : Bool) → standing_of_hidden hidden ≡ Inconclusive → not hidden ≡ false
ends-hidden true h = refl
ends-hidden false h = absurd (true≢false (ap is_searching h))

abbrev is_gone : Standing → Bool
is_gone Cancelled = true
is_gone Searching = false
is_gone (Verifying c) = false
is_gone (Confirmed c) = false
is_gone (Vindicated c) = false
is_gone NoCulprit = false
is_gone Inconclusive = false

outcome-gone : (i : ℕ) (lacking : Bool) (x : Outcome) → is_gone (standing_of_outcome i lacking x) ≡ false
outcome-gone i true verifying = refl
outcome-gone i false verifying = refl
outcome-gone i lacking confirmed = refl
outcome-gone i lacking vindicating = refl

named-gone : (i : ℕ) (lacking : Bool) (x : Outcome) (last : Bool) →
    is_gone (if last then NoCulprit else standing_of_outcome i lacking x) ≡ false
named-gone i lacking x true = refl
named-gone i lacking x false = outcome-gone i lacking x

hidden-gone : (hidden : Bool) → is_gone (standing_of_hidden hidden) ≡ false
hidden-gone true = refl
hidden-gone false = refl

module _ (o : Opening) (rs : List Run) (skips : List ℕ) (again : List Run) where
  -- where it stands, by the cases of its standing
  abbrev pub stands : (cancelled over : Bool) → Option ℕ → Standing
  stands cancelled over n =
      if cancelled then Cancelled else (if over then Inconclusive else standing_of_reached o rs skips again n)

  -- whether its reports are evidence
  abbrev goes : (cancelled over : Bool) → Option ℕ → Bool
  goes cancelled over n = not cancelled && not (not over && is_none n && is_hidden (setup_of o) rs skips)

  left_out-ends : (cancelled over : Bool) (n : Option ℕ) → goes cancelled over n ≡ false →
      (stands cancelled over n ≡ Cancelled) ⊎ ((stands cancelled over n ≡ Inconclusive) × (over ≡ false) × (n ≡ None))
  left_out-ends true over n h = inl refl
  left_out-ends false true n h = absurd (true≢false h)
  left_out-ends false false (Some i) h = absurd (true≢false h)
  left_out-ends false false None h = inr (hidden-ends (is_hidden (setup_of o) rs skips) h, refl, refl)

  reached-gone : (n : Option ℕ) → is_gone (standing_of_reached o rs skips again n) ≡ false
  reached-gone None = hidden-gone (is_hidden (setup_of o) rs skips)
  reached-gone (Some i) =
      named-gone i (lacks i o.reruns skips again) (outcome i o.reruns again) (i == hypotheses (setup_of o))

  over-gone : (over : Bool) (n : Option ℕ) → is_gone (stands false over n) ≡ false
  over-gone true n = refl
  over-gone false n = reached-gone n

  cancelled-left_out : (cancelled over : Bool) (n : Option ℕ) → stands cancelled over n ≡ Cancelled →
      goes cancelled over n ≡ false
  cancelled-left_out true over n h = refl
  cancelled-left_out false over n h = absurd (true≢false (sym (ap is_gone h) ∙ over-gone over n))

  hidden-left_out : (cancelled over : Bool) (n : Option ℕ) → stands cancelled over n ≡ Inconclusive → over ≡ false →
      n ≡ None →
      goes cancelled over n ≡ false
  hidden-left_out true over n h within none = refl
  hidden-left_out false true n h within none = absurd (true≢false within)
  hidden-left_out false false (Some i) h within none = absurd (none-some i (sym none))
  hidden-left_out false false None h within none = ends-hidden (is_hidden (setup_of o) rs skips) h

pub left_out-exactly : (H : List Entry) (o : Opening) → (is_evidence H o ≡ false) ↔ HasEndedUnseen H o
left_out-exactly H o = (
  left_out-ends o (runs H o.search) (skipped H o.search) (reruns H o.search) (was_cancelled H o.search)
      (went_over H o.search) (at_bar H o),
  λ (h : HasEndedUnseen H o). ⊎_elim
      (λ (gone : standing H o ≡ Cancelled).
      cancelled-left_out o (runs H o.search) (skipped H o.search) (reruns H o.search) (was_cancelled H o.search)
      (went_over H o.search) (at_bar H o) gone)
      (λ (hidden : (standing H o ≡ Inconclusive) × (went_over H o.search ≡ false) × (at_bar H o ≡ None)).
      hidden-left_out o (runs H o.search) (skipped H o.search) (reruns H o.search) (was_cancelled H o.search)
      (went_over H o.search) (at_bar H o) hidden.0 hidden.1 hidden.2)
      h,
)

-- That stays, so no later report is evidence.

unseen-inactive : (H : List Entry) (o : Opening) → is_evidence H o ≡ false → is_active (standing H o) ≡ false
unseen-inactive H o h =
    ⊎_elim
    (λ (gone : standing H o ≡ Cancelled). ap is_active gone)
    (λ (hidden : (standing H o ≡ Inconclusive) × (went_over H o.search ≡ false) × (at_bar H o ≡ None)).
    ap is_active hidden.0)
    (left_out-ends o (runs H o.search) (skipped H o.search) (reruns H o.search) (was_cancelled H o.search)
    (went_over H o.search) (at_bar H o) h)

unless_so : {A : Type 0} (b : Bool) → A ⊎ (b ≡ true) → b ≡ false → A
unless_so b (inl a) never = a
unless_so b (inr h) never = absurd (true≢false (sym h ∙ never))

unseen-kept : (G : List Entry) (e : Entry) (o : Opening) → IsLegal G → Contains (openings G) o → Stepped G e.at e.what →
    is_evidence G o ≡ false → is_evidence (G ++ e ∷ []) o ≡ false
unseen-kept G e o legal there s unseen =
    let ended = unseen-inactive G o unseen in
    let idle : is_searching (standing G o) ≡ false = inactive-searching (standing G o) ended in
    let cancelled : was_cancelled (G ++ e ∷ []) o.search ≡ was_cancelled G o.search =
    unless_so (is_active (standing G o)) (cancel-step G e o legal there s) ended in
    let over : went_over (G ++ e ∷ []) o.search ≡ went_over G o.search = over-kept G e o legal there s idle in
    let counted : runs (G ++ e ∷ []) o.search ≡ runs G o.search = runs-kept G e o legal there s idle in
    let skips : skipped (G ++ e ∷ []) o.search ≡ skipped G o.search = skips-kept G e o legal there s ended in
    (λ i. goes o (counted i) (skips i) [] (cancelled i) (over i) (reached (setup_of o) (counted i))) ∙ unseen

evidence-none : (G : List Entry) (e : Entry) (o : Opening) → is_evidence G o ≡ false →
    evidence_runs (G ++ e ∷ []) o ≡ evidence_runs G o
evidence-none G e o unseen =
    runs_added-grow [] o G e
    ∙ ap (λ (b : Bool). evidence_runs G o ++ cons_option
    (if b then option_and_then (reported_run G o.search) (report_in e.what) else None) []) unseen
    ∙ append-nil (evidence_runs G o)

-- a search whose reports are left out, as it was
record StillUnseen (H G : List Entry) (o : Opening) : Type 0 where
  opened : Contains (openings G) o
  unseen : is_evidence G o ≡ false
  same : evidence_runs G o ≡ evidence_runs H o

pub evidence-ends : (H K : List Entry) (o : Opening) → IsLegal (H ++ K) → Contains (openings H) o →
    is_evidence H o ≡ false →
    evidence_runs (H ++ K) o ≡ evidence_runs H o
evidence-ends H K o legal there unseen =
    let some = some-entries H o there in
    (grown (λ (G : List Entry). StillUnseen H G o)
    (λ G e is still s. record {
      opened = opened-stays G e o still.opened;
      unseen = unseen-kept G e o is still.opened s still.unseen;
      same = evidence-none G e o still.unseen ∙ still.same;
    })
    H K (IsLegal-first H K some legal) (record { opened = there; unseen = unseen; same = refl })
    (IsLegal-rest H K some legal)).same

-- Every other report of a run that is to find the culprit is evidence, and those left out came late.

search-stage : (s : Stage) → s ≡ Search → same_stage s Search ≡ true
search-stage s h = ap (λ (x : Stage). same_stage x Search) h

same-tested : (a b : ℕ) → a ≡ b → a == b ≡ true
same-tested a b h = grind (arith, nat_tests)

written-run : (s : ℕ) (l : LeasedRun) (v : Verdict) → l.search ≡ s → l.stage ≡ Search →
    run_of s Search v l ≡ Some (run_with l v)
written-run s l v same at =
    ap (λ (b : Bool). if b then Some (run_with l v) else None)
    (and_from (l.search == s) (same_stage l.stage Search) (same-tested l.search s same) (search-stage l.stage at))

added-is : (H : List Entry) (e : Entry) (o : Opening) (r : ReportedRun) (l : LeasedRun) → is_evidence H o ≡ true →
    report_in e.what ≡ Some r → lease_of H r.run ≡ Some l → l.search ≡ o.search → l.stage ≡ Search →
    run_added H o e ≡ Some (run_with l r.verdict)
added-is H e o r l seen is known same at =
    ap (λ (b : Bool). if b then option_and_then (reported_run H o.search) (report_in e.what) else None) seen
    ∙ ap (option_and_then (reported_run H o.search)) is
    ∙ ap (option_and_then (run_of o.search Search r.verdict)) known
    ∙ written-run o.search l r.verdict same at

pub evidence-more : (H : List Entry) (e : Entry) (o : Opening) (r : ReportedRun) (l : LeasedRun) →
    is_evidence H o ≡ true →
    report_in e.what ≡ Some r → lease_of H r.run ≡ Some l → l.search ≡ o.search → l.stage ≡ Search →
    evidence_runs (H ++ e ∷ []) o ≡ evidence_runs H o ++ run_with l r.verdict ∷ []
evidence-more H e o r l seen is known same at =
    runs_added-grow [] o H e
    ∙ ap (λ (x : Option Run). evidence_runs H o ++ cons_option x []) (added-is H e o r l seen is known same at)

fate-late : (st : Standing) (H : List Entry) (o : Opening) (l : LeasedRun) (v : Verdict) → is_searching st ≡ false →
    l.stage ≡ Search → fate_at st H o l v ≡ Late
fate-late st H o l v idle at =
    fate-ruled_by st H o l v (search-stage l.stage at)
    ∙ ap (λ (b : Bool). ruled_by b (is_past_budget H o (run_with l v))) idle

pub left_out-late : (H : List Entry) (e : Entry) (o : Opening) (r : ReportedRun) (l : LeasedRun) →
    IsLegal (H ++ e ∷ []) →
    Contains (openings H) o → is_evidence H o ≡ false → report_in e.what ≡ Some r → lease_of H r.run ≡ Some l →
    l.search ≡ o.search → l.stage ≡ Search → r.fate ≡ Late
left_out-late H e o r l legal there unseen is known same at =
    let first = IsLegal-first H (e ∷ []) (some-entries H o there) legal in
    let facts = reported-facts H e.at e.what r is (stepped H e (IsLegal-pushed H e first legal)) in
    let both : Some facts.lease ≡ Some l = sym facts.known ∙ known in
    let it : facts.lease ≡ l = cc in
    let of_it : facts.lease.search ≡ o.search = ap (λ (x : LeasedRun). x.search) it ∙ same in
    let at_it : facts.lease.stage ≡ Search = ap (λ (x : LeasedRun). x.stage) it ∙ at in
    facts.ruled ∙ fate-here H o facts.lease r.verdict first there of_it
    ∙ fate-late (standing H o) H o facts.lease r.verdict (evidence-stops H o unseen) at_it
