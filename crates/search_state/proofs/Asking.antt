-- What the calls on a state ask for holds of each search of a legal history.
use Rattle.std.proofs.Common.{◌≡◌, ◌⊎◌, inl, inr, ℕ, suc, ◌+◌, ◌<◌, ◌≤◌, ◌==◌, Bool, true, false, ◌&&◌, if◌then◌else◌, List, [], ◌∷◌, ◌++◌, length, Contains, Option, Some, None, refl, sym, ap, subst, ◌∙◌, arith, length-append}
use Rattle.std.specs.List.{cons_option, filter_map}
use Rattle.std.specs.Option.{option_and_then}
use Rattle.farm_types.specs.declared.stage.Stage.{Stage}
use Rattle.farm_types.specs.declared.stage.Stage.TheVariants.{Search, Verify}
use Rattle.weight_exact.specs.declared.run.Run.{Run}
use Rattle.weight_exact.specs.declared.run.Verdict.{Verdict}
use Rattle.farm_entry.specs.Decision.{fate_of, run_with, skip_fate_of}
use Rattle.farm_entry.specs.History.{counted_run, is_counted, lease_of, opening_numbered, openings, report_in, reports, reruns, run_of, runs, same_stage, skip_in}
use Rattle.farm_entry.specs.Legal.{IsFounding, IsLegal}
use Rattle.farm_entry.specs.Standing.{at_bar, standing}
use Rattle.farm_entry.specs.declared.entry.Entry.{Entry}
use Rattle.farm_entry.specs.declared.lease.LeasedRun.{LeasedRun}
use Rattle.farm_entry.specs.declared.lease.ReportedRun.{ReportedRun}
use Rattle.farm_entry.specs.declared.lease.SkippedRun.{SkippedRun}
use Rattle.farm_entry.specs.declared.limits.TheConstants.{MAX_ENTRIES}
use Rattle.farm_entry.specs.declared.opening.Opening.{Opening}
use Rattle.farm_laws.proofs.Bounds.{entries-bounded}
use Rattle.farm_laws.proofs.EntryParts.{reported-facts, skipped-facts}
use Rattle.farm_laws.proofs.InRange.{lease-fits}
use Rattle.farm_laws.proofs.Numbered.{lease-there, no_report}
use Rattle.farm_laws.proofs.RunSteps.{fate-here, skip_fate-here}
use Rattle.farm_laws.proofs.Stepped.{Stepped}
use Rattle.farm_laws.proofs.Counting.{some-equal}
use Rattle.search_state.specs.SearchView.{IsPlaced, IsPlacedAt, fate_in, skip_fate_in}
use Rattle.search_state.specs.Seen.{seen}
use Rattle.search_state.proofs.Reading.{fate-seen, skip_fate-seen}

-- The place of a run.

pub skip-placed : (H : List Entry) (o : Opening) (l : LeasedRun) → IsLegal H → Contains (openings H) o →
    lease_of H l.run ≡ Some l → l.search ≡ o.search → IsPlacedAt (seen H o) l.stage l.position
skip-placed H o l legal there known same =
    let fits = lease-fits H o l legal there (lease-there H l.run l known).0 same in
    record {
      first = λ at. (fits.searching at).0;
      last = λ at. (let upto = (fits.searching at).1 in let low = (fits.searching at).0 in omega arith);
      side = λ c at bar.
          let verifies = fits.verifying at in
          let here : verifies.0 ≡ c = some-equal verifies.0 c (at_bar H o) verifies.1 bar in
          subst (λ (k : ℕ). (l.position ≡ k) ⊎ (l.position + 1 ≡ k)) here verifies.4;
    }

pub run-placed : (H : List Entry) (o : Opening) (l : LeasedRun) (v : Verdict) → IsLegal H → Contains (openings H) o →
    lease_of H l.run ≡ Some l → l.search ≡ o.search → IsPlaced (seen H o) l.stage (run_with l v)
run-placed H o l v legal there known same = skip-placed H o l legal there known same

-- How many runs and reruns there can be.

abbrev none_of : Entry → Option ReportedRun
none_of x = None

abbrev some_length : {Y : Type 0} → Option Y → ℕ
some_length None = 0
some_length (Some y) = 1

length-cons_option : {Y : Type 0} (x : Option Y) (ys : List Y) → length (cons_option x ys) ≡ some_length x + length ys
length-cons_option None ys = omega arith
length-cons_option (Some y) ys = let long : length (y ∷ ys) ≡ suc (length ys) = refl in omega (arith, long)

some_length-le : {Y : Type 0} (x : Option Y) → some_length x ≤ 1
some_length-le None = omega arith
some_length-le (Some y) = omega arith

one-at_most : {Y : Type 0} (a b : Option Y) → (a ≡ None) ⊎ (b ≡ None) → some_length a + some_length b ≤ 1
one-at_most a b (inl none) = omega (arith, ap some_length none, some_length-le b)
one-at_most a b (inr none) = omega (arith, ap some_length none, some_length-le a)

-- what two filters give that never give both
both-le : {X Y : Type 0} (f g : X → Option Y) → ((x : X) → (f x ≡ None) ⊎ (g x ≡ None)) → (xs : List X) →
    length (filter_map f xs) + length (filter_map g xs) ≤ length xs
both-le f g one [] = omega arith
both-le f g one (x ∷ xs) =
    omega (
      arith,
      both-le f g one xs,
      length-cons_option (f x) (filter_map f xs),
      length-cons_option (g x) (filter_map g xs),
      one-at_most (f x) (g x) (one x),
    )

one-stage : (here : Bool) (stage : Stage) (r : Run) →
    ((if here && same_stage stage Search then Some r else None) ≡ None)
    ⊎ ((if here && same_stage stage Verify then Some r else None) ≡ None)
one-stage true Search r = inr refl
one-stage true Verify r = inl refl
one-stage false stage r = inl refl

one-run : (s : ℕ) (v : Verdict) (counts : Bool) (x : Option LeasedRun) →
    ((if counts then option_and_then (run_of s Search v) x else None) ≡ None)
    ⊎ ((if counts then option_and_then (run_of s Verify v) x else None) ≡ None)
one-run s v true None = inl refl
one-run s v true (Some l) = one-stage (l.search == s) l.stage (record { position = l.position; verdict = v })
one-run s v false x = inl refl

-- a founding reports nothing
reported-behind : (f : Entry) (H : List Entry) → IsFounding f.what → reports (f ∷ H) ≡ reports H
reported-behind f H founding = ap (λ (x : Option ReportedRun). cons_option x (reports H)) (no_report f.what founding)

pub reports-few : (H : List Entry) (e : Entry) (s : ℕ) → IsLegal (H ++ e ∷ []) →
    length (runs H s) + length (reruns H s) < MAX_ENTRIES
reports-few [] e s legal = omega arith
reports-few (f ∷ K) e s legal =
    let H : List Entry = f ∷ K in
    let counted_few : length (runs H s) + length (reruns H s) ≤ length (reports H) =
    both-le (counted_run H s Search) (counted_run H s Verify)
    (λ r. one-run s r.verdict (is_counted r.fate) (lease_of H r.run)) (reports H) in
    let reports_few : length (reports K) + length (filter_map none_of K) ≤ length K =
    both-le (λ (x : Entry). report_in x.what) none_of (λ x. inr refl) K in
    let behind : length (reports H) ≡ length (reports K) = ap length (reported-behind f K legal.0) in
    let longer : length (H ++ e ∷ []) ≡ suc (length K) + 1 = length-append H (e ∷ []) in
    omega (arith, counted_few, reports_few, behind, longer, entries-bounded (H ++ e ∷ []) legal)

-- The fate of a report.

pub report-ruled : (H : List Entry) (e : Entry) (o : Opening) (r : ReportedRun) (l : LeasedRun) → IsLegal H →
    Stepped H e.at e.what → Contains (openings H) o → report_in e.what ≡ Some r → lease_of H r.run ≡ Some l →
    l.search ≡ o.search → r.fate ≡ fate_in (seen H o) l.stage (run_with l r.verdict)
report-ruled H e o r l legal step there is known same =
    let facts = reported-facts H e.at e.what r is step in
    let both : Some facts.lease ≡ Some l = sym facts.known ∙ known in
    let it : facts.lease ≡ l = cc in
    facts.ruled
    ∙ ap (λ (x : LeasedRun). fate_of H x r.verdict (opening_numbered H x.search)) it
    ∙ fate-here H o l r.verdict legal there same
    ∙ sym (fate-seen (standing H o) H o l r.verdict)

pub skip-ruled : (H : List Entry) (e : Entry) (o : Opening) (r : SkippedRun) (l : LeasedRun) → IsLegal H →
    Stepped H e.at e.what → Contains (openings H) o → skip_in e.what ≡ Some r → lease_of H r.run ≡ Some l →
    l.search ≡ o.search → r.fate ≡ skip_fate_in (seen H o) l.stage
skip-ruled H e o r l legal step there is known same =
    let facts = skipped-facts H e.at e.what r is step in
    let both : Some facts.lease ≡ Some l = sym facts.known ∙ known in
    let it : facts.lease ≡ l = cc in
    facts.ruled
    ∙ ap (λ (x : LeasedRun). skip_fate_of H x (opening_numbered H x.search)) it
    ∙ skip_fate-here H o l legal there same
    ∙ sym (skip_fate-seen (standing H o) l)
