-- How the runs of an opened search, its reruns, its skipped positions, its end and its cancellation change with an entry
-- appended.
use Rattle.std.proofs.Common.{◌≡◌, ◌⊎◌, inl, inr, ℕ, ◌≤◌, ◌==◌, Bool, true, false, ◌&&◌, ◌||◌, nat_lt, if◌then◌else◌, List, [], ◌∷◌, ◌++◌, Contains, Option, Some, None, refl, sym, ap, subst, ◌∙◌, arith, append-nil, true≢false, ⊎_elim}
use Rattle.std.specs.List.{cons_option, filter_map, list_any}
use Rattle.std.specs.Option.{option_and_then}
use Rattle.std.proofs.lemmas.Bool.{and_parts, cases_Bool}
use Rattle.std.proofs.lemmas.Bool.Decides.{nat_tests}
use Rattle.farm_types.specs.declared.stage.Stage.{Stage}
use Rattle.farm_types.specs.declared.stage.Stage.TheVariants.{Search, Verify}
use Rattle.farm_rules.specs.Reruns.{reruns_at}
use Rattle.weight_exact.specs.Load.{load}
use Rattle.weight_exact.specs.declared.run.Run.{Run}
use Rattle.weight_exact.specs.declared.run.Verdict.{Verdict}
use Rattle.farm_entry.specs.Decision.{fate_at, fate_of, is_past_budget, run_with, skip_fate_at, skip_fate_of}
use Rattle.farm_entry.specs.History.{cancelled_in, counted, counted_run, is_counted, is_of_search, is_over, is_taken, lease_of, opening_numbered, openings, position_for, report_in, reruns, run_of, runs, same_stage, skip_in, skipped, skipped_position, was_cancelled, went_over}
use Rattle.farm_entry.specs.Legal.{IsLegal}
use Rattle.farm_entry.specs.Setup.{budget_of_search, setup_of}
use Rattle.farm_entry.specs.Standing.{is_active, is_searching, is_verifying, standing}
use Rattle.farm_entry.specs.declared.entry.Entry.{Entry}
use Rattle.farm_entry.specs.declared.entry.Fate.TheVariants.{Counted, Late, Over}
use Rattle.farm_entry.specs.declared.entry.SkipFate.{SkipFate}
use Rattle.farm_entry.specs.declared.lease.LeasedRun.{LeasedRun}
use Rattle.farm_entry.specs.declared.lease.ReportedRun.{ReportedRun}
use Rattle.farm_entry.specs.declared.lease.SkippedRun.{SkippedRun}
use Rattle.farm_entry.specs.declared.opening.Opening.{Opening}
use Rattle.farm_entry.specs.declared.standing.Standing.{Standing}
use Rattle.farm_entry.specs.declared.standing.Standing.TheVariants.{Searching, Verifying, Confirmed, Vindicated, NoCulprit, Inconclusive, Cancelled}
use Rattle.farm_laws.proofs.EntryParts.{cancelled-facts, reported-facts, skipped-facts}
use Rattle.farm_laws.proofs.Filters.{counted-grow, lease_of-stays, skipped-grow, was_cancelled-grow, went_over-grow}
use Rattle.farm_laws.proofs.Known.{reports-known, skips-known}
use Rattle.farm_laws.proofs.Numbered.{lease-there, opening-found}
use Rattle.farm_laws.proofs.Stepped.{Stepped}

-- The rule of fates: which standings count a run, and which end a search.

false-true : {X : Type 0} → false ≡ true → X
false-true h = absurd (true≢false (sym h))

within : (b past : Bool) → b ≡ true → is_counted (if b then (if past then Over else Counted) else Late) ≡ true → past ≡ false
within true true e h = false-true h
within true false e h = refl
within false past e h = false-true e

-- no stage is both
other-stage : (s : Stage) → same_stage s Search ≡ true → same_stage s Verify ≡ false
other-stage Search h = refl
other-stage Verify h = false-true h

not-late : (b few : Bool) → b ≡ false → is_counted (if b && few then Counted else Late) ≡ true → ⊥
not-late true few e h = true≢false e
not-late false few e h = true≢false (sym h)

-- a run to find the culprit counts only in a search that is searching, within its budget
counted-searching : (st : Standing) (H : List Entry) (o : Opening) (l : LeasedRun) (v : Verdict) → same_stage l.stage Search ≡ true →
    is_counted (fate_at st H o l v) ≡ true → (is_searching st ≡ true) × (is_past_budget H o (run_with l v) ≡ false)
counted-searching Searching H o l v at_search h = (refl, within (same_stage l.stage Search) (is_past_budget H o (run_with l v)) at_search h)
counted-searching (Verifying c) H o l v at_search h = absurd (not-late _ _ (other-stage l.stage at_search) h)
counted-searching (Confirmed c) H o l v at_search h = false-true h
counted-searching (Vindicated c) H o l v at_search h = false-true h
counted-searching NoCulprit H o l v at_search h = false-true h
counted-searching Inconclusive H o l v at_search h = false-true h
counted-searching Cancelled H o l v at_search h = false-true h

-- a rerun counts only in a search that verifies a culprit
rerun-late : (b : Bool) (past : Bool) → b ≡ false → is_counted (if b then (if past then Over else Counted) else Late) ≡ true → ⊥
rerun-late true past e h = true≢false e
rerun-late false past e h = true≢false (sym h)

not-search : (s : Stage) → same_stage s Verify ≡ true → same_stage s Search ≡ false
not-search Verify h = refl
not-search Search h = false-true h

counted-verifying : (st : Standing) (H : List Entry) (o : Opening) (l : LeasedRun) (v : Verdict) → same_stage l.stage Verify ≡ true →
    is_counted (fate_at st H o l v) ≡ true → is_verifying st ≡ true
counted-verifying Searching H o l v at_verify h = absurd (rerun-late _ _ (not-search l.stage at_verify) h)
counted-verifying (Verifying c) H o l v at_verify h = refl
counted-verifying (Confirmed c) H o l v at_verify h = false-true h
counted-verifying (Vindicated c) H o l v at_verify h = false-true h
counted-verifying NoCulprit H o l v at_verify h = false-true h
counted-verifying Inconclusive H o l v at_verify h = false-true h
counted-verifying Cancelled H o l v at_verify h = false-true h

-- only a search that is searching goes over its budget
over-late : (b few : Bool) → is_over (if b && few then Counted else Late) ≡ true → ⊥
over-late true true h = true≢false (sym h)
over-late true false h = true≢false (sym h)
over-late false few h = true≢false (sym h)

over-searching : (st : Standing) (H : List Entry) (o : Opening) (l : LeasedRun) (v : Verdict) →
    is_over (fate_at st H o l v) ≡ true → is_searching st ≡ true
over-searching Searching H o l v h = refl
over-searching (Verifying c) H o l v h =
    absurd (over-late (same_stage l.stage Verify) (nat_lt (reruns_at l.position (reruns H o.search)) o.reruns) h)
over-searching (Confirmed c) H o l v h = false-true h
over-searching (Vindicated c) H o l v h = false-true h
over-searching NoCulprit H o l v h = false-true h
over-searching Inconclusive H o l v h = false-true h
over-searching Cancelled H o l v h = false-true h

-- The fate of a report of an opened search is by where that search stands.

pub fate-here : (H : List Entry) (o : Opening) (l : LeasedRun) (v : Verdict) → IsLegal H → Contains (openings H) o → l.search ≡ o.search →
    fate_of H l v (opening_numbered H l.search) ≡ fate_at (standing H o) H o l v
fate-here H o l v legal there same =
    ap (fate_of H l v) (ap (opening_numbered H) same ∙ opening-found H o legal there)

-- A run that appending an entry adds to the runs of a search at a stage.
pub record NewRun (H : List Entry) (e : Entry) (o : Opening) (stage : Stage) : Type 0 where
  pub lease : LeasedRun
  pub verdict : Verdict
  pub known : lease_of H lease.run ≡ Some lease
  pub of_search : lease.search ≡ o.search
  pub at_stage : same_stage lease.stage stage ≡ true
  pub counts : is_counted (fate_at (standing H o) H o lease verdict) ≡ true
  pub grown : counted (H ++ e ∷ []) o.search stage ≡ counted H o.search stage ++ run_with lease verdict ∷ []

-- tests in two parts

same-number : (a b : ℕ) → a == b ≡ true → a ≡ b
same-number a b h = grind (arith, nat_tests)

-- the run of a report by its parts
abbrev pub chosen_run : (counts here : Bool) → Run → Option Run
chosen_run counts here r = if counts then (if here then Some r else None) else None

pub counted_run-is : (H : List Entry) (s : ℕ) (stage : Stage) (r : ReportedRun) (l : LeasedRun) → lease_of H r.run ≡ Some l →
    counted_run H s stage r ≡ chosen_run (is_counted r.fate) (l.search == s && same_stage l.stage stage) (run_with l r.verdict)
counted_run-is H s stage r l known =
    ap (λ (x : Option LeasedRun). if is_counted r.fate then option_and_then (run_of s stage r.verdict) x else None) known

-- what a report adds: nothing, or its run where it counts and is of the search and the stage
added-run : (counts here : Bool) (r : Run) → (cons_option (chosen_run counts here r) [] ≡ [])
    ⊎ ((counts ≡ true) × (here ≡ true) × (cons_option (chosen_run counts here r) [] ≡ r ∷ []))
added-run true true r = inr (refl, refl, refl)
added-run true false r = inl refl
added-run false here r = inl refl

counted-step_by : (H : List Entry) (e : Entry) (o : Opening) (stage : Stage) → IsLegal H → Contains (openings H) o → Stepped H e.at e.what →
    (rep : Option ReportedRun) → report_in e.what ≡ rep →
    counted (H ++ e ∷ []) o.search stage
    ≡ counted H o.search stage ++ filter_map (counted_run (H ++ e ∷ []) o.search stage) (cons_option rep []) →
    (counted (H ++ e ∷ []) o.search stage ≡ counted H o.search stage) ⊎ NewRun H e o stage
counted-step_by H e o stage legal there s None is grown = inl (grown ∙ append-nil (counted H o.search stage))
counted-step_by H e o stage legal there s (Some r) is grown =
    let facts = reported-facts H e.at e.what r is s in
    let l = facts.lease in
    let longer = H ++ e ∷ [] in
    let run = run_with l r.verdict in
    let here : Bool = l.search == o.search && same_stage l.stage stage in
    let chosen : counted_run longer o.search stage r ≡ chosen_run (is_counted r.fate) here run =
    counted_run-is longer o.search stage r l (lease_of-stays H e r.run l facts.known) in
    let added : counted longer o.search stage ≡ counted H o.search stage ++ cons_option (chosen_run (is_counted r.fate) here run) [] =
    grown ∙ ap (λ (x : Option Run). counted H o.search stage ++ cons_option x []) chosen in
    ⊎_elim
    (λ (none : cons_option (chosen_run (is_counted r.fate) here run) [] ≡ []).
    inl (added ∙ ap (λ (x : List Run). counted H o.search stage ++ x) none ∙ append-nil (counted H o.search stage)))
    (λ (one : (is_counted r.fate ≡ true) × (here ≡ true) × (cons_option (chosen_run (is_counted r.fate) here run) [] ≡ run ∷ [])).
    let parts = and_parts (l.search == o.search) (same_stage l.stage stage) one.1 in
    let same : l.search ≡ o.search = same-number l.search o.search parts.0 in
    inr (record {
      lease = l;
      verdict = r.verdict;
      known = ap (lease_of H) (lease-there H r.run l facts.known).1 ∙ facts.known;
      of_search = same;
      at_stage = parts.1;
      counts = ap is_counted (sym (facts.ruled ∙ fate-here H o l r.verdict legal there same)) ∙ one.0;
      grown = added ∙ ap (λ (x : List Run). counted H o.search stage ++ x) one.2;
    }))
    (added-run (is_counted r.fate) here run)

pub counted-step : (H : List Entry) (e : Entry) (o : Opening) (stage : Stage) → IsLegal H → Contains (openings H) o →
    Stepped H e.at e.what → (counted (H ++ e ∷ []) o.search stage ≡ counted H o.search stage) ⊎ NewRun H e o stage
counted-step H e o stage legal there s =
    counted-step_by H e o stage legal there s (report_in e.what) refl (counted-grow H e o.search stage (reports-known H legal))

-- The runs by which the belief is made: they stay, or one is added while the search is searching, within its budget.
pub record GrownRuns (H : List Entry) (e : Entry) (o : Opening) : Type 0 where
  pub lease : LeasedRun
  pub verdict : Verdict
  pub known : lease_of H lease.run ≡ Some lease
  pub of_search : lease.search ≡ o.search
  pub at_stage : same_stage lease.stage Search ≡ true
  pub searching : is_searching (standing H o) ≡ true
  pub grown : runs (H ++ e ∷ []) o.search ≡ runs H o.search ++ run_with lease verdict ∷ []
  pub within : load (setup_of o).factors (runs (H ++ e ∷ []) o.search) ≤ budget_of_search o

not-past : (budget n : ℕ) → nat_lt budget n ≡ false → n ≤ budget
not-past budget n h = grind (arith, nat_tests)

pub runs-step : (H : List Entry) (e : Entry) (o : Opening) → IsLegal H → Contains (openings H) o → Stepped H e.at e.what →
    (runs (H ++ e ∷ []) o.search ≡ runs H o.search) ⊎ GrownRuns H e o
runs-step H e o legal there s =
    ⊎_elim (λ (same : runs (H ++ e ∷ []) o.search ≡ runs H o.search). inl same)
    (λ (new : NewRun H e o Search).
    let ruled = counted-searching (standing H o) H o new.lease new.verdict new.at_stage new.counts in
    let room : load (setup_of o).factors (runs H o.search ++ run_with new.lease new.verdict ∷ []) ≤ budget_of_search o =
    not-past _ _ ruled.1 in
    inr (record {
      lease = new.lease;
      verdict = new.verdict;
      known = new.known;
      of_search = new.of_search;
      at_stage = new.at_stage;
      searching = ruled.0;
      grown = new.grown;
      within = subst (λ (x : List Run). load (setup_of o).factors x ≤ budget_of_search o) (sym new.grown) room;
    }))
    (counted-step H e o Search legal there s)

-- the reruns stay, or the search verifies a culprit
pub reruns-step : (H : List Entry) (e : Entry) (o : Opening) → IsLegal H → Contains (openings H) o → Stepped H e.at e.what →
    (reruns (H ++ e ∷ []) o.search ≡ reruns H o.search) ⊎ (is_verifying (standing H o) ≡ true)
reruns-step H e o legal there s =
    ⊎_elim (λ (same : reruns (H ++ e ∷ []) o.search ≡ reruns H o.search). inl same)
    (λ (new : NewRun H e o Verify). inr (counted-verifying (standing H o) H o new.lease new.verdict new.at_stage new.counts))
    (counted-step H e o Verify legal there s)

-- no run takes a search past its budget, or the search is searching
or-false : (a b : Bool) → b ≡ false → (a || b) ≡ a
or-false true b h = refl
or-false false b h = h

over-step_by : (H : List Entry) (e : Entry) (o : Opening) → IsLegal H → Contains (openings H) o → Stepped H e.at e.what →
    (rep : Option ReportedRun) → report_in e.what ≡ rep →
    went_over (H ++ e ∷ []) o.search
    ≡ (went_over H o.search
    || list_any (λ (r : ReportedRun). is_over r.fate && is_of_search o.search (lease_of (H ++ e ∷ []) r.run)) (cons_option rep [])) →
    (went_over (H ++ e ∷ []) o.search ≡ went_over H o.search) ⊎ (is_searching (standing H o) ≡ true)
over-step_by H e o legal there s None is grown = inl (grown ∙ or-false (went_over H o.search) false refl)
over-step_by H e o legal there s (Some r) is grown =
    let facts = reported-facts H e.at e.what r is s in
    let l = facts.lease in
    let test : Bool = is_over r.fate && is_of_search o.search (lease_of (H ++ e ∷ []) r.run) in
    ⊎_elim
    (λ (over : test ≡ true).
    let parts = and_parts (is_over r.fate) (is_of_search o.search (lease_of (H ++ e ∷ []) r.run)) over in
    let of_it : l.search == o.search ≡ true = sym (ap (is_of_search o.search) (lease_of-stays H e r.run l facts.known)) ∙ parts.1 in
    let same : l.search ≡ o.search = same-number l.search o.search of_it in
    inr (over-searching (standing H o) H o l r.verdict
    (ap is_over (sym (facts.ruled ∙ fate-here H o l r.verdict legal there same)) ∙ parts.0)))
    (λ (not_over : test ≡ false).
    let none : (test || false) ≡ false = or-false test false refl ∙ not_over in
    inl (grown ∙ or-false (went_over H o.search) (test || false) none))
    (cases_Bool test)

pub over-step : (H : List Entry) (e : Entry) (o : Opening) → IsLegal H → Contains (openings H) o → Stepped H e.at e.what →
    (went_over (H ++ e ∷ []) o.search ≡ went_over H o.search) ⊎ (is_searching (standing H o) ≡ true)
over-step H e o legal there s =
    over-step_by H e o legal there s (report_in e.what) refl (went_over-grow H e o.search (reports-known H legal))

-- a search is not cancelled, or it goes on
cancel-step_by : (H : List Entry) (e : Entry) (o : Opening) → IsLegal H → Contains (openings H) o → Stepped H e.at e.what →
    (c : Option ℕ) → cancelled_in e.what ≡ c →
    was_cancelled (H ++ e ∷ []) o.search ≡ (was_cancelled H o.search || list_any (λ (x : ℕ). x == o.search) (cons_option c [])) →
    (was_cancelled (H ++ e ∷ []) o.search ≡ was_cancelled H o.search) ⊎ (is_active (standing H o) ≡ true)
cancel-step_by H e o legal there s None is grown = inl (grown ∙ or-false (was_cancelled H o.search) false refl)
cancel-step_by H e o legal there s (Some c) is grown =
    let facts = cancelled-facts H e.at e.what c is s in
    ⊎_elim
    (λ (this : c == o.search ≡ true).
    let same : c ≡ o.search = same-number c o.search this in
    let found : Some facts.opening ≡ Some o = sym facts.known ∙ ap (opening_numbered H) same ∙ opening-found H o legal there in
    let it : facts.opening ≡ o = cc in
    inr (ap (λ (x : Opening). is_active (standing H x)) (sym it) ∙ facts.active))
    (λ (other : c == o.search ≡ false).
    let none : (c == o.search || false) ≡ false = or-false (c == o.search) false refl ∙ other in
    inl (grown ∙ or-false (was_cancelled H o.search) (c == o.search || false) none))
    (cases_Bool (c == o.search))

pub cancel-step : (H : List Entry) (e : Entry) (o : Opening) → IsLegal H → Contains (openings H) o → Stepped H e.at e.what →
    (was_cancelled (H ++ e ∷ []) o.search ≡ was_cancelled H o.search) ⊎ (is_active (standing H o) ≡ true)
cancel-step H e o legal there s =
    cancel-step_by H e o legal there s (cancelled_in e.what) refl (was_cancelled-grow H e o.search)

-- The skipped positions stay, or one is added while the search goes on at the run's stage.

-- a skip is taken only in a search that goes on
taken-active : (st : Standing) (l : LeasedRun) → is_taken (skip_fate_at st l) ≡ true → is_active st ≡ true
taken-active Searching l h = refl
taken-active (Verifying c) l h = refl
taken-active (Confirmed c) l h = false-true h
taken-active (Vindicated c) l h = false-true h
taken-active NoCulprit l h = false-true h
taken-active Inconclusive l h = false-true h
taken-active Cancelled l h = false-true h

pub skip_fate-here : (H : List Entry) (o : Opening) (l : LeasedRun) → IsLegal H → Contains (openings H) o → l.search ≡ o.search →
    skip_fate_of H l (opening_numbered H l.search) ≡ skip_fate_at (standing H o) l
skip_fate-here H o l legal there same =
    ap (skip_fate_of H l) (ap (opening_numbered H) same ∙ opening-found H o legal there)

-- a position that appending an entry adds to the skipped ones of a search
pub record NewSkip (H : List Entry) (e : Entry) (o : Opening) : Type 0 where
  pub lease : LeasedRun
  pub fate : SkipFate
  pub told : skip_in e.what ≡ Some (record { run = lease.run; fate = fate })
  pub known : lease_of H lease.run ≡ Some lease
  pub of_search : lease.search ≡ o.search
  pub taken : is_taken (skip_fate_at (standing H o) lease) ≡ true
  pub active : is_active (standing H o) ≡ true
  pub grown : skipped (H ++ e ∷ []) o.search ≡ skipped H o.search ++ lease.position ∷ []

-- the position of a skip by its parts
abbrev pub chosen_position : (taken here : Bool) → ℕ → Option ℕ
chosen_position taken here k = if taken then (if here then Some k else None) else None

pub skipped_position-is : (H : List Entry) (s : ℕ) (r : SkippedRun) (l : LeasedRun) → lease_of H r.run ≡ Some l →
    skipped_position H s r ≡ chosen_position (is_taken r.fate) (l.search == s) l.position
skipped_position-is H s r l known =
    ap (λ (x : Option LeasedRun). if is_taken r.fate then option_and_then (position_for s) x else None) known

-- what a skip adds: nothing, or its position where it is taken and of the search
added-position : (taken here : Bool) (k : ℕ) → (cons_option (chosen_position taken here k) [] ≡ [])
    ⊎ ((taken ≡ true) × (here ≡ true) × (cons_option (chosen_position taken here k) [] ≡ k ∷ []))
added-position true true k = inr (refl, refl, refl)
added-position true false k = inl refl
added-position false here k = inl refl

skip-step_by : (H : List Entry) (e : Entry) (o : Opening) → IsLegal H → Contains (openings H) o → Stepped H e.at e.what →
    (told : Option SkippedRun) → skip_in e.what ≡ told →
    skipped (H ++ e ∷ []) o.search
    ≡ skipped H o.search ++ filter_map (skipped_position (H ++ e ∷ []) o.search) (cons_option told []) →
    (skipped (H ++ e ∷ []) o.search ≡ skipped H o.search) ⊎ NewSkip H e o
skip-step_by H e o legal there s None is grown = inl (grown ∙ append-nil (skipped H o.search))
skip-step_by H e o legal there s (Some r) is grown =
    let facts = skipped-facts H e.at e.what r is s in
    let l = facts.lease in
    let number : l.run ≡ r.run = (lease-there H r.run l facts.known).1 in
    let here : Bool = l.search == o.search in
    let chosen : skipped_position (H ++ e ∷ []) o.search r ≡ chosen_position (is_taken r.fate) here l.position =
    skipped_position-is (H ++ e ∷ []) o.search r l (lease_of-stays H e r.run l facts.known) in
    let added : skipped (H ++ e ∷ []) o.search ≡ skipped H o.search ++ cons_option (chosen_position (is_taken r.fate) here l.position) [] =
    grown ∙ ap (λ (x : Option ℕ). skipped H o.search ++ cons_option x []) chosen in
    ⊎_elim
    (λ (none : cons_option (chosen_position (is_taken r.fate) here l.position) [] ≡ []).
    inl (added ∙ ap (λ (x : List ℕ). skipped H o.search ++ x) none ∙ append-nil (skipped H o.search)))
    (λ (one : (is_taken r.fate ≡ true) × (here ≡ true) × (cons_option (chosen_position (is_taken r.fate) here l.position) [] ≡ l.position ∷ [])).
    let same : l.search ≡ o.search = same-number l.search o.search one.1 in
    let taken : is_taken (skip_fate_at (standing H o) l) ≡ true =
    ap is_taken (sym (facts.ruled ∙ skip_fate-here H o l legal there same)) ∙ one.0 in
    inr (record {
      lease = l;
      fate = r.fate;
      told = is ∙ ap (λ (n : ℕ). Some (record { run = n; fate = r.fate })) (sym number);
      known = ap (lease_of H) number ∙ facts.known;
      of_search = same;
      taken = taken;
      active = taken-active (standing H o) l taken;
      grown = added ∙ ap (λ (x : List ℕ). skipped H o.search ++ x) one.2;
    }))
    (added-position (is_taken r.fate) here l.position)

pub skip-step : (H : List Entry) (e : Entry) (o : Opening) → IsLegal H → Contains (openings H) o → Stepped H e.at e.what →
    (skipped (H ++ e ∷ []) o.search ≡ skipped H o.search) ⊎ NewSkip H e o
skip-step H e o legal there s =
    skip-step_by H e o legal there s (skip_in e.what) refl (skipped-grow H e o.search (skips-known H legal))
