-- The rows after an entry of each kind.
use Rattle.std.proofs.Common.{◌≡◌, ◌≢◌, ℕ, ◌+◌, ◌<◌, ◌≤◌, ◌==◌, Bool, true, false, ◌&&◌, ◌||◌, if◌then◌else◌, List, [], ◌∷◌, ◌++◌, length, set, get_or, ◌-◌, Contains, Option, Some, None, refl, sym, ap, subst, ◌∙◌, arith, append-nil}
use Rattle.std.specs.List.{cons_option, filter_map, list_any}
use Rattle.std.proofs.lemmas.Bool.Decides.{nat_tests}
use Rattle.std.proofs.lemmas.Option.{none-some, same_Some}
use Rattle.farm_types.specs.declared.stage.Stage.{Stage}
use Rattle.farm_types.specs.declared.stage.Stage.TheVariants.{Search, Verify}
use Rattle.weight_exact.specs.declared.run.Run.{Run}
use Rattle.farm_entry.specs.Decision.{run_with}
use Rattle.farm_entry.specs.History.{cancelled_in, counted, counted_run, is_counted, is_of_search, is_over, is_taken, lease_in, lease_of, opening_in, openings, report_in, reruns, runs, same_stage, skip_in, skipped, skipped_position, told_in, was_cancelled, went_over}
use Rattle.farm_entry.specs.Legal.{IsLegal}
use Rattle.farm_entry.specs.Standing.{at_bar, standing, standing_of_reached}
use Rattle.farm_entry.specs.declared.entry.Entry.{Entry}
use Rattle.farm_entry.specs.declared.lease.LeasedRun.{LeasedRun}
use Rattle.farm_entry.specs.declared.lease.ReportedRun.{ReportedRun}
use Rattle.farm_entry.specs.declared.lease.SkippedRun.{SkippedRun}
use Rattle.farm_entry.specs.declared.opening.Opening.{Opening}
use Rattle.farm_entry.specs.declared.standing.Standing.TheVariants.{Cancelled as Ended, Inconclusive, Searching}
use Rattle.farm_laws.proofs.Filters.{counted-grow, lease_of-stays, skipped-grow, was_cancelled-grow, went_over-grow}
use Rattle.farm_laws.proofs.Known.{reports-known, skips-known}
use Rattle.farm_laws.proofs.RunSteps.{chosen_position, chosen_run, counted_run-is, skipped_position-is}
use Rattle.farm_laws.proofs.Stepped.{Stepped}
use Rattle.farm_laws.proofs.OneMore.{counted-same, over-same, skipped-same}
use Rattle.plain_farm.specs.Rows.{AreRows, IsCancelledRow, IsLeasedRow, IsOut, IsRow, IsTold, closed_position, told_run}
use Rattle.plain_farm.specs.declared.rows.Row.{Row}
use Rattle.plain_farm.proofs.About.{about-cancelled, about-none, about-told, cancelled-alone, lease-alone, opened-alone, told-alone}
use Rattle.plain_farm.proofs.Keeping.{AreOthers, rows-stay, rows-written, told-same}
use Rattle.plain_farm.proofs.Waiting.{IsNotLeased, out-leased, out-other, out-quiet}

-- no entry of another kind hands out a lease
pub none-leased : (x : Option LeasedRun) (s : ℕ) → x ≡ None → IsNotLeased x s
none-leased x s none l is = absurd (none-some l (sym none ∙ is))

-- A search that is opened.

pub others-opened : (H : List Entry) (e : Entry) (o : Opening) → IsLegal H → Stepped H e.at e.what →
    opening_in e.what ≡ Some o → AreOthers H e
others-opened H e o legal step is =
    let alone = opened-alone e.what o is in
    record {
      told = λ x row there t.
          told-same H e x row legal step (about-none H e.what x.search alone.told alone.cancelled) t;
      out = λ s row out. out-quiet H e s row alone.told (none-leased (lease_in e.what) s alone.lease) out;
    }

-- An entry that says nothing of a search.

pub rows-quiet : (H : List Entry) (e : Entry) (rows : List Row) → IsLegal H → Stepped H e.at e.what →
    opening_in e.what ≡ None → lease_in e.what ≡ None → told_in e.what ≡ None → cancelled_in e.what ≡ None →
    AreRows H rows → AreRows (H ++ e ∷ []) rows
rows-quiet H e rows legal step opening lease told cancelled kept =
    rows-stay H e rows opening kept
    (λ o row there some low t. told-same H e o row legal step (about-none H e.what o.search told cancelled) t)
    (λ s row some low out. out-quiet H e s row told (none-leased (lease_in e.what) s lease) out)

-- A lease.

told-moved : (H : List Entry) (o : Opening) (old new : Row) → new.runs.items ≡ old.runs.items →
    new.reruns.items ≡ old.reruns.items → new.skipped.items ≡ old.skipped.items → new.cancelled ≡ old.cancelled →
    new.over ≡ old.over → new.standing ≡ old.standing → new.plan.items ≡ old.plan.items → IsTold H o old → IsTold H o new
told-moved H o old new runs_are again_are skips_are cancelled_is over_is stands_is plan_is t = record {
  told = runs_are ∙ t.told;
  again = again_are ∙ t.again;
  skips = skips_are ∙ t.skips;
  cancelled = cancelled_is ∙ t.cancelled;
  over = over_is ∙ t.over;
  stands = stands_is ∙ t.stands;
  planned = λ searching. plan_is ∙ t.planned searching;
}

-- whose lease it is
not_other : (x : Option LeasedRun) (l : LeasedRun) (i s : ℕ) → x ≡ Some l → i + 1 ≡ l.search → i + 1 ≢ s → IsNotLeased x s
not_other x l i s is at apart y y_is same =
    let it : l ≡ y = same_Some l y (sym is ∙ y_is) in
    apart (at ∙ ap (λ (z : LeasedRun). z.search) it ∙ same)

pub rows-leased : (H : List Entry) (e : Entry) (rows : List Row) (l : LeasedRun) (i : ℕ) (old new : Row) → IsLegal H →
    Stepped H e.at e.what → lease_in e.what ≡ Some l → AreRows H rows → i + 1 ≡ l.search → i < length rows →
    old ≡ get_or rows i old → IsLeasedRow old new l (length H) → AreRows (H ++ e ∷ []) (set rows i new)
rows-leased H e rows l i old new legal step is kept at below was w =
    let alone = lease-alone e.what l is in
    let out_before : IsOut H l.search old = subst (λ (s : ℕ). IsOut H s old) at (kept.out i old below was) in
    rows-written H e rows i new alone.opening kept below
    (record {
      told = λ o there number.
          told-moved (H ++ e ∷ []) o old new w.told w.again w.skips w.cancelled w.over w.stands w.planned
          (told-same H e o old legal step (about-none H e.what o.search alone.told alone.cancelled)
          (kept.told o i old there number below was));
      out = subst (λ (s : ℕ). IsOut (H ++ e ∷ []) s new) (sym at)
          (out-leased H e l old new legal step alone.told is out_before w.waiting w.last);
      told_others = λ o row there apart t.
          told-same H e o row legal step (about-none H e.what o.search alone.told alone.cancelled) t;
      out_others = λ s row apart out.
          out-quiet H e s row alone.told (not_other (lease_in e.what) l i s is at apart) out;
    })

-- no row is kept of a search
abbrev pub HasNoRow : List Row → ℕ → Type 0
HasNoRow rows s = (place : ℕ) → place + 1 ≡ s → length rows ≤ place

apart-kept : (rows : List Row) (s k : ℕ) → HasNoRow rows s → 1 ≤ k → k ≤ length rows → s ≢ k
apart-kept rows s k none some low same =
    let past : length rows ≤ k - 1 = none (k - 1) (omega (arith, some, same)) in
    omega (arith, past, some, low)

pub rows-leased_none : (H : List Entry) (e : Entry) (rows : List Row) (l : LeasedRun) → IsLegal H →
    Stepped H e.at e.what → lease_in e.what ≡ Some l → AreRows H rows → HasNoRow rows l.search →
    AreRows (H ++ e ∷ []) rows
rows-leased_none H e rows l legal step is kept none =
    let alone = lease-alone e.what l is in
    rows-stay H e rows alone.opening kept
    (λ o row there some low t. told-same H e o row legal step (about-none H e.what o.search alone.told alone.cancelled) t)
    (λ s row some low out.
    out-quiet H e s row alone.told
    (λ y y_is same. apart-kept rows l.search s none some low
    (ap (λ (z : LeasedRun). z.search) (same_Some l y (sym is ∙ y_is)) ∙ same)) out)

-- A report.

told_run-chosen : (counts here : Bool) (r : Run) → chosen_run counts here r ≡ (if counts && here then Some r else None)
told_run-chosen true true r = refl
told_run-chosen true false r = refl
told_run-chosen false here r = refl

same-number : (a b : ℕ) → a ≡ b → a == b ≡ true
same-number a b e = grind (arith, nat_tests)

or-false : (a : Bool) → (a || false) ≡ a
or-false true = refl
or-false false = refl

and-true : (a : Bool) → (a && true) ≡ a
and-true true = refl
and-true false = refl

-- the runs that count at a stage with it
pub counted-told : (H : List Entry) (e : Entry) (o : Opening) (r : ReportedRun) (l : LeasedRun) (stage : Stage) → IsLegal H →
    report_in e.what ≡ Some r → lease_of H r.run ≡ Some l → l.search ≡ o.search →
    counted (H ++ e ∷ []) o.search stage ≡ counted H o.search stage ++ cons_option (told_run stage l r) []
counted-told H e o r l stage legal is known same =
    let longer = H ++ e ∷ [] in
    let before : List Run = counted H o.search stage in
    counted-grow H e o.search stage (reports-known H legal)
    ∙ ap (λ (x : Option ReportedRun). before ++ filter_map (counted_run longer o.search stage) (cons_option x [])) is
    ∙ ap (λ (x : Option Run). before ++ cons_option x [])
    (counted_run-is longer o.search stage r l (lease_of-stays H e r.run l known)
    ∙ ap (λ (here : Bool). chosen_run (is_counted r.fate) (here && same_stage l.stage stage) (run_with l r.verdict))
    (same-number l.search o.search same)
    ∙ told_run-chosen (is_counted r.fate) (same_stage l.stage stage) (run_with l r.verdict))

-- a report with a verdict skips nothing
pub skipped-told : (H : List Entry) (e : Entry) (s : ℕ) → IsLegal H → skip_in e.what ≡ None →
    skipped (H ++ e ∷ []) s ≡ skipped H s
skipped-told H e s legal none =
    skipped-grow H e s (skips-known H legal)
    ∙ ap (λ (x : Option SkippedRun). skipped H s ++ filter_map (skipped_position (H ++ e ∷ []) s) (cons_option x [])) none
    ∙ append-nil (skipped H s)

-- and one without adds no run
pub counted-skipped : (H : List Entry) (e : Entry) (s : ℕ) (stage : Stage) → IsLegal H → report_in e.what ≡ None →
    counted (H ++ e ∷ []) s stage ≡ counted H s stage
counted-skipped H e s stage legal none =
    counted-grow H e s stage (reports-known H legal)
    ∙ ap (λ (x : Option ReportedRun).
    counted H s stage ++ filter_map (counted_run (H ++ e ∷ []) s stage) (cons_option x [])) none
    ∙ append-nil (counted H s stage)

pub over-skipped : (H : List Entry) (e : Entry) (s : ℕ) → IsLegal H → report_in e.what ≡ None →
    went_over (H ++ e ∷ []) s ≡ went_over H s
over-skipped H e s legal none =
    let longer = H ++ e ∷ [] in
    let past : ReportedRun → Bool = λ x. is_over x.fate && is_of_search s (lease_of longer x.run) in
    went_over-grow H e s (reports-known H legal)
    ∙ ap (λ (x : Option ReportedRun). went_over H s || list_any past (cons_option x [])) none
    ∙ or-false (went_over H s)

position-chosen : (taken : Bool) (k : ℕ) → chosen_position taken true k ≡ (if taken then Some k else None)
position-chosen true k = refl
position-chosen false k = refl

-- the positions that are skipped with it
pub skipped-more : (H : List Entry) (e : Entry) (o : Opening) (r : SkippedRun) (l : LeasedRun) → IsLegal H →
    skip_in e.what ≡ Some r → lease_of H r.run ≡ Some l → l.search ≡ o.search →
    skipped (H ++ e ∷ []) o.search ≡ skipped H o.search ++ cons_option (closed_position l r) []
skipped-more H e o r l legal is known same =
    let longer = H ++ e ∷ [] in
    let before : List ℕ = skipped H o.search in
    skipped-grow H e o.search (skips-known H legal)
    ∙ ap (λ (x : Option SkippedRun). before ++ filter_map (skipped_position longer o.search) (cons_option x [])) is
    ∙ ap (λ (x : Option ℕ). before ++ cons_option x [])
    (skipped_position-is longer o.search r l (lease_of-stays H e r.run l known)
    ∙ ap (λ (here : Bool). chosen_position (is_taken r.fate) here l.position) (same-number l.search o.search same)
    ∙ position-chosen (is_taken r.fate) l.position)

-- a report cancels nothing
pub cancelled-told : (H : List Entry) (e : Entry) (s : ℕ) → cancelled_in e.what ≡ None →
    was_cancelled (H ++ e ∷ []) s ≡ was_cancelled H s
cancelled-told H e s none =
    was_cancelled-grow H e s
    ∙ ap (λ (x : Option ℕ). was_cancelled H s || list_any (λ (c : ℕ). c == s) (cons_option x [])) none
    ∙ or-false (was_cancelled H s)

-- and takes its search past its budget where its fate says so
pub over-told : (H : List Entry) (e : Entry) (s : ℕ) (r : ReportedRun) (l : LeasedRun) → IsLegal H →
    report_in e.what ≡ Some r → lease_of H r.run ≡ Some l → l.search ≡ s →
    went_over (H ++ e ∷ []) s ≡ (went_over H s || is_over r.fate)
over-told H e s r l legal is known same =
    let longer = H ++ e ∷ [] in
    let past : ReportedRun → Bool = λ x. is_over x.fate && is_of_search s (lease_of longer x.run) in
    went_over-grow H e s (reports-known H legal)
    ∙ ap (λ (x : Option ReportedRun). went_over H s || list_any past (cons_option x [])) is
    ∙ ap (λ (x : Option LeasedRun). went_over H s || ((is_over r.fate && is_of_search s x) || false))
    (lease_of-stays H e r.run l known)
    ∙ ap (λ (here : Bool). went_over H s || ((is_over r.fate && here) || false)) (same-number l.search s same)
    ∙ ap (λ (b : Bool). went_over H s || b) (or-false (is_over r.fate && true) ∙ and-true (is_over r.fate))

pub rows-reported : (H : List Entry) (e : Entry) (rows : List Row) (run : ℕ) (l : LeasedRun) (o : Opening) (i : ℕ)
    (new : Row) → IsLegal H → Stepped H e.at e.what → told_in e.what ≡ Some run → lease_of H run ≡ Some l →
    l.search ≡ o.search → Contains (openings H) o → AreRows H rows → i + 1 ≡ l.search → i < length rows →
    ((x : Opening) → Contains (openings H) x → x.search ≡ o.search → x ≡ o) →
    IsRow (H ++ e ∷ []) o new → AreRows (H ++ e ∷ []) (set rows i new)
rows-reported H e rows run l o i new legal step is known of_it opened kept at below one row =
    let alone = told-alone e.what run is in
    rows-written H e rows i new alone.opening kept below
    (record {
      told = λ x there number.
          let it : x ≡ o = one x there (sym number ∙ at ∙ of_it) in
          subst (λ (y : Opening). IsTold (H ++ e ∷ []) y new) (sym it) row.told;
      out = subst (λ (s : ℕ). IsOut (H ++ e ∷ []) s new) (sym (at ∙ of_it)) row.out;
      told_others = λ x other there apart t.
          told-same H e x other legal step
          (λ about. apart (at ∙ about-told H e.what x.search run l is known about)) t;
      out_others = λ s other apart out.
          out-other H e s run l other legal is known (λ same. apart (at ∙ same))
          (none-leased (lease_in e.what) s alone.lease) out;
    })

pub rows-reported_none : (H : List Entry) (e : Entry) (rows : List Row) (run : ℕ) (l : LeasedRun) → IsLegal H →
    Stepped H e.at e.what → told_in e.what ≡ Some run → lease_of H run ≡ Some l → AreRows H rows →
    HasNoRow rows l.search → AreRows (H ++ e ∷ []) rows
rows-reported_none H e rows run l legal step is known kept none =
    let alone = told-alone e.what run is in
    rows-stay H e rows alone.opening kept
    (λ o row there some low t.
    told-same H e o row legal step
    (λ about. apart-kept rows l.search o.search none some low (about-told H e.what o.search run l is known about)) t)
    (λ s row some low out.
    out-other H e s run l row legal is known (apart-kept rows l.search s none some low)
    (none-leased (lease_in e.what) s alone.lease) out)

-- A cancellation.

or-true : (a : Bool) → (a || true) ≡ true
or-true true = refl
or-true false = refl

or-first : (a b : Bool) → a ≡ true → (a || b) ≡ true
or-first a b h = ap (λ (x : Bool). x || b) h

was-cancelled : (H : List Entry) (e : Entry) (s : ℕ) → cancelled_in e.what ≡ Some s → was_cancelled (H ++ e ∷ []) s ≡ true
was-cancelled H e s is =
    was_cancelled-grow H e s
    ∙ ap (λ (x : Option ℕ). was_cancelled H s || list_any (λ (c : ℕ). c == s) (cons_option x [])) is
    ∙ ap (λ (b : Bool). was_cancelled H s || b) (or-first (s == s) false (same-number s s refl))
    ∙ or-true (was_cancelled H s)

cancelled-stands : (H : List Entry) (e : Entry) (o : Opening) → cancelled_in e.what ≡ Some o.search →
    standing (H ++ e ∷ []) o ≡ Ended
cancelled-stands H e o is =
    let longer = H ++ e ∷ [] in
    ap (λ (b : Bool). if b then Ended
    else (if went_over longer o.search then Inconclusive
    else standing_of_reached o (runs longer o.search) (skipped longer o.search) (reruns longer o.search)
    (at_bar longer o))) (was-cancelled H e o.search is)

told-cancelled : (H : List Entry) (e : Entry) (o : Opening) (old new : Row) → IsLegal H → Stepped H e.at e.what →
    cancelled_in e.what ≡ Some o.search → IsCancelledRow old new → IsTold H o old → IsTold (H ++ e ∷ []) o new
told-cancelled H e o old new legal step is w t =
    let alone = cancelled-alone e.what o.search is in
    let ended = cancelled-stands H e o is in
    record {
      told = w.told ∙ t.told
          ∙ sym (counted-same H e o.search Search legal step (λ r l r_is known. absurd (none-some r (sym alone.report ∙ r_is))));
      again = w.again ∙ t.again
          ∙ sym (counted-same H e o.search Verify legal step (λ r l r_is known. absurd (none-some r (sym alone.report ∙ r_is))));
      skips = w.skips ∙ t.skips
          ∙ sym (skipped-same H e o.search legal step (λ r l r_is known. absurd (none-some r (sym alone.skip ∙ r_is))));
      cancelled = w.cancelled ∙ sym (was-cancelled H e o.search is);
      over = w.over ∙ t.over
          ∙ sym (over-same H e o.search legal step (λ r l r_is known. absurd (none-some r (sym alone.report ∙ r_is))));
      stands = w.stands ∙ sym ended;
      planned = λ searching. let both : Ended ≡ Searching = sym ended ∙ searching in absurd (cc);
    }

pub rows-cancelled : (H : List Entry) (e : Entry) (rows : List Row) (q i : ℕ) (old new : Row) → IsLegal H →
    Stepped H e.at e.what → cancelled_in e.what ≡ Some q → AreRows H rows → i + 1 ≡ q → i < length rows →
    old ≡ get_or rows i old → IsCancelledRow old new → AreRows (H ++ e ∷ []) (set rows i new)
rows-cancelled H e rows q i old new legal step is kept at below was w =
    let alone = cancelled-alone e.what q is in
    let quiet : (s : ℕ) (row : Row) → IsOut H s row → IsOut (H ++ e ∷ []) s row =
    λ s row out. out-quiet H e s row alone.told (none-leased (lease_in e.what) s alone.lease) out in
    let out_old = quiet (i + 1) old (kept.out i old below was) in
    rows-written H e rows i new alone.opening kept below
    (record {
      told = λ o there number.
          told-cancelled H e o old new legal step (is ∙ ap (λ (n : ℕ). Some n) (sym at ∙ number)) w
          (kept.told o i old there number below was);
      out = record { waiting = w.waiting ∙ out_old.waiting; last = w.last ∙ out_old.last };
      told_others = λ o row there apart t.
          told-same H e o row legal step (λ about. apart (at ∙ about-cancelled H e.what o.search q is about)) t;
      out_others = λ s row apart out. quiet s row out;
    })

pub rows-cancelled_none : (H : List Entry) (e : Entry) (rows : List Row) (q : ℕ) → IsLegal H → Stepped H e.at e.what →
    cancelled_in e.what ≡ Some q → AreRows H rows → HasNoRow rows q → AreRows (H ++ e ∷ []) rows
rows-cancelled_none H e rows q legal step is kept none =
    let alone = cancelled-alone e.what q is in
    rows-stay H e rows alone.opening kept
    (λ o row there some low t.
    told-same H e o row legal step
    (λ about. apart-kept rows q o.search none some low (about-cancelled H e.what o.search q is about)) t)
    (λ s row some low out. out-quiet H e s row alone.told (none-leased (lease_in e.what) s alone.lease) out)
