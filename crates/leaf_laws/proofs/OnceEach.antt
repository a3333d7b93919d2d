-- What stands once in each legal history: a key, and the report of a run, with a verdict or not.
use Rattle.std.proofs.Common.{◌≡◌, ◌≢◌, ℕ, false, List, [], Option, Some, None, All, AllPairs, sym, ap, subst}
use Rattle.std.proofs.lemmas.Bool.{eqb-false}
use Rattle.std.proofs.lemmas.List.Elements.{All-nil}
use Rattle.farm_types.specs.declared.key.Key.{Key}
use Rattle.farm_types.proofs.FirstIndex.{fails-from_none}
use Rattle.farm_entry.specs.History.{has_key, is_key, is_of_run, is_report_of, key_in, place_of_key, place_of_report, report_in, reports, told_in, told_runs}
use Rattle.farm_laws.specs.Laws.{keys}
use Rattle.farm_entry.specs.Legal.{IsLegal}
use Rattle.farm_entry.specs.declared.entry.Entry.{Entry}
use Rattle.farm_entry.specs.declared.lease.ReportedRun.{ReportedRun}
use Rattle.farm_entry.proofs.Growing.{parts-grow, reports-grow, told_runs-grow}
use Rattle.farm_laws.proofs.EntryParts.{report-told, reported-facts, told-facts}
use Rattle.farm_laws.proofs.Induct.{each_legal}
use Rattle.farm_laws.proofs.Pairs.{All-parts, AllPairs-more, AllPairs-nil}

-- Keys.

-- a key that an entry doesn't hold isn't the one that it holds
other_key : (key : Key) (part : Option Key) (held : Key) → is_key key part ≡ false → part ≡ Some held → held ≢ key
other_key key part held differs holds =
    let test : is_key key (Some held) ≡ false = subst (λ (o : Option Key). is_key key o ≡ false) holds differs in
    λ same. eqb-false held.0 key.0 test (ap (λ (k : Key). k.0) same)

-- a key that stands nowhere differs from each that stands
keys-differ : (H : List Entry) (key : Key) → place_of_key H key ≡ None → All (λ (held : Key). held ≢ key) (keys H)
keys-differ H key none =
    All-parts (λ (e : Entry). key_in e.what) (λ (held : Key). held ≢ key) H
    (λ k d below held holds. other_key key _ held (fails-from_none (has_key key) H d none k below) holds)

pub keys-once : (H : List Entry) → IsLegal H → AllPairs (λ (a b : Key). a ≢ b) (keys H)
keys-once =
    let R : Key → Key → Type 0 = λ a b. a ≢ b in
    each_legal (λ (H : List Entry). AllPairs R (keys H))
    (λ e founding. AllPairs-more R [] (key_in e.what) (AllPairs-nil R) (λ y holds. All-nil (λ (x : Key). R x y)))
    (λ H e legal once step. subst (λ (ks : List Key). AllPairs R ks) (sym (parts-grow key_in H e))
    (AllPairs-more R (keys H) (key_in e.what) once (λ key holds. keys-differ H key (step.fresh key holds))))

-- Reports.

-- a run that an entry doesn't report isn't the one that it reports
other_run : (run : ℕ) (part : Option ℕ) (told : ℕ) → is_of_run run part ≡ false → part ≡ Some told → told ≢ run
other_run run part told differs holds =
    eqb-false told run (subst (λ (o : Option ℕ). is_of_run run o ≡ false) holds differs)

-- a run with no report differs from each reported one
told-differ : (H : List Entry) (run : ℕ) → place_of_report H run ≡ None → All (λ (told : ℕ). told ≢ run) (told_runs H)
told-differ H run none =
    All-parts (λ (e : Entry). told_in e.what) (λ (told : ℕ). told ≢ run) H
    (λ k d below told holds. other_run run _ told (fails-from_none (is_report_of run) H d none k below) holds)

-- of those with a verdict too
runs-differ : (H : List Entry) (run : ℕ) → place_of_report H run ≡ None → All (λ (r : ReportedRun). r.run ≢ run) (reports H)
runs-differ H run none =
    All-parts (λ (e : Entry). report_in e.what) (λ (r : ReportedRun). r.run ≢ run) H
    (λ k d below r holds. other_run run _ r.run (fails-from_none (is_report_of run) H d none k below) (report-told _ r holds))

pub told-once : (H : List Entry) → IsLegal H → AllPairs (λ (a b : ℕ). a ≢ b) (told_runs H)
told-once =
    let R : ℕ → ℕ → Type 0 = λ a b. a ≢ b in
    each_legal (λ (H : List Entry). AllPairs R (told_runs H))
    (λ e founding. AllPairs-more R [] (told_in e.what) (AllPairs-nil R) (λ y holds. All-nil (λ (x : ℕ). R x y)))
    (λ H e legal once step. subst (λ (rs : List ℕ). AllPairs R rs) (sym (told_runs-grow H e))
    (AllPairs-more R (told_runs H) (told_in e.what) once
    (λ run holds. told-differ H run (told-facts H e.at e.what run holds step).first)))

pub reports-once : (H : List Entry) → IsLegal H → AllPairs (λ (a b : ReportedRun). a.run ≢ b.run) (reports H)
reports-once =
    let R : ReportedRun → ReportedRun → Type 0 = λ a b. a.run ≢ b.run in
    each_legal (λ (H : List Entry). AllPairs R (reports H))
    (λ e founding. AllPairs-more R [] (report_in e.what) (AllPairs-nil R) (λ y holds. All-nil (λ (x : ReportedRun). R x y)))
    (λ H e legal once step. subst (λ (rs : List ReportedRun). AllPairs R rs) (sym (reports-grow H e))
    (AllPairs-more R (reports H) (report_in e.what) once
    (λ r holds. runs-differ H r.run (reported-facts H e.at e.what r holds step).first)))
