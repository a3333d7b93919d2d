-- How many open leases of a search pass a test, where a run is due only while fewer do than a bound.
use Rattle.std.proofs.Common.{◌≡◌, ℕ, ◌<◌, ◌≤◌, Bool, true, false, List, [], ◌∷◌, ◌++◌, filter, count_by, Contains, Option, Some, None, refl, sym, ap, subst, ◌∙◌, ⊎_elim, arith, ne_eqb}
use Rattle.std.specs.List.{cons_option}
use Rattle.std.proofs.lemmas.Bool.{cases_eq, eqb-true}
use Rattle.std.proofs.lemmas.List.Elements.{All-contains, All-contains_itself, All-weaker, Contains-append_left, Contains-push}
use Rattle.std.proofs.lemmas.Option.{none-some}
use Rattle.farm_types.specs.Moment.{moment_ms}
use Rattle.farm_types.specs.declared.stage.Stage.{Stage}
use Rattle.farm_entry.specs.Due.{due, open_leases}
use Rattle.farm_entry.specs.History.{all_leases, lease_in, leases, opening_numbered, same_stage}
use Rattle.farm_laws.specs.Laws.{IsNotBefore}
use Rattle.farm_entry.specs.Legal.{IsFounding, IsLegal}
use Rattle.farm_entry.specs.declared.entry.Entry.{Entry}
use Rattle.farm_entry.specs.declared.lease.DueRun.{DueRun}
use Rattle.farm_entry.specs.declared.lease.LeasedRun.{LeasedRun}
use Rattle.farm_entry.specs.declared.opening.Opening.{Opening}
use Rattle.farm_laws.specs.Openings.{HasOpening}
use Rattle.farm_laws.proofs.Counts.{filter-none}
use Rattle.farm_laws.proofs.EntryParts.{leased-facts}
use Rattle.farm_laws.proofs.Filters.{opening_numbered-stays}
use Rattle.farm_laws.proofs.Induct.{each_legal}
use Rattle.farm_laws.proofs.Known.{leases-known, next_run-due}
use Rattle.farm_laws.proofs.Numbered.{no_lease, opening-found}
use Rattle.farm_laws.proofs.OpenLeases.{IsHanded, is_for, is_out, new_cases, new_out, out-grow}
use Rattle.farm_laws.proofs.Stepped.{Stepped}

-- a moment that is not before a longer history is not before its beginning, nor before its last entry
pub not_before-first : (H : List Entry) (e : Entry) (m : ℕ) → IsNotBefore (H ++ e ∷ []) m → IsNotBefore H m
not_before-first H e m all =
    let P : Entry → Type 0 = λ x. moment_ms x.at ≤ m in
    All-weaker (Contains H) P (λ x there. All-contains P (H ++ e ∷ []) x all (Contains-append_left H (e ∷ []) x there)) H
    (All-contains_itself H)

pub not_before-last_entry : (H : List Entry) (e : Entry) (m : ℕ) → IsNotBefore (H ++ e ∷ []) m → moment_ms e.at ≤ m
not_before-last_entry H e m all = All-contains (λ (x : Entry). moment_ms x.at ≤ m) (H ++ e ∷ []) e all (Contains-push H e)

-- the run of a lease as a due one
abbrev pub run_of_lease : LeasedRun → DueRun
run_of_lease l = record { search = l.search; stage = l.stage; position = l.position }

-- a run is due only while fewer open leases of its search pass the test than the bound, where its own lease would pass
abbrev pub IsRoomed : Stage → (LeasedRun → Bool) → (Opening → ℕ) → Type 0
IsRoomed stage t bound = (H : List Entry) (o : Opening) (m : ℕ) (l : LeasedRun) → due H o m ≡ Some (run_of_lease l) →
    same_stage l.stage stage ≡ true → t l ≡ true → count_by t (open_leases H o.search stage m) < bound o

-- the open leases of a search that pass a test are within the bound
abbrev pub IsFew : Stage → (LeasedRun → Bool) → (Opening → ℕ) → List Entry → Type 0
IsFew stage t bound H = (s : ℕ) (o : Opening) (m : ℕ) → opening_numbered H s ≡ Some o → IsNotBefore H m →
    count_by t (open_leases H s stage m) ≤ bound o

-- a run that is handed out is due in the search that its number finds
record IsDueOf (H : List Entry) (m s : ℕ) (l : LeasedRun) : Type 0 where
  opening : Opening
  found : opening_numbered H s ≡ Some opening
  number : opening.search ≡ s
  is_due : due H opening m ≡ Some (run_of_lease l)

handed-due : (H : List Entry) (e : Entry) (s : ℕ) (stage : Stage) (t : LeasedRun → Bool) → IsLegal H → Stepped H e.at e.what →
    (handed : IsHanded (lease_in e.what) s stage t) → IsDueOf H (moment_ms e.at) s handed.lease
handed-due H e s stage t legal step handed =
    let l = handed.lease in
    let is = next_run-due H (moment_ms e.at) (run_of_lease l) (leased-facts H e.at e.what l handed.there step).due in
    let number : is.opening.search ≡ s = sym is.of_search ∙ eqb-true l.search s handed.of_search in
    record {
      opening = is.opening;
      found = subst (λ (k : ℕ). opening_numbered H k ≡ Some is.opening) number (opening-found H is.opening legal is.there);
      number = number;
      is_due = is.is_due;
    }

-- a search that isn't there has no leases
no_leases : (H : List Entry) (s : ℕ) → IsLegal H → opening_numbered H s ≡ None → leases H s ≡ []
no_leases H s legal none =
    filter-none (is_for s) (all_leases H)
    (All-weaker (λ (l : LeasedRun). HasOpening H l.search) (λ (l : LeasedRun). is_for s l ≡ false)
    (λ l has. ⊎_elim
    (λ (same : l.search ≡ s). absurd (none-some has.0 (sym none ∙ ap (opening_numbered H) (sym same) ∙ has.1)))
    (λ (other : l.search ≡ s → ⊥). ne_eqb l.search s other)
    (cases_eq l.search s))
    (all_leases H) (leases-known H legal))

module _ (stage : Stage) (t : LeasedRun → Bool) (bound : Opening → ℕ) (room : IsRoomed stage t bound) where
  -- with a run handed out there are few at the moment of the lease, and later
  few-handed : (H : List Entry) (e : Entry) (s : ℕ) (o : Opening) (m : ℕ) → IsLegal H → Stepped H e.at e.what →
      opening_numbered H s ≡ Some o → moment_ms e.at ≤ m → IsHanded (lease_in e.what) s stage t →
      count_by t (new_out H e s stage m) ≡ 1 → count_by t (open_leases (H ++ e ∷ []) s stage m) ≤ bound o
  few-handed H e s o m legal step found later handed one =
      let is = handed-due H e s stage t legal step handed in
      let options : Some is.opening ≡ Some o = sym is.found ∙ found in
      let same : is.opening ≡ o = cc in
      let here : count_by t (open_leases H is.opening.search stage (moment_ms e.at)) < bound is.opening =
      room H is.opening (moment_ms e.at) handed.lease is.is_due handed.at_stage handed.tested in
      let numbered : count_by t (open_leases H s stage (moment_ms e.at)) < bound is.opening =
      subst (λ (k : ℕ). count_by t (open_leases H k stage (moment_ms e.at)) < bound is.opening) is.number here in
      let fewer : count_by t (open_leases H s stage (moment_ms e.at)) < bound o =
      subst (λ (x : Opening). count_by t (open_leases H s stage (moment_ms e.at)) < bound x) same numbered in
      omega (arith, out-grow t H e s stage (moment_ms e.at) m later, fewer, one)

  few-more : (H : List Entry) (e : Entry) (s : ℕ) (o : Opening) (m : ℕ) → IsLegal H → Stepped H e.at e.what → IsFew stage t bound H →
      opening_numbered H s ≡ Some o → IsNotBefore (H ++ e ∷ []) m → count_by t (open_leases (H ++ e ∷ []) s stage m) ≤ bound o
  few-more H e s o m legal step few found before =
      ⊎_elim
      (λ (none : count_by t (new_out H e s stage m) ≡ 0).
      omega (arith, out-grow t H e s stage m m (omega arith), few s o m found (not_before-first H e m before), none))
      (λ (one : IsHanded (lease_in e.what) s stage t × (count_by t (new_out H e s stage m) ≡ 1)).
      few-handed H e s o m legal step found (not_before-last_entry H e m before) one.0 one.1)
      (new_cases t H e s stage m)

  few-opened : (H : List Entry) (e : Entry) (s : ℕ) (o : Opening) (m : ℕ) → IsLegal H → Stepped H e.at e.what →
      opening_numbered H s ≡ None → count_by t (open_leases (H ++ e ∷ []) s stage m) ≤ bound o
  few-opened H e s o m legal step none =
      let empty : count_by t (open_leases H s stage m) ≡ 0 =
      ap (λ (ls : List LeasedRun). count_by t (filter (is_out H stage m) ls)) (no_leases H s legal none) in
      ⊎_elim
      (λ (no_more : count_by t (new_out H e s stage m) ≡ 0). omega (arith, out-grow t H e s stage m m (omega arith), empty, no_more))
      (λ (one : IsHanded (lease_in e.what) s stage t × (count_by t (new_out H e s stage m) ≡ 1)).
      let is = handed-due H e s stage t legal step one.0 in
      absurd (none-some is.opening (sym none ∙ is.found)))
      (new_cases t H e s stage m)

  few-step : (H : List Entry) (e : Entry) (s : ℕ) (o : Opening) (m : ℕ) → IsLegal H → Stepped H e.at e.what → IsFew stage t bound H →
      opening_numbered (H ++ e ∷ []) s ≡ Some o → IsNotBefore (H ++ e ∷ []) m → (old : Option Opening) → opening_numbered H s ≡ old →
      count_by t (open_leases (H ++ e ∷ []) s stage m) ≤ bound o
  few-step H e s o m legal step few found before None none = few-opened H e s o m legal step none
  few-step H e s o m legal step few found before (Some x) old =
      let options : Some x ≡ Some o = sym (opening_numbered-stays H e s x old) ∙ found in
      few-more H e s o m legal step few (old ∙ options) before

  few-founded : (e : Entry) → IsFounding e.what → IsFew stage t bound (e ∷ [])
  few-founded e founding = λ s o m found before.
      subst (λ x. count_by t (filter (is_out (e ∷ []) stage m) (filter (is_for s) (cons_option x []))) ≤ bound o)
      (sym (no_lease e.what founding)) (omega arith)

  -- at most the bound, in each legal history
  pub few_out : (H : List Entry) → IsLegal H → IsFew stage t bound H
  few_out =
      each_legal (IsFew stage t bound) few-founded
      (λ H e legal few step s o m found before.
      few-step H e s o m legal step few found before (opening_numbered H s) refl)
