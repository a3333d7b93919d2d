-- How the open leases of a search grow: time and reports only close some, and a run that is handed out is one more.
use Rattle.std.proofs.Common.{◌≡◌, ℕ, ◌+◌, ◌<◌, ◌≤◌, ◌==◌, Bool, true, false, not, ◌&&◌, ◌||◌, nat_lt, List, [], ◌∷◌, ◌++◌, filter, count_by, Option, Some, None, refl, sym, ap, ◌∙◌, ◌⊎◌, inl, inr, ⊎_elim, arith, lt-ltb, ltb-true}
use Rattle.std.specs.List.{cons_option, list_any}
use Rattle.std.proofs.lemmas.List.Elements.{filter-append}
use Rattle.farm_types.specs.declared.stage.Stage.{Stage}
use Rattle.farm_entry.specs.Due.{is_open, open_leases}
use Rattle.farm_entry.specs.History.{is_reported, lease_in, leases, same_stage, told_in}
use Rattle.farm_entry.specs.declared.entry.Entry.{Entry}
use Rattle.farm_entry.specs.declared.lease.LeasedRun.{LeasedRun}
use Rattle.farm_laws.proofs.Counts.{IsCounted, count_by-append, counted_cases, filter-fewer}
use Rattle.farm_laws.proofs.Filters.{is_reported-grow, leases-grow}

-- whether a lease is of a search
abbrev pub is_for : (search : ℕ) → LeasedRun → Bool
is_for search l = l.search == search

-- whether a lease is of a stage and open at a moment
abbrev pub is_out : List Entry → Stage → (moment : ℕ) → LeasedRun → Bool
is_out H stage moment l = same_stage l.stage stage && is_open H moment l

-- a test that holds with one report more, and later, held before
still_open : (of_stage reported by_new late early : Bool) → (late ≡ true → early ≡ true) →
    (of_stage && (not (reported || by_new) && late)) ≡ true → (of_stage && (not reported && early)) ≡ true
still_open true false false late early sooner going = sooner going
still_open true false true late early sooner going = cc
still_open true true by_new late early sooner going = cc
still_open false reported by_new late early sooner going = cc

before_deadline : (moment later deadline : ℕ) → moment ≤ later → nat_lt later deadline ≡ true → nat_lt moment deadline ≡ true
before_deadline moment later deadline before going =
    let lies : later < deadline = ltb-true later deadline going in lt-ltb moment deadline (omega arith)

-- a lease that is open was open at an earlier moment and with one entry less
pub out-before : (H : List Entry) (e : Entry) (stage : Stage) (moment later : ℕ) (l : LeasedRun) → moment ≤ later →
    is_out (H ++ e ∷ []) stage later l ≡ true → is_out H stage moment l ≡ true
out-before H e stage moment later l before out =
    let new : Bool = list_any (λ (told : ℕ). told == l.run) (cons_option (told_in e.what) []) in
    still_open (same_stage l.stage stage) (is_reported H l.run) new (nat_lt later l.deadline) (nat_lt moment l.deadline)
    (before_deadline moment later l.deadline before)
    (ap (λ (b : Bool). same_stage l.stage stage && (not b && nat_lt later l.deadline)) (sym (is_reported-grow H e l.run)) ∙ out)

-- the leases that an entry adds to the open ones of a search
abbrev pub new_out : List Entry → Entry → (search : ℕ) → Stage → (moment : ℕ) → List LeasedRun
new_out H e search stage moment = filter (is_out (H ++ e ∷ []) stage moment) (filter (is_for search) (cons_option (lease_in e.what) []))

-- the open leases are some of those that were open at an earlier moment, and the new one
pub out-grow : (t : LeasedRun → Bool) (H : List Entry) (e : Entry) (s : ℕ) (stage : Stage) (moment later : ℕ) → moment ≤ later →
    count_by t (open_leases (H ++ e ∷ []) s stage later)
    ≤ count_by t (open_leases H s stage moment) + count_by t (new_out H e s stage later)
out-grow t H e s stage moment later before =
    let longer : LeasedRun → Bool = is_out (H ++ e ∷ []) stage later in
    let new : List LeasedRun = filter (is_for s) (cons_option (lease_in e.what) []) in
    let split : open_leases (H ++ e ∷ []) s stage later ≡ filter longer (leases H s) ++ filter longer new =
    ap (filter longer) (leases-grow H e s) ∙ filter-append longer (leases H s) new in
    let counts : count_by t (open_leases (H ++ e ∷ []) s stage later) ≡ count_by t (filter longer (leases H s)) + count_by t (filter longer new) =
    ap (count_by t) split ∙ count_by-append t (filter longer (leases H s)) (filter longer new) in
    let fewer : count_by t (filter longer (leases H s)) ≤ count_by t (open_leases H s stage moment) =
    filter-fewer t longer (is_out H stage moment) (leases H s) (λ l out. out-before H e stage moment later l before out) in
    omega arith

-- an entry hands out a run of a search at a stage, and its lease passes a test
pub record IsHanded (o : Option LeasedRun) (s : ℕ) (stage : Stage) (t : LeasedRun → Bool) : Type 0 where
  pub lease : LeasedRun
  pub there : o ≡ Some lease
  pub of_search : is_for s lease ≡ true
  pub at_stage : same_stage lease.stage stage ≡ true
  pub tested : t lease ≡ true

both-first : (a b : Bool) → (a && b) ≡ true → a ≡ true
both-first true b h = refl
both-first false b h = h

handed_cases : (o : Option LeasedRun) (s : ℕ) (stage : Stage) (t going : LeasedRun → Bool) →
    (count_by t (filter (λ (l : LeasedRun). same_stage l.stage stage && going l) (filter (is_for s) (cons_option o []))) ≡ 0)
    ⊎ (IsHanded o s stage t
    × (count_by t (filter (λ (l : LeasedRun). same_stage l.stage stage && going l) (filter (is_for s) (cons_option o []))) ≡ 1))
handed_cases None s stage t going = inl refl
handed_cases (Some l) s stage t going =
    let p : LeasedRun → Bool = λ x. same_stage x.stage stage && going x in
    ⊎_elim (λ (none : count_by t (filter p (filter (is_for s) (l ∷ []))) ≡ 0). inl none)
    (λ (one : IsCounted t p (is_for s) l × (count_by t (filter p (filter (is_for s) (l ∷ []))) ≡ 1)).
    inr (
      record {
        lease = l;
        there = refl;
        of_search = one.0.first;
        at_stage = both-first (same_stage l.stage stage) (going l) one.0.second;
        tested = one.0.test;
      },
      one.1,
    ))
    (counted_cases t p (is_for s) l)

-- an entry adds no open lease that passes a test, or it hands out such a run, and adds one
pub new_cases : (t : LeasedRun → Bool) (H : List Entry) (e : Entry) (s : ℕ) (stage : Stage) (moment : ℕ) →
    (count_by t (new_out H e s stage moment) ≡ 0)
    ⊎ (IsHanded (lease_in e.what) s stage t × (count_by t (new_out H e s stage moment) ≡ 1))
new_cases t H e s stage moment = handed_cases (lease_in e.what) s stage t (is_open (H ++ e ∷ []) moment)
