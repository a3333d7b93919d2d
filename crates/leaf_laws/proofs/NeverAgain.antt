-- A position that was skipped is never handed out again.
use Rattle.std.proofs.Common.{◌≡◌, ℕ, zero, suc, ◌+◌, ◌-◌, ◌==◌, ◌<◌, ◌≤◌, ◌⊎◌, inl, inr, ⊎_elim, Bool, true, false, not, ◌&&◌, ◌||◌, nat_lt, if◌then◌else◌, List, [], ◌∷◌, ◌++◌, count_by, Contains, Option, Some, None, refl, sym, ap, subst, ◌∙◌, arith, true≢false, ltb-true}
use Rattle.std.specs.List.{cons_option}
use Rattle.std.specs.Option.{option_map}
use Rattle.std.proofs.lemmas.Bool.{eqb-true, false_from_ne_true}
use Rattle.std.proofs.lemmas.List.Elements.{Contains-append_cases}
use Rattle.std.proofs.lemmas.List.Folds.{list_any-append}
use Rattle.std.proofs.lemmas.Option.{none-some}
use Rattle.farm_types.specs.Moment.{moment_ms}
use Rattle.farm_types.specs.declared.stage.Stage.TheVariants.{Search, Verify}
use Rattle.farm_rules.specs.Due.{times_at}
use Rattle.farm_rules.specs.Reruns.{reruns_at}
use Rattle.threshold_pick.specs.Open.{is_skipped}
use Rattle.weight_exact.specs.Counts.{is_fail_at, is_pass_at}
use Rattle.weight_exact.specs.Load.{is_fail}
use Rattle.weight_exact.specs.declared.run.Run.{Run}
use Rattle.farm_entry.specs.Due.{due, due_at, due_searching, due_verifying, outstanding_positions}
use Rattle.farm_entry.specs.History.{lease_in, leases, opening_numbered, openings, reruns, skipped}
use Rattle.farm_entry.specs.Legal.{IsLegal}
use Rattle.farm_entry.specs.Standing.{standing}
use Rattle.farm_entry.specs.declared.entry.Entry.{Entry}
use Rattle.farm_entry.specs.declared.lease.DueRun.{DueRun}
use Rattle.farm_entry.specs.declared.lease.LeasedRun.{LeasedRun}
use Rattle.farm_entry.specs.declared.opening.Opening.{Opening}
use Rattle.farm_entry.specs.declared.standing.Standing.{Standing}
use Rattle.farm_entry.specs.declared.standing.Standing.TheVariants.{Searching, Verifying, Confirmed, Vindicated, NoCulprit, Inconclusive, Cancelled}
use Rattle.farm_laws.proofs.Counts.{count_by-le}
use Rattle.farm_laws.proofs.Ends.{some-entries}
use Rattle.farm_laws.proofs.EntryParts.{leased-facts}
use Rattle.farm_laws.proofs.Filters.{leases-grow}
use Rattle.farm_laws.proofs.InRange.{due_searching-planned}
use Rattle.farm_laws.proofs.Induct.{IsLegal-first, IsLegal-rest, grown}
use Rattle.farm_laws.proofs.Known.{next_run-due}
use Rattle.farm_laws.proofs.Lists.{there-filter}
use Rattle.farm_laws.proofs.Numbered.{opening-found}
use Rattle.farm_laws.proofs.Opened.{opened-stays}
use Rattle.farm_laws.proofs.RunSteps.{NewSkip, skip-step}
use Rattle.farm_laws.proofs.Stepped.{Stepped}
use Rattle.leaf_laws.specs.Stands.{IsBeingRerun}
use Rattle.farm_laws.proofs.Counting.{some-equal}
use Rattle.leaf_laws.proofs.Suspects.{standing-verifying}

-- What is due.

-- the value that an option was made of
made-at : (make : ℕ → DueRun) (o : Option ℕ) (d : DueRun) → ((k : ℕ) → (make k).position ≡ k) → option_map make o ≡ Some d →
    o ≡ Some d.position
made-at make None d is h = absurd (none-some d h)
made-at make (Some k) d is h =
    let same : make k ≡ d = cc in ap Some (sym (is k) ∙ ap (λ (x : DueRun). x.position) same)

-- a rerun is due at the suspect or just below it, where fewer reruns are counted than were asked for
few-first : (a out v : ℕ) → nat_lt (a + out) v ≡ true → a < v
few-first a out v h = let less : a + out < v = ltb-true (a + out) v h in omega (arith, less)

due-sides : (c a b v k x y : ℕ) (first second : Bool) → nat_lt (a + x) v ≡ first → nat_lt (b + y) v ≡ second →
    (if first then Some c else (if second then Some (c - 1) else None)) ≡ Some k →
    ((k ≡ c) × (a < v)) ⊎ ((k ≡ c - 1) × (b < v))
due-sides c a b v k x y true second e1 e2 h = let same : c ≡ k = cc in inl (sym same, few-first a x v e1)
due-sides c a b v k x y false true e1 e2 h = let same : c - 1 ≡ k = cc in inr (sym same, few-first b y v e2)
due-sides c a b v k x y false false e1 e2 h = absurd (none-some k h)

and-right : (a b : Bool) → (a && b) ≡ true → b ≡ true
and-right true b h = h
and-right false b h = absurd (true≢false (sym h))

fails-few : (c : ℕ) (again : List Run) → count_by (is_fail_at c) again ≤ reruns_at c again
fails-few c again =
    count_by-le (is_fail_at c) (λ (r : Run). r.position == c) again
    (λ r is. and-right (is_fail r.verdict) (r.position == c) is)

passes-few : (c : ℕ) (again : List Run) → count_by (is_pass_at c) again ≤ reruns_at c again
passes-few c again =
    count_by-le (is_pass_at c) (λ (r : Run). r.position == c) again
    (λ r is. and-right (not (is_fail r.verdict)) (r.position == c) is)

-- the side on which a rerun is due wasn't skipped
verify-unskipped : (H : List Entry) (o : Opening) (c k : ℕ) → IsBeingRerun H o c →
    ((k ≡ c) × (reruns_at c (reruns H o.search) < o.reruns))
    ⊎ ((k ≡ c - 1) × (reruns_at (c - 1) (reruns H o.search) < o.reruns)) →
    is_skipped (skipped H o.search) k ≡ false
verify-unskipped H o c k being (inl (same, few)) =
    subst (λ (n : ℕ). is_skipped (skipped H o.search) n ≡ false) (sym same)
    (false_from_ne_true (is_skipped (skipped H o.search) c) (λ gone.
    being.possible (inl (gone, omega (arith, few, fails-few c (reruns H o.search))))))
verify-unskipped H o c k being (inr (same, few)) =
    subst (λ (n : ℕ). is_skipped (skipped H o.search) n ≡ false) (sym same)
    (false_from_ne_true (is_skipped (skipped H o.search) (c - 1)) (λ gone.
    being.possible (inr (gone, omega (arith, few, passes-few (c - 1) (reruns H o.search))))))

due-by : (H : List Entry) (o : Opening) (m : ℕ) (d : DueRun) (s : Standing) → standing H o ≡ s → due_at s H o m ≡ Some d →
    is_skipped (skipped H o.search) d.position ≡ false
due-by H o m d Searching stands is =
    (due_searching-planned H o m d.position
    (made-at (λ k. record { search = o.search; stage = Search; position = k }) (due_searching H o m) d (λ k. refl) is)).1
due-by H o m d (Verifying c) stands is =
    let again = reruns H o.search in
    let out = outstanding_positions H o.search Verify m in
    let at : due_verifying H o c m ≡ Some d.position =
    made-at (λ k. record { search = o.search; stage = Verify; position = k }) (due_verifying H o c m) d (λ k. refl) is in
    verify-unskipped H o c d.position (standing-verifying H o c stands)
    (due-sides c (reruns_at c again) (reruns_at (c - 1) again) o.reruns d.position (times_at c out) (times_at (c - 1) out)
    (nat_lt (reruns_at c again + times_at c out) o.reruns) (nat_lt (reruns_at (c - 1) again + times_at (c - 1) out) o.reruns)
    refl refl at)
due-by H o m d (Confirmed c) stands is = absurd (none-some d is)
due-by H o m d (Vindicated c) stands is = absurd (none-some d is)
due-by H o m d NoCulprit stands is = absurd (none-some d is)
due-by H o m d Inconclusive stands is = absurd (none-some d is)
due-by H o m d Cancelled stands is = absurd (none-some d is)

pub due-unskipped : (H : List Entry) (o : Opening) (m : ℕ) (d : DueRun) → due H o m ≡ Some d →
    is_skipped (skipped H o.search) d.position ≡ false
due-unskipped H o m d is = due-by H o m d (standing H o) refl is

-- Leases in longer histories.

-- a skipped position stays skipped
or-left : (a b : Bool) → a ≡ true → (a || b) ≡ true
or-left true b h = refl
or-left false b h = absurd (true≢false (sym h))

skipped-more : (skips more : List ℕ) (k : ℕ) → is_skipped skips k ≡ true → is_skipped (skips ++ more) k ≡ true
skipped-more skips more k h =
    list_any-append (λ (p : ℕ). p == k) skips more ∙ or-left (is_skipped skips k) (is_skipped more k) h

skipped-stays : (H : List Entry) (e : Entry) (o : Opening) (k : ℕ) → IsLegal H → Contains (openings H) o →
    Stepped H e.at e.what → is_skipped (skipped H o.search) k ≡ true → is_skipped (skipped (H ++ e ∷ []) o.search) k ≡ true
skipped-stays H e o k legal there s h =
    ⊎_elim
    (λ (same : skipped (H ++ e ∷ []) o.search ≡ skipped H o.search). ap (λ (xs : List ℕ). is_skipped xs k) same ∙ h)
    (λ (new : NewSkip H e o).
    ap (λ (xs : List ℕ). is_skipped xs k) new.grown ∙ skipped-more (skipped H o.search) (new.lease.position ∷ []) k h)
    (skip-step H e o legal there s)

-- a lease that an entry hands out of a search was due in it
one-lease : (o : Option LeasedRun) (l : LeasedRun) → Contains (cons_option o []) l → o ≡ Some l
one-lease None l h = absurd (omega (arith, h.1))
one-lease (Some x) l (zero, below, is) = ap Some is
one-lease (Some x) l (suc k, below, is) = absurd (omega (arith, below))

new-unskipped : (H : List Entry) (e : Entry) (o : Opening) (l : LeasedRun) → IsLegal H → Contains (openings H) o →
    Stepped H e.at e.what → lease_in e.what ≡ Some l → l.search ≡ o.search →
    is_skipped (skipped H o.search) l.position ≡ false
new-unskipped H e o l legal there s is same =
    let due_in = next_run-due H (moment_ms e.at) _ (leased-facts H e.at e.what l is s).due in
    let found : opening_numbered H o.search ≡ Some due_in.opening =
    ap (opening_numbered H) (sym same ∙ due_in.of_search) ∙ opening-found H due_in.opening legal due_in.there in
    let it : due_in.opening ≡ o =
    some-equal due_in.opening o (opening_numbered H o.search) found (opening-found H o legal there) in
    subst (λ (x : Opening). is_skipped (skipped H x.search) l.position ≡ false) it
    (due-unskipped H due_in.opening (moment_ms e.at) _ due_in.is_due)

-- what stays from a history on: the search is opened, the position is skipped, and its leases there are those of before
record KeptAway (H G : List Entry) (o : Opening) (l : LeasedRun) : Type 0 where
  opened : Contains (openings G) o
  gone : is_skipped (skipped G o.search) l.position ≡ true
  old : Contains (leases G o.search) l → Contains (leases H o.search) l

kept-away : (H G : List Entry) (e : Entry) (o : Opening) (l : LeasedRun) → IsLegal G → KeptAway H G o l →
    Stepped G e.at e.what → KeptAway H (G ++ e ∷ []) o l
kept-away H G e o l legal k s = record {
  opened = opened-stays G e o k.opened;
  gone = skipped-stays G e o l.position legal k.opened s k.gone;
  old = λ there.
      ⊎_elim (λ (before : Contains (leases G o.search) l). k.old before)
      (λ (new : _).
      let at = there-filter (λ (x : LeasedRun). x.search == o.search) (cons_option (lease_in e.what) []) l new in
      let same : l.search ≡ o.search = eqb-true l.search o.search at.1 in
      absurd (true≢false (sym k.gone
      ∙ new-unskipped G e o l legal k.opened s (one-lease (lease_in e.what) l at.0) same)))
      (Contains-append_cases (leases G o.search) _ l
      (subst (λ (ls : List LeasedRun). Contains ls l) (leases-grow G e o.search) there));
}

pub never-again : (H K : List Entry) (o : Opening) (l : LeasedRun) → IsLegal (H ++ K) → Contains (openings H) o →
    is_skipped (skipped H o.search) l.position ≡ true → Contains (leases (H ++ K) o.search) l →
    Contains (leases H o.search) l
never-again H K o l legal there gone later =
    let some = some-entries H o there in
    let kept = grown (λ (G : List Entry). KeptAway H G o l) (λ G e is k s. kept-away H G e o l is k s) H K
    (IsLegal-first H K some legal) (record { opened = there; gone = gone; old = λ h. h }) (IsLegal-rest H K some legal) in
    kept.old later
