-- The reruns of a search are what a verification of its suspect went through.
use Rattle.std.proofs.Common.{◌≡◌, ◌≢◌, ℕ, zero, suc, ◌+◌, ◌-◌, ◌==◌, ◌≤◌, ◌⊎◌, Bool, true, false, not, ◌&&◌, nat_lt, if◌then◌else◌, List, [], ◌∷◌, ◌++◌, count_by, Contains, Option, Some, None, refl, sym, ap, subst, inl, inr, ◌∙◌, ⊎_elim, arith, true≢false}
use Rattle.farm_rules.specs.Reruns.{Outcome, after_rerun, after_reruns, confirmed, counts, enough, is_verifying, outcome, reruns_at, vindicated, vindicating, verifying}
use Rattle.farm_types.specs.declared.stage.Stage.{Stage}
use Rattle.farm_types.specs.declared.stage.Stage.TheVariants.{Search, Verify}
use Rattle.farm_rules.proofs.Noted.{reruns_at-after_reruns}
use Rattle.weight_exact.specs.Counts.{is_fail_at, is_pass_at}
use Rattle.weight_exact.specs.Load.{is_fail}
use Rattle.weight_exact.specs.Weights.{suspects}
use Rattle.weight_exact.specs.declared.run.Run.{Run}
use Rattle.weight_exact.specs.declared.run.Verdict.{Verdict}
use Rattle.farm_entry.specs.Decision.{fate_at, is_past_budget, run_with}
use Rattle.farm_entry.specs.History.{is_counted, openings, reruns, same_stage, was_cancelled, went_over}
use Rattle.farm_entry.specs.Legal.{IsLegal}
use Rattle.farm_entry.specs.Setup.{setup_of}
use Rattle.farm_entry.specs.Standing.{at_bar, standing}
use Rattle.farm_entry.specs.declared.entry.Entry.{Entry}
use Rattle.farm_entry.specs.declared.entry.Fate.TheVariants.{Counted, Late, Over}
use Rattle.farm_entry.specs.declared.lease.LeasedRun.{LeasedRun}
use Rattle.farm_entry.specs.declared.opening.Opening.{Opening}
use Rattle.farm_entry.specs.declared.standing.Standing.{Standing}
use Rattle.farm_entry.specs.declared.standing.Standing.TheVariants.{Searching, Verifying, Confirmed, Vindicated, NoCulprit, Inconclusive, Cancelled}
use Rattle.farm_laws.specs.Laws.{culprit_of}
use Rattle.farm_laws.proofs.Counts.{count_by-le}
use Rattle.farm_laws.proofs.Ends.{at_bar-stays, over-kept, some-entries}
use Rattle.farm_laws.proofs.InRange.{lease-fits}
use Rattle.farm_laws.proofs.Induct.{IsLegal-first, IsLegal-rest, grown}
use Rattle.farm_laws.proofs.Numbered.{lease-there}
use Rattle.farm_laws.proofs.Opened.{each_opened, fresh-counted, opened-stays}
use Rattle.farm_laws.proofs.RunSteps.{NewRun, counted-step}
use Rattle.farm_laws.proofs.Standings.{at_bar-searching}
use Rattle.farm_laws.proofs.Stepped.{Stepped}
use Rattle.leaf_laws.proofs.Sides.{counts-lacking, silent-vindicated}
use Rattle.leaf_laws.specs.Stands.{IsNamed, IsUnprovable}
use Rattle.leaf_laws.proofs.Views.{bar-reached, cancelled-standing, named-cases, reached-bar, unprovable-standing}
use Rattle.leaf_laws.proofs.Suspects.{standing-confirmed, standing-verifying}
use Rattle.farm_laws.proofs.Counting.{some-equal}

-- One rerun more.

after_reruns-append : (c v : ℕ) (before rs more : List Run) → after_reruns c v before
    (rs ++ more) ≡ after_reruns c v (after_reruns c v before rs) more
after_reruns-append c v before [] more = refl
after_reruns-append c v before (r ∷ rs) more = after_reruns-append c v (after_rerun c v before r) rs more

-- a list that a verification went through, and a rerun more that counts
through-push : (c v : ℕ) (rs : List Run) (r : Run) → after_reruns c v [] rs ≡ rs → counts c v rs r ≡ true →
    after_reruns c v [] (rs ++ r ∷ []) ≡ rs ++ r ∷ []
through-push c v rs r through one =
    after_reruns-append c v [] rs (r ∷ [])
    ∙ ap (λ (xs : List Run). after_rerun c v xs r) through
    ∙ ap (λ (b : Bool). if b then rs ++ r ∷ [] else rs) one

-- What holds of the reruns by the hypothesis at the bar.

abbrev IsAtSide : ℕ → Run → Type 0
IsAtSide c r = (r.position ≡ c) ⊎ (r.position + 1 ≡ c)

record WentThrough (c v : ℕ) (rs : List Run) : Type 0 where
  sides : (r : Run) → Contains rs r → IsAtSide c r
  through : after_reruns c v [] rs ≡ rs

abbrev Verified : Option ℕ → ℕ → List Run → Type 0
Verified None v rs = rs ≡ []
Verified (Some c) v rs = WentThrough c v rs

no-reruns : (c v : ℕ) (rs : List Run) → rs ≡ [] → WentThrough c v rs
no-reruns c v rs none =
    subst (WentThrough c v) (sym none) (record { sides = λ r there. absurd (omega (arith, there.1)); through = refl })

none-verified : (n : Option ℕ) (v : ℕ) (rs : List Run) → rs ≡ [] → Verified n v rs
none-verified None v rs none = none
none-verified (Some c) v rs none = no-reruns c v rs none

-- members of a list and one more
member-push : {X : Type 0} (xs : List X) (x y : X) (P : Type 0) → (Contains xs y → P) → (x ≡ y → P) →
    Contains (xs ++ x ∷ []) y → P
member-push [] x y P old new (zero, below, is) = new is
member-push [] x y P old new (suc k, below, is) = absurd (omega arith)
member-push (z ∷ xs) x y P old new (zero, below, is) = old (0, omega arith, is)
member-push (z ∷ xs) x y P old new (suc k, below, is) =
    member-push xs x y P (λ (h : Contains xs y). old (suc h.0, omega (arith, h.1), h.2)) new (k, omega arith, is)

push-through : (c v : ℕ) (rs : List Run) (r : Run) → WentThrough c v rs → IsAtSide c r → counts c v rs r ≡ true →
    WentThrough c v (rs ++ r ∷ [])
push-through c v rs r w side one = record {
  sides = λ x there. member-push rs r x (IsAtSide c x) (λ (h : Contains rs x). w.sides x h) (λ (same : r ≡ x).
      subst (IsAtSide c) same side) there;
  through = through-push c v rs r w.through one;
}

-- A rerun that counts comes to a search that verifies, on a side that has room.

record Counts (st : Standing) (H : List Entry) (o : Opening) (l : LeasedRun) : Type 0 where
  suspect : ℕ
  verifies : st ≡ Verifying suspect
  room : nat_lt (reruns_at l.position (reruns H o.search)) o.reruns ≡ true

both-true : (a b : Bool) → is_counted (if a && b then Counted else Late) ≡ true → b ≡ true
both-true true true h = refl
both-true true false h = absurd (true≢false (sym h))
both-true false b h = absurd (true≢false (sym h))

search-not : (s : Stage) (past : Bool) → same_stage s Verify ≡ true →
    is_counted (if same_stage s Search then (if past then Over else Counted) else Late) ≡ true → ⊥
search-not Search past v h = true≢false (sym v)
search-not Verify past v h = true≢false (sym h)

rerun-counts : (st : Standing) (H : List Entry) (o : Opening) (l : LeasedRun) (v : Verdict) →
    same_stage l.stage Verify ≡ true →
    is_counted (fate_at st H o l v) ≡ true → Counts st H o l
rerun-counts Searching H o l v at_verify h = absurd (search-not l.stage (is_past_budget H o (run_with l v)) at_verify h)
rerun-counts (Verifying c) H o l v at_verify h =
    record { suspect = c; verifies = refl; room = both-true (same_stage l.stage Verify) _ h }
rerun-counts (Confirmed c) H o l v at_verify h = absurd (true≢false (sym h))
rerun-counts (Vindicated c) H o l v at_verify h = absurd (true≢false (sym h))
rerun-counts NoCulprit H o l v at_verify h = absurd (true≢false (sym h))
rerun-counts Inconclusive H o l v at_verify h = absurd (true≢false (sym h))
rerun-counts Cancelled H o l v at_verify h = absurd (true≢false (sym h))

-- With an entry appended.

is_verify : (s : Stage) → same_stage s Verify ≡ true → s ≡ Verify
is_verify Search h = absurd (true≢false (sym h))
is_verify Verify h = refl

-- a rerun of a suspect that is being verified counts where its side has room
open-counts : (c v : ℕ) (rs : List Run) (r : Run) → vindicated c rs ≡ false → enough c v rs ≡ false →
    nat_lt (reruns_at r.position rs) v ≡ true →
    counts c v rs r ≡ true
open-counts c v rs r none lacks room =
    let open_still : outcome c v rs ≡ verifying =
    ap (λ (b : Bool). if b then vindicating else (if enough c v rs then confirmed else verifying)) none
    ∙ ap (λ (b : Bool). if b then confirmed else verifying) lacks in
    ap (λ (x : Outcome). is_verifying x && nat_lt (reruns_at r.position rs) v) open_still ∙ room

new-verified : (H : List Entry) (e : Entry) (o : Opening) → IsLegal H → Contains (openings H) o →
    Stepped H e.at e.what →
    Verified (at_bar H o) o.reruns (reruns H o.search) → NewRun H e o Verify →
    Verified (at_bar (H ++ e ∷ []) o) o.reruns (reruns (H ++ e ∷ []) o.search)
new-verified H e o legal there s before new =
    let counts_it = rerun-counts (standing H o) H o new.lease new.verdict new.at_stage new.counts in
    let c : ℕ = counts_it.suspect in
    let being = standing-verifying H o c counts_it.verifies in
    let bar : at_bar H o ≡ Some c = reached-bar H o c legal there being.named.at_bar.reached in
    let went : WentThrough c o.reruns (reruns H o.search) = subst (λ (n : Option ℕ).
    Verified n o.reruns (reruns H o.search)) bar before in
    let known = (lease-there H new.lease.run new.lease new.known).0 in
    let at =
    (lease-fits H o new.lease legal there known new.of_search).verifying (is_verify new.lease.stage new.at_stage) in
    let same : at.0 ≡ c = some-equal at.0 c (at_bar H o) at.1 bar in
    let r : Run = run_with new.lease new.verdict in
    let side : IsAtSide c r = subst (λ (n : ℕ). IsAtSide n r) same at.4 in
    let one : counts c o.reruns (reruns H o.search) r ≡ true =
    open-counts c o.reruns (reruns H o.search) r
    (silent-vindicated c (reruns H o.search) being.named.at_bar.reached.first being.none_against)
    (counts-lacking c o.reruns (reruns H o.search) being.lacking) counts_it.room in
    let more : WentThrough c o.reruns (reruns (H ++ e ∷ []) o.search) =
    subst (WentThrough c o.reruns) (sym new.grown) (push-through c o.reruns (reruns H o.search) r went side one) in
    subst (λ (n : Option ℕ). Verified n o.reruns (reruns (H ++ e ∷ []) o.search)) (sym
    (at_bar-stays H e o c legal there s bar)) more

same-verified : (H : List Entry) (e : Entry) (o : Opening) (n : Option ℕ) → IsLegal H → Contains (openings H) o →
    Stepped H e.at e.what →
    at_bar H o ≡ n → Verified n o.reruns (reruns H o.search) → reruns (H ++ e ∷ []) o.search ≡ reruns H o.search →
    Verified (at_bar (H ++ e ∷ []) o) o.reruns (reruns (H ++ e ∷ []) o.search)
same-verified H e o None legal there s bar before same = none-verified (at_bar (H ++ e ∷ []) o) o.reruns _ (same
    ∙ before)
same-verified H e o (Some c) legal there s bar before same =
    subst (λ (n : Option ℕ). Verified n o.reruns (reruns (H ++ e ∷ []) o.search)) (sym
    (at_bar-stays H e o c legal there s bar))
    (subst (WentThrough c o.reruns) (sym same) before)

verified : (H : List Entry) → IsLegal H → (o : Opening) → Contains (openings H) o →
    Verified (at_bar H o) o.reruns (reruns H o.search)
verified =
    each_opened (λ (H : List Entry) (o : Opening). Verified (at_bar H o) o.reruns (reruns H o.search))
    (λ H e o legal s is. none-verified (at_bar (H ++ e ∷ []) o) o.reruns _ (fresh-counted H e o Verify legal s is))
    (λ H e o legal there s before.
    ⊎_elim
    (λ (same : reruns (H ++ e ∷ []) o.search ≡ reruns H o.search).
    same-verified H e o (at_bar H o) legal there s refl before same)
    (λ (new : NewRun H e o Verify). new-verified H e o legal there s before new)
    (counted-step H e o Verify legal there s))

pub none-rerun : (H : List Entry) (o : Opening) → IsLegal H → Contains (openings H) o → at_bar H o ≡ None →
    reruns H o.search ≡ []
none-rerun H o legal there bar =
    subst (λ (n : Option ℕ). Verified n o.reruns (reruns H o.search)) bar (verified H legal o there)

went : (H : List Entry) (o : Opening) (c : ℕ) → IsLegal H → Contains (openings H) o → at_bar H o ≡ Some c →
    WentThrough c o.reruns (reruns H o.search)
went H o c legal there bar =
    subst (λ (n : Option ℕ). Verified n o.reruns (reruns H o.search)) bar (verified H legal o there)

pub reruns-at_sides : (H : List Entry) (o : Opening) (c : ℕ) (r : Run) → IsLegal H → Contains (openings H) o →
    at_bar H o ≡ Some c →
    Contains (reruns H o.search) r → (r.position ≡ c) ⊎ (r.position + 1 ≡ c)
reruns-at_sides H o c r legal there bar is = (went H o c legal there bar).sides r is

pub reruns-went_through : (H : List Entry) (o : Opening) (c : ℕ) → IsLegal H → Contains (openings H) o →
    at_bar H o ≡ Some c →
    after_reruns c o.reruns [] (reruns H o.search) ≡ reruns H o.search
reruns-went_through H o c legal there bar = (went H o c legal there bar).through

asked-by : (H : List Entry) (o : Opening) (position : ℕ) (n : Option ℕ) → Verified n o.reruns (reruns H o.search) →
    reruns_at position (reruns H o.search) ≤ o.reruns
asked-by H o position None none = subst (λ (rs : List Run). reruns_at position rs ≤ o.reruns) (sym none) (omega arith)
asked-by H o position (Some c) w =
    subst (λ (rs : List Run). reruns_at position rs ≤ o.reruns) w.through
    (reruns_at-after_reruns c o.reruns position [] (reruns H o.search) (omega arith))

pub reruns-asked : (H : List Entry) (o : Opening) (position : ℕ) → IsLegal H → Contains (openings H) o →
    reruns_at position (reruns H o.search) ≤ o.reruns
reruns-asked H o position legal there = asked-by H o position (at_bar H o) (verified H legal o there)

-- A confirmed suspect has as many reruns that speak for it as were asked for, and no more.

and-right : (a b : Bool) → (a && b) ≡ true → b ≡ true
and-right true b h = h
and-right false b h = absurd (true≢false (sym h))

pub confirmed-exactly : (H : List Entry) (o : Opening) (c : ℕ) → IsLegal H → Contains (openings H) o →
    standing H o ≡ Confirmed c →
    (count_by (is_fail_at c) (reruns H o.search) ≡ o.reruns)
    × (count_by (is_pass_at (c - 1)) (reruns H o.search) ≡ o.reruns)
confirmed-exactly H o c legal there h =
    let again = reruns H o.search in
    let borne = standing-confirmed H o c h in
    let fails : count_by (is_fail_at c) again ≤ reruns_at c again =
    count_by-le (is_fail_at c) (λ (r : Run). r.position == c) again
    (λ r is. and-right (is_fail r.verdict) (r.position == c) is) in
    let passes : count_by (is_pass_at (c - 1)) again ≤ reruns_at (c - 1) again =
    count_by-le (is_pass_at (c - 1)) (λ (r : Run). r.position == (c - 1)) again
    (λ r is. and-right (not (is_fail r.verdict)) (r.position == (c - 1)) is) in (
      omega (arith, borne.failed, fails, reruns-asked H o c legal there),
      omega (arith, borne.passed, passes, reruns-asked H o (c - 1) legal there),
    )

-- A verification keeps its suspect.

record KeptSuspect (G : List Entry) (o : Opening) (c : ℕ) : Type 0 where
  opened : Contains (openings G) o
  bar : at_bar G o ≡ Some c
  within : went_over G o.search ≡ false

kept-suspect : (G : List Entry) (e : Entry) (o : Opening) (c : ℕ) → IsLegal G → KeptSuspect G o c →
    Stepped G e.at e.what → KeptSuspect (G ++ e ∷ []) o c
kept-suspect G e o c legal k s = record {
  opened = opened-stays G e o k.opened;
  bar = at_bar-stays G e o c legal k.opened s k.bar;
  within = over-kept G e o legal k.opened s (at_bar-searching G o c k.bar) ∙ k.within;
}

-- where such a search stands: it names the suspect, or was cancelled, or can't be proved any more
abbrev KeepsSuspect : List Entry → Opening → ℕ → Type 0
KeepsSuspect G o c =
    (culprit_of (standing G o) ≡ Some c) ⊎ (standing G o ≡ Cancelled)
    ⊎ ((standing G o ≡ Inconclusive) × IsUnprovable G o c)

by_cancellation : (G : List Entry) (o : Opening) (c : ℕ) (b : Bool) → IsLegal G → KeptSuspect G o c →
    c ≤ suspects (setup_of o) → was_cancelled G o.search ≡ b → KeepsSuspect G o c
by_cancellation G o c true legal k suspect cancelled = inr (inl (cancelled-standing G o cancelled))
by_cancellation G o c false legal k suspect uncancelled =
    let named : IsNamed G o c = record {
      at_bar = record {
        believed = record { uncancelled = uncancelled; within = k.within };
        reached = bar-reached G o c k.bar;
      };
      suspects = suspect;
    } in
    ⊎_elim
    (λ (names : culprit_of (standing G o) ≡ Some c). inl names)
    (λ (u : IsUnprovable G o c). inr (inr (unprovable-standing G o c legal k.opened u, u)))
    (named-cases G o c legal k.opened named)

pub suspect-kept : (H K : List Entry) (o : Opening) (c : ℕ) → IsLegal (H ++ K) → Contains (openings H) o →
    standing H o ≡ Verifying c → KeepsSuspect (H ++ K) o c
suspect-kept H K o c legal there verifies =
    let some = some-entries H o there in
    let first = IsLegal-first H K some legal in
    let being = standing-verifying H o c verifies in
    let start : KeptSuspect H o c = record {
      opened = there;
      bar = reached-bar H o c first there being.named.at_bar.reached;
      within = being.named.at_bar.believed.within;
    } in
    let last = grown (λ (G : List Entry). KeptSuspect G o c) (λ G e is k s.
    kept-suspect G e o c is k s) H K first start (IsLegal-rest H K some legal) in
    by_cancellation (H ++ K) o c (was_cancelled (H ++ K) o.search) legal last being.named.suspects refl
