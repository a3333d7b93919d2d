-- What a search names stays, and so does how it ended.
use Rattle.std.proofs.Common.{◌≡◌, ◌≢◌, ◌⊎◌, inl, inr, ℕ, ◌≤◌, Bool, true, false, not, ◌&&◌, ◌||◌, if◌then◌else◌, List, [], ◌∷◌, ◌++◌, Contains, Some, refl, sym, ap, subst, ◌∙◌, arith, true≢false, ⊎_elim}
use Rattle.std.specs.Option.{is_none}
use Rattle.threshold_pick.specs.HiddenBlocks.{is_hidden}
use Rattle.std.proofs.lemmas.Bool.{cases_Bool}
use Rattle.farm_types.specs.declared.stage.Stage.TheVariants.{Search}
use Rattle.weight_exact.specs.Load.{load}
use Rattle.weight_exact.proofs.Floors.{load-none}
use Rattle.weight_exact.specs.Share.{reached}
use Rattle.weight_exact.specs.declared.run.Run.{Run}
use Rattle.farm_entry.specs.History.{openings, reruns, runs, skipped, was_cancelled, went_over}
use Rattle.farm_entry.specs.Legal.{AreNext, IsLegal}
use Rattle.farm_entry.specs.Setup.{budget_of_search, setup_of}
use Rattle.farm_entry.specs.Standing.{is_active, is_searching, at_bar, standing, standing_of_reached}
use Rattle.farm_entry.specs.declared.entry.Entry.{Entry}
use Rattle.farm_entry.specs.declared.opening.Opening.{Opening}
use Rattle.farm_entry.specs.declared.standing.Standing.{Standing}
use Rattle.farm_entry.specs.declared.standing.Standing.TheVariants.{Searching, Verifying, Confirmed, Vindicated, NoCulprit, Inconclusive, Cancelled}
use Rattle.farm_laws.specs.Laws.{culprit_of}
use Rattle.farm_laws.proofs.Filters.{was_cancelled-grow}
use Rattle.farm_laws.proofs.Induct.{IsLegal-first, IsLegal-rest, grown}
use Rattle.farm_laws.proofs.Opened.{each_opened, fresh-counted, opened-stays}
use Rattle.farm_laws.proofs.RunSteps.{GrownRuns, NewSkip, cancel-step, over-step, reruns-step, runs-step, skip-step}
use Rattle.farm_laws.proofs.Standings.{at_bar-searching, culprit-at_bar, inactive-searching, inactive-verifying, is_searching-parts, is_undecided, searching-is}
use Rattle.farm_laws.proofs.Stepped.{Stepped}

-- no runs fit every budget
pub none-fits : (o : Opening) → load (setup_of o).factors [] ≤ budget_of_search o
none-fits o = omega (arith, load-none (setup_of o).factors)

-- the load of an opened search fits its budget
pub load-fits : (H : List Entry) → IsLegal H → (o : Opening) → Contains (openings H) o →
    load (setup_of o).factors (runs H o.search) ≤ budget_of_search o
load-fits =
    each_opened (λ (H : List Entry) (o : Opening). load (setup_of o).factors (runs H o.search) ≤ budget_of_search o)
    (λ H e o legal s is.
    subst (λ (x : List Run). load (setup_of o).factors x ≤ budget_of_search o) (sym (fresh-counted H e o Search legal s is)) (none-fits o))
    (λ H e o legal there s fits.
    ⊎_elim
    (λ (same : runs (H ++ e ∷ []) o.search ≡ runs H o.search).
    subst (λ (x : List Run). load (setup_of o).factors x ≤ budget_of_search o) (sym same) fits)
    (λ (new : GrownRuns H e o). new.within)
    (runs-step H e o legal there s))

-- what one alternative excludes

unless : {A B : Type 0} → A ⊎ B → (B → ⊥) → A
unless (inl a) never = a
unless (inr b) never = absurd (never b)

both-ways : (b : Bool) → b ≡ false → b ≡ true → ⊥
both-ways b is_false is_true = true≢false (sym is_true ∙ is_false)

-- the runs of a search that isn't searching stay with an entry appended
pub runs-kept : (H : List Entry) (e : Entry) (o : Opening) → IsLegal H → Contains (openings H) o → Stepped H e.at e.what →
    is_searching (standing H o) ≡ false → runs (H ++ e ∷ []) o.search ≡ runs H o.search
runs-kept H e o legal there s idle =
    unless (runs-step H e o legal there s) (λ (new : GrownRuns H e o). both-ways _ idle new.searching)

pub over-kept : (H : List Entry) (e : Entry) (o : Opening) → IsLegal H → Contains (openings H) o → Stepped H e.at e.what →
    is_searching (standing H o) ≡ false → went_over (H ++ e ∷ []) o.search ≡ went_over H o.search
over-kept H e o legal there s idle = unless (over-step H e o legal there s) (both-ways _ idle)

-- the skipped positions of a search that has ended stay with an entry appended
pub skips-kept : (H : List Entry) (e : Entry) (o : Opening) → IsLegal H → Contains (openings H) o → Stepped H e.at e.what →
    is_active (standing H o) ≡ false → skipped (H ++ e ∷ []) o.search ≡ skipped H o.search
skips-kept H e o legal there s ended =
    unless (skip-step H e o legal there s) (λ (new : NewSkip H e o). both-ways _ ended new.active)

-- what a search names stays
pub at_bar-stays : (H : List Entry) (e : Entry) (o : Opening) (c : ℕ) → IsLegal H → Contains (openings H) o → Stepped H e.at e.what →
    at_bar H o ≡ Some c → at_bar (H ++ e ∷ []) o ≡ Some c
at_bar-stays H e o c legal there s is =
    ap (reached (setup_of o)) (runs-kept H e o legal there s (at_bar-searching H o c is)) ∙ is

-- a search that isn't searching never searches again

still-not : (cancelled more over undecided : Bool) → (not cancelled && (not over && undecided)) ≡ false →
    (not (cancelled || more) && (not over && undecided)) ≡ false
still-not true more over undecided h = refl
still-not false true over undecided h = refl
still-not false false over undecided h = h

-- a search that goes on and isn't searching names a suspect
active-names : (s : Standing) → is_active s ≡ true → is_searching s ≡ false → (c : ℕ) × (culprit_of s ≡ Some c)
active-names (Verifying c) goes idle = (c, refl)
active-names Searching goes idle = absurd (true≢false idle)
active-names (Confirmed c) goes idle = absurd (true≢false (sym goes))
active-names (Vindicated c) goes idle = absurd (true≢false (sym goes))
active-names NoCulprit goes idle = absurd (true≢false (sym goes))
active-names Inconclusive goes idle = absurd (true≢false (sym goes))
active-names Cancelled goes idle = absurd (true≢false (sym goes))

-- one that has ended, since nothing of it changes but that it may be cancelled
ended-kept : (H : List Entry) (e : Entry) (o : Opening) → IsLegal H → Contains (openings H) o → Stepped H e.at e.what →
    is_searching (standing H o) ≡ false → is_active (standing H o) ≡ false → is_searching (standing (H ++ e ∷ []) o) ≡ false
ended-kept H e o legal there s idle ended =
    let longer = H ++ e ∷ [] in
    let past : went_over longer o.search ≡ went_over H o.search = over-kept H e o legal there s idle in
    let counted : runs longer o.search ≡ runs H o.search = runs-kept H e o legal there s idle in
    let skips : skipped longer o.search ≡ skipped H o.search = skips-kept H e o legal there s ended in
    let same : is_undecided longer o ≡ is_undecided H o =
    λ i. is_none (reached (setup_of o) (counted i)) && not (is_hidden (setup_of o) (counted i) (skips i)) in
    is_searching-parts longer o
    ∙ (λ i. not (was_cancelled-grow H e o.search i) && (not (past i) && same i))
    ∙ still-not (was_cancelled H o.search) _ (went_over H o.search) (is_undecided H o) (sym (is_searching-parts H o) ∙ idle)

pub not_searching-kept : (H : List Entry) (e : Entry) (o : Opening) → IsLegal H → Contains (openings H) o → Stepped H e.at e.what →
    is_searching (standing H o) ≡ false → is_searching (standing (H ++ e ∷ []) o) ≡ false
not_searching-kept H e o legal there s idle =
    ⊎_elim
    (λ (goes : is_active (standing H o) ≡ true).
    let names = active-names (standing H o) goes idle in
    at_bar-searching (H ++ e ∷ []) o names.0
    (at_bar-stays H e o names.0 legal there s (culprit-at_bar H o names.0 names.1).0))
    (λ (ended : is_active (standing H o) ≡ false). ended-kept H e o legal there s idle ended)
    (cases_Bool (is_active (standing H o)))

-- what stays from a history on

pub record Kept (H G : List Entry) (o : Opening) : Type 0 where
  pub opened : Contains (openings G) o
  pub runs_are : runs G o.search ≡ runs H o.search
  pub not_searching : is_searching (standing G o) ≡ false

pub runs-stay : (H K : List Entry) (o : Opening) → IsLegal H → AreNext H K → Contains (openings H) o →
    is_searching (standing H o) ≡ false → Kept H (H ++ K) o
runs-stay H K o legal next there idle =
    grown (λ (G : List Entry). Kept H G o)
    (λ G e is kept s. record {
      opened = opened-stays G e o kept.opened;
      runs_are = runs-kept G e o is kept.opened s kept.not_searching ∙ kept.runs_are;
      not_searching = not_searching-kept G e o is kept.opened s kept.not_searching;
    })
    H K legal (record { opened = there; runs_are = refl; not_searching = idle }) next

-- a search that has ended keeps its end

pub record KeptEnd (H G : List Entry) (o : Opening) : Type 0 where
  pub opened : Contains (openings G) o
  pub stands : standing G o ≡ standing H o
  pub reruns_are : reruns G o.search ≡ reruns H o.search

pub end-kept : (H G : List Entry) (e : Entry) (o : Opening) → is_active (standing H o) ≡ false → IsLegal G → KeptEnd H G o →
    Stepped G e.at e.what → KeptEnd H (G ++ e ∷ []) o
end-kept H G e o ended is kept s =
    let inactive : is_active (standing G o) ≡ false = ap is_active kept.stands ∙ ended in
    let quiet : is_searching (standing G o) ≡ false = inactive-searching (standing G o) inactive in
    let again : reruns (G ++ e ∷ []) o.search ≡ reruns G o.search =
    unless (reruns-step G e o is kept.opened s) (both-ways _ (inactive-verifying (standing G o) inactive)) in
    let cancelled : was_cancelled (G ++ e ∷ []) o.search ≡ was_cancelled G o.search =
    unless (cancel-step G e o is kept.opened s) (both-ways _ inactive) in
    let past : went_over (G ++ e ∷ []) o.search ≡ went_over G o.search = over-kept G e o is kept.opened s quiet in
    let counted : runs (G ++ e ∷ []) o.search ≡ runs G o.search = runs-kept G e o is kept.opened s quiet in
    let skips : skipped (G ++ e ∷ []) o.search ≡ skipped G o.search = skips-kept G e o is kept.opened s inactive in
    let stands : standing (G ++ e ∷ []) o ≡ standing G o =
    λ i. if cancelled i then Cancelled
    else (if past i then Inconclusive
    else standing_of_reached o (counted i) (skips i) (again i) (reached (setup_of o) (counted i))) in
    record {
      opened = opened-stays G e o kept.opened;
      stands = stands ∙ kept.stands;
      reruns_are = again ∙ kept.reruns_are;
    }

pub end-stays : (H K : List Entry) (o : Opening) → IsLegal H → AreNext H K → Contains (openings H) o →
    is_active (standing H o) ≡ false → KeptEnd H (H ++ K) o
end-stays H K o legal next there ended =
    grown (λ (G : List Entry). KeptEnd H G o) (λ G e is kept s. end-kept H G e o ended is kept s)
    H K legal (record { opened = there; stands = refl; reruns_are = refl }) next

-- and its skipped positions

record KeptSkips (H G : List Entry) (o : Opening) : Type 0 where
  kept : KeptEnd H G o
  skips_are : skipped G o.search ≡ skipped H o.search

pub skips-stay : (H K : List Entry) (o : Opening) → IsLegal H → AreNext H K → Contains (openings H) o →
    is_active (standing H o) ≡ false → skipped (H ++ K) o.search ≡ skipped H o.search
skips-stay H K o legal next there ended =
    (grown (λ (G : List Entry). KeptSkips H G o)
    (λ G e is all s. record {
      kept = end-kept H G e o ended is all.kept s;
      skips_are = skips-kept G e o is all.kept.opened s (ap is_active all.kept.stands ∙ ended) ∙ all.skips_are;
    })
    H K legal
    (record { kept = record { opened = there; stands = refl; reruns_are = refl }; skips_are = refl }) next).skips_are

cons-nil : (e : Entry) (H : List Entry) → e ∷ H ≡ [] → ⊥
cons-nil e H h = let b : true ≡ false = cc in true≢false b

-- an opened search is of a history that isn't empty
pub some-entries : (H : List Entry) (o : Opening) → Contains (openings H) o → H ≢ []
some-entries [] o there = absurd (omega (arith, there.1))
some-entries (e ∷ H) o there = λ same. absurd (cons-nil e H same)

-- The same in words of a longer legal history.

quiet-from : (s : Standing) → s ≢ Searching → is_searching s ≡ false
quiet-from s other =
    ⊎_elim (λ (yes : is_searching s ≡ true). absurd (other (searching-is s yes))) (λ (quiet : is_searching s ≡ false). quiet)
    (cases_Bool (is_searching s))

pub runs-stop : (H K : List Entry) (o : Opening) → IsLegal (H ++ K) → Contains (openings H) o → standing H o ≢ Searching →
    (runs (H ++ K) o.search ≡ runs H o.search) × (at_bar (H ++ K) o ≡ at_bar H o)
runs-stop H K o legal there other =
    let some = some-entries H o there in
    let kept = runs-stay H K o (IsLegal-first H K some legal) (IsLegal-rest H K some legal) there (quiet-from (standing H o) other) in
    (kept.runs_are, ap (reached (setup_of o)) kept.runs_are)

pub end-final : (H K : List Entry) (o : Opening) → IsLegal (H ++ K) → Contains (openings H) o → is_active (standing H o) ≡ false →
    (standing (H ++ K) o ≡ standing H o) × (reruns (H ++ K) o.search ≡ reruns H o.search)
    × (skipped (H ++ K) o.search ≡ skipped H o.search)
end-final H K o legal there ended =
    let some = some-entries H o there in
    let first = IsLegal-first H K some legal in
    let rest = IsLegal-rest H K some legal in
    let kept = end-stays H K o first rest there ended in
    (kept.stands, kept.reruns_are, skips-stay H K o first rest there ended)
