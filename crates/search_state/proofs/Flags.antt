-- What a standing says of the parts that it is read off, and what they say of it.
use Rattle.std.proofs.Common.{◌≡◌, ℕ, ◌≤◌, ◌==◌, Bool, true, false, if◌then◌else◌, List, Option, Some, None, refl, sym, ap, subst, ◌∙◌, true≢false}
use Rattle.threshold_pick.specs.HiddenBlocks.{is_hidden}
use Rattle.farm_rules.specs.Reruns.{Outcome, confirmed, outcome, verifying, vindicating}
use Rattle.weight_exact.specs.Share.{reached}
use Rattle.weight_exact.specs.Weights.{hypotheses}
use Rattle.weight_exact.specs.declared.run.Run.{Run}
use Rattle.weight_exact.proofs.Shares.{IsReached-from_some}
use Rattle.farm_types.specs.declared.stage.Stage.{Stage}
use Rattle.farm_types.specs.declared.stage.Stage.TheVariants.{Verify}
use Rattle.farm_entry.specs.History.{is_counted, is_taken}
use Rattle.farm_entry.specs.Setup.{setup_of}
use Rattle.farm_entry.specs.Standing.{is_searching, is_verifying, lacks, standing_of_hidden, standing_of_outcome, standing_of_reached}
use Rattle.farm_entry.specs.declared.entry.Fate.{Fate}
use Rattle.farm_entry.specs.declared.entry.Fate.TheVariants as fates
use Rattle.farm_entry.specs.declared.entry.Fate.TheVariants.{Counted}
use Rattle.farm_entry.specs.declared.entry.SkipFate.{SkipFate}
use Rattle.farm_entry.specs.declared.entry.SkipFate.TheVariants.{Taken, Late}
use Rattle.farm_entry.specs.declared.opening.Opening.{Opening}
use Rattle.farm_entry.specs.declared.standing.Standing.{Standing}
use Rattle.farm_entry.specs.declared.standing.Standing.TheVariants.{Searching, Verifying, Confirmed, Vindicated, NoCulprit, Inconclusive, Cancelled}
use Rattle.search_state.specs.SearchView.{SearchView, bar_of, fate_standing, skip_fate_standing, standing_in}

-- the standing by its parts
abbrev pub standing_by : Opening → (cancelled over : Bool) → (told : List Run) → (skipped : List ℕ) → List Run →
    Option ℕ → Standing
standing_by o is_cancelled is_over told skipped again n =
    if is_cancelled then Cancelled
    else (if is_over then Inconclusive else standing_of_reached o told skipped again n)

-- a search that goes by its belief
pub believed-standing : (s : SearchView) (n : Option ℕ) → s.is_cancelled ≡ false → s.is_over ≡ false → bar_of s ≡ n →
    standing_in s ≡ standing_of_reached s.opening s.runs s.skipped s.reruns n
believed-standing s n uncancelled within bar =
    ap (λ (b : Bool). standing_by s.opening b s.is_over s.runs s.skipped s.reruns (bar_of s)) uncancelled
    ∙ ap (λ (b : Bool). standing_by s.opening false b s.runs s.skipped s.reruns (bar_of s)) within
    ∙ ap (λ (x : Option ℕ). standing_of_reached s.opening s.runs s.skipped s.reruns x) bar

-- What is searching.

pub record IsSearching (s : SearchView) : Type 0 where
  pub uncancelled : s.is_cancelled ≡ false
  pub within : s.is_over ≡ false
  pub none : bar_of s ≡ None

pub outcome-not_searching : (c : ℕ) (lacking : Bool) (x : Outcome) →
    is_searching (standing_of_outcome c lacking x) ≡ false
outcome-not_searching c true verifying = refl
outcome-not_searching c false verifying = refl
outcome-not_searching c lacking confirmed = refl
outcome-not_searching c lacking vindicating = refl

named-not_searching : (i : ℕ) (b lacking : Bool) (x : Outcome) →
    is_searching (if b then NoCulprit else standing_of_outcome i lacking x) ≡ false
named-not_searching i true lacking x = refl
named-not_searching i false lacking x = outcome-not_searching i lacking x

parts-searching : (o : Opening) (c v : Bool) (told : List Run) (skipped : List ℕ) (again : List Run) (n : Option ℕ) →
    standing_by o c v told skipped again n ≡ Searching → (c ≡ false) × (v ≡ false) × (n ≡ None)
parts-searching o true v told skipped again n h = absurd (true≢false (ap is_searching (sym h)))
parts-searching o false true told skipped again n h = absurd (true≢false (ap is_searching (sym h)))
parts-searching o false false told skipped again None h = (refl, refl, refl)
parts-searching o false false told skipped again (Some i) h =
    absurd (true≢false (ap is_searching (sym h)
    ∙ named-not_searching i (i == hypotheses (setup_of o)) (lacks i o.reruns skipped again) (outcome i o.reruns again)))

pub searching-parts : (s : SearchView) → standing_in s ≡ Searching → IsSearching s
searching-parts s h =
    let parts = parts-searching s.opening s.is_cancelled s.is_over s.runs s.skipped s.reruns (bar_of s) h in
    record { uncancelled = parts.0; within = parts.1; none = parts.2 }

-- no hypothesis is at the bar of one that goes by its belief
pub searching-none : (o : Opening) (told : List Run) (skipped : List ℕ) (again : List Run) (n : Option ℕ) →
    standing_of_reached o told skipped again n ≡ Searching → n ≡ None
searching-none o told skipped again n h = (parts-searching o false false told skipped again n h).2

-- What verifies a suspect.

pub record IsVerifying (s : SearchView) (culprit : ℕ) : Type 0 where
  pub uncancelled : s.is_cancelled ≡ false
  pub within : s.is_over ≡ false
  pub bar : bar_of s ≡ Some culprit
  pub suspect : culprit == hypotheses (setup_of s.opening) ≡ false
  pub going_on : outcome culprit s.opening.reruns s.reruns ≡ verifying
  pub lacks_none : lacks culprit s.opening.reruns s.skipped s.reruns ≡ false

-- a standing that no hypothesis is at the bar of verifies none
hidden-not_verifying : (hidden : Bool) → is_verifying (standing_of_hidden hidden) ≡ false
hidden-not_verifying true = refl
hidden-not_verifying false = refl

outcome-verifying : (i c : ℕ) (lacking : Bool) (x : Outcome) → standing_of_outcome i lacking x ≡ Verifying c →
    (i ≡ c) × (x ≡ verifying) × (lacking ≡ false)
outcome-verifying i c true verifying h = absurd (true≢false (ap is_verifying (sym h)))
outcome-verifying i c false verifying h = (cc, refl, refl)
outcome-verifying i c lacking confirmed h = absurd (true≢false (ap is_verifying (sym h)))
outcome-verifying i c lacking vindicating h = absurd (true≢false (ap is_verifying (sym h)))

-- a suspect that is verified is the one that was named
pub outcome-names : (i c : ℕ) (lacking : Bool) (x : Outcome) → standing_of_outcome i lacking x ≡ Verifying c → i ≡ c
outcome-names i c lacking x h = (outcome-verifying i c lacking x h).0

named-verifying : (i c : ℕ) (b lacking : Bool) (x : Outcome) →
    (if b then NoCulprit else standing_of_outcome i lacking x) ≡ Verifying c →
    (b ≡ false) × (i ≡ c) × (x ≡ verifying) × (lacking ≡ false)
named-verifying i c true lacking x h = absurd (true≢false (ap is_verifying (sym h)))
named-verifying i c false lacking x h =
    let all = outcome-verifying i c lacking x h in (refl, all.0, all.1, all.2)

pub record VerifyingParts (o : Opening) (cancelled over : Bool) (skipped : List ℕ) (again : List Run) (n : Option ℕ)
    (c : ℕ) : Type 0 where
  pub uncancelled : cancelled ≡ false
  pub within : over ≡ false
  pub bar : n ≡ Some c
  pub suspect : c == hypotheses (setup_of o) ≡ false
  pub going_on : outcome c o.reruns again ≡ verifying
  pub lacks_none : lacks c o.reruns skipped again ≡ false

parts-verifying : (o : Opening) (x v : Bool) (told : List Run) (skipped : List ℕ) (again : List Run) (n : Option ℕ)
    (c : ℕ) → standing_by o x v told skipped again n ≡ Verifying c → VerifyingParts o x v skipped again n c
parts-verifying o true v told skipped again n c h = absurd (true≢false (ap is_verifying (sym h)))
parts-verifying o false true told skipped again n c h = absurd (true≢false (ap is_verifying (sym h)))
parts-verifying o false false told skipped again None c h =
    absurd (true≢false (ap is_verifying (sym h) ∙ hidden-not_verifying (is_hidden (setup_of o) told skipped)))
parts-verifying o false false told skipped again (Some i) c h =
    let parts =
    named-verifying i c (i == hypotheses (setup_of o)) (lacks i o.reruns skipped again) (outcome i o.reruns again) h in
    record {
      uncancelled = refl;
      within = refl;
      bar = ap Some parts.1;
      suspect = subst (λ (k : ℕ). k == hypotheses (setup_of o) ≡ false) parts.1 parts.0;
      going_on = subst (λ (k : ℕ). outcome k o.reruns again ≡ verifying) parts.1 parts.2;
      lacks_none = subst (λ (k : ℕ). lacks k o.reruns skipped again ≡ false) parts.1 parts.3;
    }

pub verifying-parts : (s : SearchView) (c : ℕ) → standing_in s ≡ Verifying c → IsVerifying s c
verifying-parts s c h =
    let parts = parts-verifying s.opening s.is_cancelled s.is_over s.runs s.skipped s.reruns (bar_of s) c h in
    record {
      uncancelled = parts.uncancelled;
      within = parts.within;
      bar = parts.bar;
      suspect = parts.suspect;
      going_on = parts.going_on;
      lacks_none = parts.lacks_none;
    }

-- where a suspect is at the bar, its reruns decide, and what was skipped
pub named-standing : (o : Opening) (told : List Run) (skipped : List ℕ) (again : List Run) (c : ℕ) →
    c == hypotheses (setup_of o) ≡ false →
    standing_of_reached o told skipped again (Some c)
    ≡ standing_of_outcome c (lacks c o.reruns skipped again) (outcome c o.reruns again)
named-standing o told skipped again c suspect =
    ap (λ (b : Bool). if b then NoCulprit
    else standing_of_outcome c (lacks c o.reruns skipped again) (outcome c o.reruns again)) suspect

-- a hypothesis that is named stands from 1 on
pub verified-first : (o : Opening) (skipped : List ℕ) (again : List Run) (runs : List Run) (c : ℕ) →
    standing_of_reached o runs skipped again (reached (setup_of o) runs) ≡ Verifying c → 1 ≤ c
verified-first o skipped again runs c h =
    (IsReached-from_some (setup_of o) runs c
    (parts-verifying o false false runs skipped again (reached (setup_of o) runs) c h).bar).first

-- a skip is taken, at the stage of reruns, of a search that verifies a suspect
pub taken-verifying : (st : Standing) (stage : Stage) (f : SkipFate) → f ≡ skip_fate_standing st stage → f ≡ Taken →
    stage ≡ Verify → (c : ℕ) × (st ≡ Verifying c)
taken-verifying (Verifying c) stage f ruled taken at = (c, refl)
taken-verifying Searching stage f ruled taken at =
    let late : Late ≡ Taken = ap (skip_fate_standing Searching) (sym at) ∙ sym ruled ∙ taken in
    absurd (true≢false (ap is_taken (sym late)))
taken-verifying (Confirmed c) stage f ruled taken at = absurd (true≢false (ap is_taken (sym taken ∙ ruled)))
taken-verifying (Vindicated c) stage f ruled taken at = absurd (true≢false (ap is_taken (sym taken ∙ ruled)))
taken-verifying NoCulprit stage f ruled taken at = absurd (true≢false (ap is_taken (sym taken ∙ ruled)))
taken-verifying Inconclusive stage f ruled taken at = absurd (true≢false (ap is_taken (sym taken ∙ ruled)))
taken-verifying Cancelled stage f ruled taken at = absurd (true≢false (ap is_taken (sym taken ∙ ruled)))

-- and so is a rerun that counts
pub counted-verifying : (st : Standing) (s : SearchView) (stage : Stage) (r : Run) (f : Fate) →
    f ≡ fate_standing st s stage r → f ≡ Counted → stage ≡ Verify → (c : ℕ) × (st ≡ Verifying c)
counted-verifying (Verifying c) s stage r f ruled counts at = (c, refl)
counted-verifying Searching s stage r f ruled counts at =
    let late : fates.Late ≡ Counted = ap (λ (x : Stage). fate_standing Searching s x r) (sym at) ∙ sym ruled ∙ counts in
    absurd (true≢false (ap is_counted (sym late)))
counted-verifying (Confirmed c) s stage r f ruled counts at = absurd (true≢false (ap is_counted (sym counts ∙ ruled)))
counted-verifying (Vindicated c) s stage r f ruled counts at = absurd (true≢false (ap is_counted (sym counts ∙ ruled)))
counted-verifying NoCulprit s stage r f ruled counts at = absurd (true≢false (ap is_counted (sym counts ∙ ruled)))
counted-verifying Inconclusive s stage r f ruled counts at = absurd (true≢false (ap is_counted (sym counts ∙ ruled)))
counted-verifying Cancelled s stage r f ruled counts at = absurd (true≢false (ap is_counted (sym counts ∙ ruled)))
