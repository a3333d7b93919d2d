-- The fate of a report, by whether its search is searching.
use Rattle.std.proofs.Common.{◌≡◌, Bool, true, false, not, ◌&&◌, List, nat_lt, if◌then◌else◌, refl, sym, true≢false}
use Rattle.farm_types.specs.declared.stage.Stage.{Stage}
use Rattle.farm_types.specs.declared.stage.Stage.TheVariants.{Search, Verify}
use Rattle.farm_rules.specs.Reruns.{reruns_at}
use Rattle.weight_exact.specs.declared.run.Verdict.{Verdict}
use Rattle.farm_entry.specs.Decision.{fate_at, is_past_budget, run_with}
use Rattle.farm_entry.specs.History.{is_counted, is_over, reruns, same_stage}
use Rattle.farm_entry.specs.Standing.{is_searching}
use Rattle.farm_entry.specs.declared.entry.Entry.{Entry}
use Rattle.farm_entry.specs.declared.entry.Fate.{Fate}
use Rattle.farm_entry.specs.declared.entry.Fate.TheVariants.{Counted, Late, Over}
use Rattle.farm_entry.specs.declared.lease.LeasedRun.{LeasedRun}
use Rattle.farm_entry.specs.declared.opening.Opening.{Opening}
use Rattle.farm_entry.specs.declared.standing.Standing.{Standing}
use Rattle.farm_entry.specs.declared.standing.Standing.TheVariants.{Searching, Verifying, Confirmed, Vindicated, NoCulprit, Inconclusive, Cancelled}

false-true : {X : Type 0} → false ≡ true → X
false-true h = absurd (true≢false (sym h))

other-stage : (s : Stage) → same_stage s Search ≡ true → same_stage s Verify ≡ false
other-stage Search h = refl
other-stage Verify h = false-true h

-- the fate at the stage at which a culprit is looked for, by whether the search is searching, and whether the run takes
-- it past its budget
abbrev pub ruled_by : (goes past : Bool) → Fate
ruled_by goes past = if not goes then Late else (if past then Over else Counted)

search-ruled : (b past : Bool) → b ≡ true → (if b then (if past then Over else Counted) else Late) ≡ ruled_by true past
search-ruled true past h = refl
search-ruled false past h = false-true h

late-ruled : (b few : Bool) → b ≡ false → (if b && few then Counted else Late) ≡ Late
late-ruled true few h = absurd (true≢false h)
late-ruled false few h = refl

pub fate-ruled_by : (st : Standing) (H : List Entry) (o : Opening) (l : LeasedRun) (v : Verdict) →
    same_stage l.stage Search ≡ true →
    fate_at st H o l v ≡ ruled_by (is_searching st) (is_past_budget H o (run_with l v))
fate-ruled_by Searching H o l v at = search-ruled (same_stage l.stage Search) (is_past_budget H o (run_with l v)) at
fate-ruled_by (Verifying c) H o l v at =
    late-ruled (same_stage l.stage Verify) (nat_lt (reruns_at l.position (reruns H o.search)) o.reruns)
    (other-stage l.stage at)
fate-ruled_by (Confirmed c) H o l v at = refl
fate-ruled_by (Vindicated c) H o l v at = refl
fate-ruled_by NoCulprit H o l v at = refl
fate-ruled_by Inconclusive H o l v at = refl
fate-ruled_by Cancelled H o l v at = refl

pub ruled-counts : (goes past : Bool) → is_counted (ruled_by goes past) ≡ (goes && not past)
ruled-counts true true = refl
ruled-counts true false = refl
ruled-counts false past = refl

pub ruled-over : (goes past : Bool) → is_over (ruled_by goes past) ≡ (goes && past)
ruled-over true true = refl
ruled-over true false = refl
ruled-over false past = refl

-- no report at the other stage is over the budget

verify-over : (b : Bool) → is_over (if b then Counted else Late) ≡ false
verify-over true = refl
verify-over false = refl

rerun-over_by : (b past : Bool) → b ≡ false → is_over (if b then (if past then Over else Counted) else Late) ≡ false
rerun-over_by true past h = absurd (true≢false h)
rerun-over_by false past h = refl

pub rerun-over : (st : Standing) (H : List Entry) (o : Opening) (l : LeasedRun) (v : Verdict) →
    same_stage l.stage Search ≡ false →
    is_over (fate_at st H o l v) ≡ false
rerun-over Searching H o l v at = rerun-over_by (same_stage l.stage Search) (is_past_budget H o (run_with l v)) at
rerun-over (Verifying c) H o l v at =
    verify-over (same_stage l.stage Verify && nat_lt (reruns_at l.position (reruns H o.search)) o.reruns)
rerun-over (Confirmed c) H o l v at = refl
rerun-over (Vindicated c) H o l v at = refl
rerun-over NoCulprit H o l v at = refl
rerun-over Inconclusive H o l v at = refl
rerun-over Cancelled H o l v at = refl
