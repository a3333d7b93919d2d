-- What a standing says of the runs behind it.
use Rattle.std.proofs.Common.{◌≡◌, ℕ, zero, suc, ◌*◌, ◌-◌, ◌<◌, ◌≤◌, ◌==◌, Bool, true, false, not, ◌&&◌, if◌then◌else◌, List, Option, Some, None, refl, sym, ap, subst, ◌∙◌, arith, true≢false, ⊎_elim, mul-le-mul_right}
use Rattle.std.specs.Option.{is_none}
use Rattle.std.proofs.lemmas.Bool.{and_parts, cases_Bool, cases_lt}
use Rattle.std.proofs.lemmas.Bool.Decides.{nat_tests}
use Rattle.std.proofs.lemmas.Option.{none-some}
use Rattle.farm_rules.specs.Reruns.{Outcome, confirmed, outcome, verifying, vindicating}
use Rattle.threshold_pick.specs.HiddenBlocks.{is_hidden}
use Rattle.weight_exact.specs.Load.{floor}
use Rattle.weight_exact.specs.Share.{reached}
use Rattle.weight_exact.specs.Weights.{Setup, hypotheses, sum_to, suspects, total, weight}
use Rattle.weight_exact.specs.declared.run.Run.{Run}
use Rattle.weight_exact.proofs.Floors.{weight-floor}
use Rattle.weight_exact.proofs.Shares.{unreached-from_none, IsReached-from_some}
use Rattle.farm_entry.specs.History.{reruns, runs, skipped, was_cancelled, went_over}
use Rattle.farm_laws.specs.Laws.{culprit_of}
use Rattle.farm_entry.specs.Setup.{setup_of}
use Rattle.farm_entry.specs.Standing.{is_active, is_searching, is_verifying, at_bar, lacks, standing, standing_of_hidden, standing_of_outcome, standing_of_reached}
use Rattle.farm_entry.specs.declared.entry.Entry.{Entry}
use Rattle.farm_entry.specs.declared.opening.Opening.{Opening}
use Rattle.farm_entry.specs.declared.standing.Standing.{Standing}
use Rattle.farm_entry.specs.declared.standing.Standing.TheVariants.{Searching, Verifying, Confirmed, Vindicated, NoCulprit, Inconclusive, Cancelled}
use Rattle.farm_laws.proofs.OpenLimits.{SetupFacts}

-- kinds of standings

pub searching-is : (s : Standing) → is_searching s ≡ true → s ≡ Searching
searching-is Searching h = refl
searching-is (Verifying c) h = absurd (true≢false (sym h))
searching-is (Confirmed c) h = absurd (true≢false (sym h))
searching-is (Vindicated c) h = absurd (true≢false (sym h))
searching-is NoCulprit h = absurd (true≢false (sym h))
searching-is Inconclusive h = absurd (true≢false (sym h))
searching-is Cancelled h = absurd (true≢false (sym h))

pub inactive-searching : (s : Standing) → is_active s ≡ false → is_searching s ≡ false
inactive-searching Searching h = h
inactive-searching (Verifying c) h = refl
inactive-searching (Confirmed c) h = refl
inactive-searching (Vindicated c) h = refl
inactive-searching NoCulprit h = refl
inactive-searching Inconclusive h = refl
inactive-searching Cancelled h = refl

pub inactive-verifying : (s : Standing) → is_active s ≡ false → is_verifying s ≡ false
inactive-verifying Searching h = refl
inactive-verifying (Verifying c) h = h
inactive-verifying (Confirmed c) h = refl
inactive-verifying (Vindicated c) h = refl
inactive-verifying NoCulprit h = refl
inactive-verifying Inconclusive h = refl
inactive-verifying Cancelled h = refl

-- A search is searching where it was not cancelled, did not go over its budget, no hypothesis is at the bar, and no
-- hypotheses that skipped positions alone part are at the bar together.

outcome-not_searching : (c : ℕ) (lacking : Bool) (x : Outcome) → is_searching (standing_of_outcome c lacking x) ≡ false
outcome-not_searching c true verifying = refl
outcome-not_searching c false verifying = refl
outcome-not_searching c lacking confirmed = refl
outcome-not_searching c lacking vindicating = refl

at_bar-not_searching : (i : ℕ) (lacking : Bool) (x : Outcome) (b : Bool) →
    is_searching (if b then NoCulprit else standing_of_outcome i lacking x) ≡ false
at_bar-not_searching i lacking x true = refl
at_bar-not_searching i lacking x false = outcome-not_searching i lacking x

hidden-searching : (hidden : Bool) → is_searching (standing_of_hidden hidden) ≡ not hidden
hidden-searching true = refl
hidden-searching false = refl

reached-searching : (o : Opening) (past : List Run) (skips : List ℕ) (again : List Run) (n : Option ℕ) →
    is_searching (standing_of_reached o past skips again n) ≡ (is_none n && not (is_hidden (setup_of o) past skips))
reached-searching o past skips again None = hidden-searching (is_hidden (setup_of o) past skips)
reached-searching o past skips again (Some i) =
    at_bar-not_searching i (lacks i o.reruns skips again) (outcome i o.reruns again) (i == hypotheses (setup_of o))

from-searching : (o : Opening) (cancelled over : Bool) (past : List Run) (skips : List ℕ) (again : List Run) (n : Option ℕ) →
    is_searching (if cancelled then Cancelled else (if over then Inconclusive else standing_of_reached o past skips again n))
    ≡ (not cancelled && (not over && (is_none n && not (is_hidden (setup_of o) past skips))))
from-searching o true over past skips again n = refl
from-searching o false true past skips again n = refl
from-searching o false false past skips again n = reached-searching o past skips again n

-- whether no hypothesis is at the bar, and none are together that can't be told apart any more
abbrev pub is_undecided : List Entry → Opening → Bool
is_undecided H o = is_none (at_bar H o) && not (is_hidden (setup_of o) (runs H o.search) (skipped H o.search))

pub is_searching-parts : (H : List Entry) (o : Opening) →
    is_searching (standing H o) ≡ (not (was_cancelled H o.search) && (not (went_over H o.search) && is_undecided H o))
is_searching-parts H o =
    from-searching o (was_cancelled H o.search) (went_over H o.search) (runs H o.search) (skipped H o.search)
    (reruns H o.search) (at_bar H o)

none-of : (n : Option ℕ) → is_none n ≡ true → n ≡ None
none-of None h = refl
none-of (Some i) h = absurd (true≢false (sym h))

all-three : (a b c : Bool) → (a && (b && c)) ≡ true → c ≡ true
all-three true true c h = h
all-three true false c h = absurd (true≢false (sym h))
all-three false b c h = absurd (true≢false (sym h))

-- a search that is searching names none
pub searching-at_bar : (H : List Entry) (o : Opening) → is_searching (standing H o) ≡ true → at_bar H o ≡ None
searching-at_bar H o h =
    none-of (at_bar H o) (and_parts (is_none (at_bar H o)) _ (all-three _ _ _ (sym (is_searching-parts H o) ∙ h))).0

-- a search that names some hypothesis isn't searching
pub at_bar-searching : (H : List Entry) (o : Opening) (c : ℕ) → at_bar H o ≡ Some c → is_searching (standing H o) ≡ false
at_bar-searching H o c h =
    ⊎_elim (λ (yes : is_searching (standing H o) ≡ true). absurd (none-some c (sym (searching-at_bar H o yes) ∙ h)))
    (λ (no : is_searching (standing H o) ≡ false). no)
    (cases_Bool (is_searching (standing H o)))

-- the suspect that a standing names is named, and no "no culprit"

outcome-culprit : (i c : ℕ) (lacking : Bool) (x : Outcome) → culprit_of (standing_of_outcome i lacking x) ≡ Some c → i ≡ c
outcome-culprit i c true verifying h = absurd (none-some c h)
outcome-culprit i c false verifying h = cc
outcome-culprit i c lacking confirmed h = cc
outcome-culprit i c lacking vindicating h = cc

if-culprit : (n i c : ℕ) (lacking : Bool) (x : Outcome) (b : Bool) → i == n ≡ b →
    culprit_of (if b then NoCulprit else standing_of_outcome i lacking x) ≡ Some c →
    (i ≡ c) × (i == n ≡ false)
if-culprit n i c lacking x true e h = absurd (none-some c h)
if-culprit n i c lacking x false e h = (outcome-culprit i c lacking x h, e)

hidden-culprit : (hidden : Bool) (c : ℕ) → culprit_of (standing_of_hidden hidden) ≡ Some c → ⊥
hidden-culprit true c h = none-some c h
hidden-culprit false c h = none-some c h

reached-culprit : (o : Opening) (past : List Run) (skips : List ℕ) (again : List Run) (n : Option ℕ) (c : ℕ) →
    culprit_of (standing_of_reached o past skips again n) ≡ Some c → (n ≡ Some c) × (c == hypotheses (setup_of o) ≡ false)
reached-culprit o past skips again None c h = absurd (hidden-culprit (is_hidden (setup_of o) past skips) c h)
reached-culprit o past skips again (Some i) c h =
    let both =
    if-culprit (hypotheses (setup_of o)) i c (lacks i o.reruns skips again) (outcome i o.reruns again) (i == hypotheses (setup_of o)) refl h in
    (ap Some both.0, subst (λ (x : ℕ). x == hypotheses (setup_of o) ≡ false) both.0 both.1)

from-culprit : (o : Opening) (cancelled over : Bool) (past : List Run) (skips : List ℕ) (again : List Run) (n : Option ℕ) (c : ℕ) →
    culprit_of (if cancelled then Cancelled else (if over then Inconclusive else standing_of_reached o past skips again n)) ≡ Some c →
    (n ≡ Some c) × (c == hypotheses (setup_of o) ≡ false)
from-culprit o true over past skips again n c h = absurd (none-some c h)
from-culprit o false true past skips again n c h = absurd (none-some c h)
from-culprit o false false past skips again n c h = reached-culprit o past skips again n c h

between : (c n : ℕ) → c == n ≡ false → 1 ≤ c → c ≤ n → (1 ≤ c) × (c ≤ n - 1)
between c n other low high = (low, grind (arith, nat_tests))

pub culprit-at_bar : (H : List Entry) (o : Opening) (c : ℕ) → culprit_of (standing H o) ≡ Some c →
    (at_bar H o ≡ Some c) × (1 ≤ c) × (c ≤ suspects (setup_of o))
culprit-at_bar H o c h =
    let both =
    from-culprit o (was_cancelled H o.search) (went_over H o.search) (runs H o.search) (skipped H o.search)
    (reruns H o.search) (at_bar H o) c h in
    let at = IsReached-from_some (setup_of o) (runs H o.search) c both.0 in
    let within = between c (hypotheses (setup_of o)) both.1 at.first at.last in
    (both.0, within.0, within.1)

-- While no hypothesis is named some suspect is above the floor: else "no culprit" would have all the weight.

sum_to-zero : (w : ℕ → ℕ) (n : ℕ) → ((i : ℕ) → 1 ≤ i → i ≤ n → w i ≡ 0) → sum_to w n ≡ 0
sum_to-zero w zero h = refl
sum_to-zero w (suc n) h =
    omega (arith, sum_to-zero w n (λ i low high. h i low (omega arith)), h (suc n) (omega arith) (omega arith))

all-on-last : (w : ℕ → ℕ) (n m : ℕ) → m ≡ suc n → ((i : ℕ) → 1 ≤ i → i ≤ n → w i ≡ 0) → sum_to w m ≡ w m
all-on-last w n m e h =
    subst (λ (k : ℕ). sum_to w k ≡ w k) (sym e) (omega (arith, sum_to-zero w n h))

at-the-bar : (t u whole : ℕ) → t < u → t * whole ≤ whole * u
at-the-bar t u whole below = let step : t * whole ≤ u * whole = mul-le-mul_right whole (omega arith) in omega arith

pub some-left : (s : Setup) (past : List Run) → SetupFacts s → reached s past ≡ None → floor s.factors past < suspects s
some-left s past facts none =
    ⊎_elim
    (λ (below : floor s.factors past < suspects s). below)
    (λ (above : suspects s ≤ floor s.factors past).
    let last : hypotheses s ≡ suc (suspects s) = omega (arith, facts.some) in
    let whole : total s past ≡ weight s past (hypotheses s) =
    all-on-last (weight s past) (suspects s) (hypotheses s) last (λ i low high. weight-floor s past i low (omega (arith, above))) in
    let bar : s.bar_numerator * total s past ≤ weight s past (hypotheses s) * s.bar_denominator =
    subst (λ (w : ℕ). s.bar_numerator * total s past ≤ w * s.bar_denominator) whole
    (at-the-bar s.bar_numerator s.bar_denominator (total s past) facts.below_one) in
    absurd (unreached-from_none s past none (hypotheses s) (record { first = omega (arith, facts.some); last = omega arith; at_bar = bar })))
    (cases_lt (floor s.factors past) (suspects s))
