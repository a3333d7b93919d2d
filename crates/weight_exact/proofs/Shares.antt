-- Shares of the total weight: the total is positive, at most one hypothesis reaches the bar, and common factors cancel.
use Rattle.std.proofs.Common.{◌≡◌, ◌-◌, ◌≢◌, ℕ, zero, suc, ◌+◌, ◌*◌, ◌<◌, ◌≤◌, Bool, true, false, List, All, Some, None, refl, sym, ap, ◌∙◌, eq-zero-or-pos, arith, ⊎_elim, mul_assoc, mul_comm, mul_right_comm, le_of_mul-le-mul_right, ◌↔◌, mul-le-mul_right, mul-lt-mul_of_pos_right, le-leb, leb-true}
use Rattle.std.proofs.Math.Nat.{one-le-mul, mul-div-mul_right}
use Rattle.std.proofs.lemmas.Bool.{cases_Bool, cases_eq, false≢true, false_from_ne_true}
use Rattle.std.proofs.lemmas.List.{get_or_past}
use Rattle.std.proofs.lemmas.List.Elements.{All-weaker}
use Rattle.weight_exact.specs.Weights.{Setup, hypotheses, prior, weight, total, AreInRange}
use Rattle.weight_exact.specs.Share.{share, IsReached, is_at_bar, last_to, reached}
use Rattle.weight_exact.specs.declared.run.Run.{Run}
use Rattle.weight_exact.proofs.Likelihoods.{likelihood_positive}
use Rattle.weight_exact.proofs.SumTo.{member-le-sum_to, members-le-sum_to}
use Rattle.weight_exact.specs.declared.limits.TheConstants.{BASIS_POINTS}

-- ---- the total

-- each run tests a tree without what "no culprit" names, so that hypothesis keeps a weight
pub weight_last_positive : (s : Setup) (runs : List Run) → 1 ≤ prior s (hypotheses s) → 1 ≤ s.factors.fail_out →
    1 ≤ s.factors.pass_out → AreInRange s runs → 1 ≤ weight s runs (hypotheses s)
weight_last_positive s runs calm fail pass in_range =
    let P : Run → Type 0 = λ r. (1 ≤ r.position) × (r.position < hypotheses s) in
    let Q : Run → Type 0 = λ r. r.position < hypotheses s in
    let below : All Q runs = All-weaker P Q (λ r h. h.1) runs in_range in
    one-le-mul calm (likelihood_positive s.factors (hypotheses s) runs fail pass below)

-- a hypothesis with a prior weight is one of at least one
hypotheses_positive : (s : Setup) (i : ℕ) → 1 ≤ prior s i → 1 ≤ hypotheses s
hypotheses_positive s i some =
    ⊎_elim
    (λ (none : hypotheses s ≡ 0). absurd (omega (arith, get_or_past s.priors (i - 1) 0 (omega arith))))
    (λ (positive : 0 < hypotheses s). positive)
    (eq-zero-or-pos (hypotheses s))

-- the total is never 0
pub total_positive : (s : Setup) (runs : List Run) → 1 ≤ prior s (hypotheses s) → 1 ≤ s.factors.fail_out →
    1 ≤ s.factors.pass_out → AreInRange s runs → 1 ≤ total s runs
total_positive s runs calm fail pass in_range =
    let last = weight_last_positive s runs calm fail pass in_range in
    let n = hypotheses s in
    omega (arith, last, member-le-sum_to (weight s runs) n n (hypotheses_positive s n calm) (omega arith))

-- ---- the bar

-- two weights that together are at most a positive whole don't both reach a bar above one half
pub bar_once : (t u whole v w : ℕ) → u < 2 * t → 1 ≤ whole → v + w ≤ whole → t * whole ≤ v * u → t * whole ≤ w * u → ⊥
bar_once t u whole v w above some within first second =
    let sum : (v + w) * u ≤ whole * u = mul-le-mul_right u within in
    let strict : u * whole < (2 * t) * whole = mul-lt-mul_of_pos_right above some in
    omega arith

-- at most one hypothesis reaches the bar
pub IsReached_once : (s : Setup) (runs : List Run) (i j : ℕ) → s.bar_denominator < 2 * s.bar_numerator →
    1 ≤ total s runs → IsReached s runs i → IsReached s runs j → i ≡ j
IsReached_once s runs i j above some first second =
    ⊎_elim
    (λ (same : i ≡ j). same)
    (λ (apart : i ≢ j).
    absurd
    (bar_once s.bar_numerator s.bar_denominator (total s runs) (weight s runs i) (weight s runs j) above some
    (members-le-sum_to (weight s runs) (hypotheses s) i j first.first first.last second.first second.last apart)
    first.at_bar second.at_bar))
    (cases_eq i j)

-- ---- the hypothesis that reaches the bar, computed

-- the number that `last_to` finds passes the test
pub passes-from_some : (test : ℕ → Bool) (n i : ℕ) → last_to test n ≡ Some i → (1 ≤ i) × (i ≤ n) × (test i ≡ true)
passes-from_some test zero i found = absurd (cc)
passes-from_some test (suc n) i found =
    ⊎_elim
    (λ (holds : test (suc n) ≡ true).
    let here : suc n ≡ i = let e : Some (suc n) ≡ Some i = rw holds at found in cc in
    rw (← here) (omega arith, omega arith, holds))
    (λ (fails : test (suc n) ≡ false).
    let rest = passes-from_some test n i (rw fails at found) in
    (rest.0, omega (arith, rest.1), rest.2))
    (cases_Bool (test (suc n)))

-- where it finds none, each number fails the test
pub fails-from_none : (test : ℕ → Bool) (n : ℕ) → last_to test n ≡ None → (i : ℕ) → 1 ≤ i → i ≤ n → test i ≡ false
fails-from_none test zero none i low high = absurd (omega arith)
fails-from_none test (suc n) none i low high =
    ⊎_elim
    (λ (holds : test (suc n) ≡ true). let e : Some (suc n) ≡ None = rw holds at none in absurd (cc))
    (λ (fails : test (suc n) ≡ false).
    ⊎_elim
    (λ (here : i ≡ suc n). rw here fails)
    (λ (apart : i ≢ suc n). fails-from_none test n (rw fails at none) i low (omega arith))
    (cases_eq i (suc n)))
    (cases_Bool (test (suc n)))

-- and the other way round
pub last_to-none : (test : ℕ → Bool) (n : ℕ) → ((i : ℕ) → 1 ≤ i → i ≤ n → test i ≡ false) → last_to test n ≡ None
last_to-none test zero fail = refl
last_to-none test (suc n) fail =
    let here : test (suc n) ≡ false = fail (suc n) (omega arith) (omega arith) in
    rw here (last_to-none test n (λ i low high. fail i low (omega arith)))

-- tests that agree find one number
pub last_to-same : (test other : ℕ → Bool) (n : ℕ) → ((i : ℕ) → 1 ≤ i → i ≤ n → test i ≡ other i) →
    last_to test n ≡ last_to other n
last_to-same test other zero agree = refl
last_to-same test other (suc n) agree =
    let here : test (suc n) ≡ other (suc n) = agree (suc n) (omega arith) (omega arith) in
    let rest : last_to test n ≡ last_to other n = last_to-same test other n (λ i low high. agree i low (omega arith)) in
    rw (here, rest)

-- the only number that passes is found
pub last_to-only : (test : ℕ → Bool) (n i : ℕ) → 1 ≤ i → i ≤ n → test i ≡ true →
    ((j : ℕ) → 1 ≤ j → j ≤ n → test j ≡ true → j ≡ i) → last_to test n ≡ Some i
last_to-only test zero i low high holds only = absurd (omega arith)
last_to-only test (suc n) i low high holds only =
    ⊎_elim
    (λ (here : test (suc n) ≡ true). rw here (ap Some (only (suc n) (omega arith) (omega arith) here)))
    (λ (fails : test (suc n) ≡ false).
    ⊎_elim
    (λ (same : i ≡ suc n). absurd (let e : test i ≡ false = rw same fails in false≢true (sym e ∙ holds)))
    (λ (apart : i ≢ suc n).
    rw fails (last_to-only test n i low (omega arith) holds (λ j low_j high_j. only j low_j (omega arith))))
    (cases_eq i (suc n)))
    (cases_Bool (test (suc n)))

-- the test of the bar decides it
pub at_bar-from_test : (t u whole w : ℕ) → is_at_bar t u whole w ≡ true → t * whole ≤ w * u
at_bar-from_test t u whole w holds = leb-true (t * whole) (w * u) holds

pub is_at_bar-true : (t u whole w : ℕ) → t * whole ≤ w * u → is_at_bar t u whole w ≡ true
is_at_bar-true t u whole w at = le-leb (t * whole) (w * u) at

-- whether the weight of hypothesis i is at the bar
abbrev at_bar : Setup → List Run → ℕ → Bool
at_bar s runs i = is_at_bar s.bar_numerator s.bar_denominator (total s runs) (weight s runs i)

-- what the test says of a hypothesis in range, and the other way round
IsReached-from_test : (s : Setup) (runs : List Run) (i : ℕ) → 1 ≤ i → i ≤ hypotheses s → at_bar s runs i ≡ true →
    IsReached s runs i
IsReached-from_test s runs i low high holds =
    let at = at_bar-from_test s.bar_numerator s.bar_denominator (total s runs) (weight s runs i) holds in
    record { first = low; last = high; at_bar = at }

test_from_IsReached : (s : Setup) (runs : List Run) (i : ℕ) → IsReached s runs i → at_bar s runs i ≡ true
test_from_IsReached s runs i is =
    is_at_bar-true s.bar_numerator s.bar_denominator (total s runs) (weight s runs i) is.at_bar

-- the hypothesis that is computed reaches the bar
pub IsReached-from_some : (s : Setup) (runs : List Run) (i : ℕ) → reached s runs ≡ Some i → IsReached s runs i
IsReached-from_some s runs i found =
    let parts = passes-from_some (at_bar s runs) (hypotheses s) i found in
    IsReached-from_test s runs i parts.0 parts.1 parts.2

-- the hypothesis that reaches the bar is computed
pub reached-some : (s : Setup) (runs : List Run) (i : ℕ) → s.bar_denominator < 2 * s.bar_numerator →
    1 ≤ total s runs → IsReached s runs i → reached s runs ≡ Some i
reached-some s runs i above some is =
    last_to-only (at_bar s runs) (hypotheses s) i is.first is.last (test_from_IsReached s runs i is)
    (λ j low high holds. IsReached_once s runs j i above some (IsReached-from_test s runs j low high holds) is)

-- where none is computed, none reaches the bar
pub unreached-from_none : (s : Setup) (runs : List Run) → reached s runs ≡ None → (i : ℕ) → ¬ IsReached s runs i
unreached-from_none s runs none i is =
    let fails = fails-from_none (at_bar s runs) (hypotheses s) none i is.first is.last in
    false≢true (sym fails ∙ test_from_IsReached s runs i is)

-- where none reaches the bar, none is computed
pub reached-none : (s : Setup) (runs : List Run) → ((i : ℕ) → ¬ IsReached s runs i) → reached s runs ≡ None
reached-none s runs none =
    last_to-none (at_bar s runs) (hypotheses s)
    (λ i low high.
    false_from_ne_true (at_bar s runs i) (λ holds. none i (IsReached-from_test s runs i low high holds)))

-- ---- common factors

-- a common positive factor of a weight and the total cancels from the share
pub share-mul_right : (k w whole : ℕ) → 1 ≤ k → share (w * k) (whole * k) ≡ share w whole
share-mul_right k w whole some =
    rw (mul_right_comm w k BASIS_POINTS) (mul-div-mul_right (w * BASIS_POINTS) whole some)

pub share-mul_left : (k w whole : ℕ) → 1 ≤ k → share (k * w) (k * whole) ≡ share w whole
share-mul_left k w whole some = rw (mul_comm k w, mul_comm k whole) (share-mul_right k w whole some)

-- and from the bar
pub at_bar-mul_right : (k t u whole w : ℕ) → 1 ≤ k → (t * (whole * k) ≤ w * k * u) ↔ (t * whole ≤ w * u)
at_bar-mul_right k t u whole w some =
    let left : t * (whole * k) ≡ t * whole * k = sym (mul_assoc t whole k) in
    let right : w * k * u ≡ w * u * k = mul_right_comm w k u in (
      λ h. le_of_mul-le-mul_right (omega (arith, left, right)) some,
      λ h. omega (arith, left, right, mul-le-mul_right k h),
    )

-- and reach the bar together
pub at_bar-scaled : (t u v whole w other : ℕ) → 1 ≤ whole → 1 ≤ other → v * other ≡ w * whole →
    (t * whole ≤ v * u) ↔ (t * other ≤ w * u)
at_bar-scaled t u v whole w other some_whole some_other same =
    let first = at_bar-mul_right other t u whole v some_other in
    let second = at_bar-mul_right whole t u other w some_whole in
    let turned : whole * other ≡ other * whole = mul_comm whole other in (
      λ h. second.0 (rw (← turned, ← same) (first.1 h)),
      λ h. first.0 (rw (turned, same) (second.1 h)),
    )

-- two tests that hold together are one
same_tests : (a b : Bool) → (a ≡ true → b ≡ true) → (b ≡ true → a ≡ true) → a ≡ b
same_tests true true to from = refl
same_tests true false to from = sym (to refl)
same_tests false true to from = from refl
same_tests false false to from = refl

pub is_at_bar-mul_right : (k t u whole w : ℕ) → 1 ≤ k → is_at_bar t u (whole * k) (w * k) ≡ is_at_bar t u whole w
is_at_bar-mul_right k t u whole w some =
    let both = at_bar-mul_right k t u whole w some in
    same_tests (is_at_bar t u (whole * k) (w * k)) (is_at_bar t u whole w)
    (λ h. is_at_bar-true t u whole w (both.0 (at_bar-from_test t u (whole * k) (w * k) h)))
    (λ h. is_at_bar-true t u (whole * k) (w * k) (both.1 (at_bar-from_test t u whole w h)))

pub is_at_bar-mul_left : (k t u whole w : ℕ) → 1 ≤ k → is_at_bar t u (k * whole) (k * w) ≡ is_at_bar t u whole w
is_at_bar-mul_left k t u whole w some = rw (mul_comm k w, mul_comm k whole) (is_at_bar-mul_right k t u whole w some)
