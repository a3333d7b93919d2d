-- The first number that passes a test, and the last position that wasn't skipped.
use Rattle.std.proofs.Common.{◌≡◌, ℕ, zero, suc, ◌+◌, ◌-◌, ◌<◌, ◌≤◌, Bool, true, false, not, List, refl, sym, ap, ◌∙◌, arith, ⊎_elim}
use Rattle.std.proofs.lemmas.Bool.{cases_Bool, cases_lt, false≢true}
use Rattle.threshold_pick.specs.Open.{is_open, is_skipped}
use Rattle.threshold_pick.specs.HiddenBlocks.{first_at, first_from, last_below}

-- i is the first number above `low` and up to `last` that passes a test, or the one behind the last
pub record IsFirst (test : ℕ → Bool) (low last i : ℕ) : Type 0 where
  pub above : low < i
  pub within : i ≤ last + 1
  pub before : (q : ℕ) → low < q → q < i → test q ≡ false
  pub passes : i ≤ last → test i ≡ true

first-here : (test : ℕ → Bool) (low more : ℕ) → test (low + 1) ≡ true → IsFirst test low (low + suc more) (low + 1)
first-here test low more passes =
    record {
      above = omega arith;
      within = omega arith;
      before = λ q above below. absurd (omega arith);
      passes = λ _. passes;
    }

first-later : (test : ℕ → Bool) (low more i : ℕ) → test (low + 1) ≡ false → IsFirst test (low + 1) (low + 1 + more) i →
    IsFirst test low (low + suc more) i
first-later test low more i fails is =
    record {
      above = omega (arith, is.above);
      within = omega (arith, is.within);
      before = λ q above below.
          ⊎_elim
          (λ (later : low + 1 < q). is.before q later below)
          (λ (here : q ≤ low + 1). let e : q ≡ low + 1 = omega arith in rw e fails)
          (cases_lt (low + 1) q);
      passes = λ within. is.passes (omega (arith, within));
    }

-- what is computed is it
pub IsFirst-first_from : (test : ℕ → Bool) (low more : ℕ) → IsFirst test low (low + more) (first_from test low more)
IsFirst-first_from test low zero =
    record {
      above = omega arith;
      within = omega arith;
      before = λ q above below. absurd (omega arith);
      passes = λ within. absurd (omega arith);
    }
IsFirst-first_from test low (suc more) =
    ⊎_elim
    (λ (passes : test (low + 1) ≡ true). rw passes (first-here test low more passes))
    (λ (fails : test (low + 1) ≡ false).
    rw fails
    (first-later test low more (first_from test (low + 1) more) fails (IsFirst-first_from test (low + 1) more)))
    (cases_Bool (test (low + 1)))

-- a number that passes isn't before it
pub first-le : (test : ℕ → Bool) (low last i q : ℕ) → IsFirst test low last i → low < q → test q ≡ true → i ≤ q
first-le test low last i q is above passes =
    ⊎_elim
    (λ (before : q < i). absurd (false≢true (sym (is.before q above before) ∙ passes)))
    (λ (at : i ≤ q). at)
    (cases_lt q i)

-- two tests that agree have one first number
pub first_from-same : (test other : ℕ → Bool) (low more : ℕ) →
    ((q : ℕ) → low < q → q ≤ low + more → test q ≡ other q) → first_from test low more ≡ first_from other low more
first_from-same test other low zero agree = refl
first_from-same test other low (suc more) agree =
    let here : test (low + 1) ≡ other (low + 1) = agree (low + 1) (omega arith) (omega arith) in
    let rest : first_from test (low + 1) more ≡ first_from other (low + 1) more =
    first_from-same test other (low + 1) more (λ q above within. agree q (omega arith) (omega arith)) in
    rw (here, rest) refl

-- ---- positions

-- an open position wasn't skipped, and one that isn't open was
pub skipped-from_shut : (skipped : List ℕ) (p : ℕ) → is_open skipped p ≡ false → is_skipped skipped p ≡ true
skipped-from_shut skipped p shut =
    ⊎_elim
    (λ (yes_ : is_skipped skipped p ≡ true). yes_)
    (λ (no_ : is_skipped skipped p ≡ false).
    let free : is_open skipped p ≡ true = ap not no_ in
    absurd (false≢true (sym shut ∙ free)))
    (cases_Bool (is_skipped skipped p))

pub free-from_open : (skipped : List ℕ) (p : ℕ) → is_open skipped p ≡ true → is_skipped skipped p ≡ false
free-from_open skipped p free =
    ⊎_elim
    (λ (yes_ : is_skipped skipped p ≡ true).
    let shut : is_open skipped p ≡ false = ap not yes_ in
    absurd (false≢true (sym shut ∙ free)))
    (λ (no_ : is_skipped skipped p ≡ false). no_)
    (cases_Bool (is_skipped skipped p))

-- b is the last position below a hypothesis that wasn't skipped, or 0
pub record IsLast (skipped : List ℕ) (hypothesis b : ℕ) : Type 0 where
  pub upto : b ≤ hypothesis
  pub below : 1 ≤ hypothesis → b < hypothesis
  pub skips : (p : ℕ) → b < p → p < hypothesis → is_skipped skipped p ≡ true
  pub stays : 1 ≤ b → is_skipped skipped b ≡ false

last-here : (skipped : List ℕ) (p : ℕ) → is_skipped skipped p ≡ false → IsLast skipped (suc p) p
last-here skipped p free =
    record {
      upto = omega arith;
      below = λ _. omega arith;
      skips = λ q above before. absurd (omega arith);
      stays = λ _. free;
    }

last-lower : (skipped : List ℕ) (p b : ℕ) → is_skipped skipped p ≡ true → IsLast skipped p b → IsLast skipped (suc p) b
last-lower skipped p b skips is =
    record {
      upto = omega (arith, is.upto);
      below = λ _. omega (arith, is.upto);
      skips = λ q above before.
          ⊎_elim
          (λ (lower : q < p). is.skips q above lower)
          (λ (here : p ≤ q). let e : q ≡ p = omega arith in rw e skips)
          (cases_lt q p);
      stays = is.stays;
    }

pub IsLast-last_below : (skipped : List ℕ) (hypothesis : ℕ) → IsLast skipped hypothesis (last_below skipped hypothesis)
IsLast-last_below skipped zero =
    record {
      upto = omega arith;
      below = λ some. absurd (omega arith);
      skips = λ q above before. absurd (omega arith);
      stays = λ some. absurd (omega arith);
    }
IsLast-last_below skipped (suc p) =
    ⊎_elim
    (λ (skips : is_skipped skipped p ≡ true).
    rw skips (last-lower skipped p (last_below skipped p) skips (IsLast-last_below skipped p)))
    (λ (free : is_skipped skipped p ≡ false). rw free (last-here skipped p free))
    (cases_Bool (is_skipped skipped p))

-- the first open position from a hypothesis on
pub IsFirst-first_at : (skipped : List ℕ) (hypothesis last : ℕ) → 1 ≤ hypothesis → hypothesis ≤ last + 1 →
    IsFirst (is_open skipped) (hypothesis - 1) last (first_at skipped hypothesis last)
IsFirst-first_at skipped hypothesis last some order =
    let e : hypothesis - 1 + (last + 1 - hypothesis) ≡ last = omega arith in
    rw e at (IsFirst-first_from (is_open skipped) (hypothesis - 1) (last + 1 - hypothesis))

-- ---- steps, as code walks

pub last_below-skipped : (skipped : List ℕ) (behind p : ℕ) → behind ≡ p + 1 → is_skipped skipped p ≡ true →
    last_below skipped behind ≡ last_below skipped p
last_below-skipped skipped zero p is skips = absurd (omega arith)
last_below-skipped skipped (suc q) p is skips =
    let e : q ≡ p = omega arith in
    rw e (rw skips refl)

pub last_below-free : (skipped : List ℕ) (behind p : ℕ) → behind ≡ p + 1 → is_skipped skipped p ≡ false →
    last_below skipped behind ≡ p
last_below-free skipped zero p is free = absurd (omega arith)
last_below-free skipped (suc q) p is free =
    let e : q ≡ p = omega arith in
    rw e (rw free refl)

first_from-step : (test : ℕ → Bool) (low more many : ℕ) → many ≡ suc more → test (low + 1) ≡ false →
    first_from test low many ≡ first_from test (low + 1) more
first_from-step test low more many is fails = rw is (rw fails refl)

first_from-here : (test : ℕ → Bool) (low more many : ℕ) → many ≡ suc more → test (low + 1) ≡ true →
    first_from test low many ≡ low + 1
first_from-here test low more many is passes = rw is (rw passes refl)

pub first_at-skipped : (skipped : List ℕ) (p last : ℕ) → 1 ≤ p → p ≤ last → is_skipped skipped p ≡ true →
    first_at skipped p last ≡ first_at skipped (p + 1) last
first_at-skipped skipped p last some within skips =
    let here : p - 1 + 1 ≡ p = omega arith in
    let next : p + 1 - 1 ≡ p = omega arith in
    let many : last + 1 - p ≡ suc (last + 1 - (p + 1)) = omega arith in
    let shut : is_open skipped (p - 1 + 1) ≡ false = ap (is_open skipped) here ∙ ap not skips in
    first_from-step (is_open skipped) (p - 1) (last + 1 - (p + 1)) (last + 1 - p) many shut
    ∙ ap (λ (low : ℕ). first_from (is_open skipped) low (last + 1 - (p + 1))) (here ∙ sym next)

pub first_at-free : (skipped : List ℕ) (p last : ℕ) → 1 ≤ p → p ≤ last → is_skipped skipped p ≡ false →
    first_at skipped p last ≡ p
first_at-free skipped p last some within free =
    let here : p - 1 + 1 ≡ p = omega arith in
    let many : last + 1 - p ≡ suc (last + 1 - (p + 1)) = omega arith in
    let passes : is_open skipped (p - 1 + 1) ≡ true = ap (is_open skipped) here ∙ ap not free in
    first_from-here (is_open skipped) (p - 1) (last + 1 - (p + 1)) (last + 1 - p) many passes ∙ here

pub first_at-past : (skipped : List ℕ) (p last : ℕ) → 1 ≤ p → last < p → first_at skipped p last ≡ p
first_at-past skipped p last some past =
    let many : last + 1 - p ≡ 0 = omega arith in
    let here : p - 1 + 1 ≡ p = omega arith in
    ap (λ (more : ℕ). first_from (is_open skipped) (p - 1) more) many ∙ here
