-- The nearest of the positions that pass a test: what is computed is it, and there is one.
use Rattle.std.proofs.Common.{◌≡◌, ℕ, zero, suc, ◌+◌, ◌-◌, ◌<◌, ◌≤◌, Bool, true, false, nat_lt, Option, Some, None, refl, sym, ap, ◌∙◌, arith, ⊎_elim, ltb-true, ltb-false, subst}
use Rattle.std.proofs.lemmas.Bool.{cases_Bool, cases_lt, cases_order, false≢true}
use Rattle.threshold_pick.specs.Open.{nearer, nearest_open}
use Rattle.threshold_pick.specs.Nearest.{AreShut, IsNearestOf, IsNearestOrNone}

-- ---- one position more

-- the first one that passes is the nearest
first-passes : (test : ℕ → Bool) (away : ℕ → ℕ) (low n : ℕ) → low ≤ n → AreShut test low n → test (n + 1) ≡ true →
    IsNearestOf test away low (n + 1) (n + 1)
first-passes test away low n order shut passes =
    record {
      above = omega arith;
      within = omega arith;
      passes = passes;
      least = λ q above within open_.
          ⊎_elim
          (λ (before : q < n + 1). absurd (false≢true (sym (shut q above (omega arith)) ∙ open_)))
          (λ (last : n + 1 ≤ q). let here : q ≡ n + 1 = omega arith in rw here (omega arith))
          (cases_lt q (n + 1));
      smaller = λ q above before open_. absurd (false≢true (sym (shut q above (omega arith)) ∙ open_));
    }

-- one that is no nearer changes nothing
keeps : (test : ℕ → Bool) (away : ℕ → ℕ) (low n best : ℕ) → IsNearestOf test away low n best →
    away best ≤ away (n + 1) → IsNearestOf test away low (n + 1) best
keeps test away low n best is far =
    record {
      above = is.above;
      within = omega (arith, is.within);
      passes = is.passes;
      least = λ q above within open_.
          ⊎_elim
          (λ (before : q < n + 1). is.least q above (omega arith) open_)
          (λ (last : n + 1 ≤ q). let here : q ≡ n + 1 = omega arith in rw here far)
          (cases_lt q (n + 1));
      smaller = is.smaller;
    }

-- a nearer one is the nearest
takes : (test : ℕ → Bool) (away : ℕ → ℕ) (low n best : ℕ) → IsNearestOf test away low n best →
    test (n + 1) ≡ true → away (n + 1) < away best → IsNearestOf test away low (n + 1) (n + 1)
takes test away low n best is passes near =
    record {
      above = omega (arith, is.above, is.within);
      within = omega arith;
      passes = passes;
      least = λ q above within open_.
          ⊎_elim
          (λ (before : q < n + 1). omega (arith, near, is.least q above (omega arith) open_))
          (λ (last : n + 1 ≤ q). let here : q ≡ n + 1 = omega arith in rw here (omega arith))
          (cases_lt q (n + 1));
      smaller = λ q above before open_. omega (arith, near, is.least q above (omega arith) open_);
    }

-- of the best so far and one more that passes
more-passes : (test : ℕ → Bool) (away : ℕ → ℕ) (low n : ℕ) (best : Option ℕ) → low ≤ n →
    IsNearestOrNone test away low n best → test (n + 1) ≡ true →
    IsNearestOf test away low (n + 1) (nearer away best (n + 1))
more-passes test away low n None order shut passes = first-passes test away low n order shut passes
more-passes test away low n (Some best) order is passes =
    ⊎_elim
    (λ (near : nat_lt (away (n + 1)) (away best) ≡ true).
    rw near (takes test away low n best is passes (ltb-true (away (n + 1)) (away best) near)))
    (λ (far : nat_lt (away (n + 1)) (away best) ≡ false).
    rw far (keeps test away low n best is (ltb-false (away (n + 1)) (away best) far)))
    (cases_Bool (nat_lt (away (n + 1)) (away best)))

-- and where one more doesn't pass
more-fails : (test : ℕ → Bool) (away : ℕ → ℕ) (low n : ℕ) (best : Option ℕ) →
    IsNearestOrNone test away low n best → test (n + 1) ≡ false → IsNearestOrNone test away low (n + 1) best
more-fails test away low n None shut fails =
    λ q above within.
    ⊎_elim
    (λ (before : q < n + 1). shut q above (omega arith))
    (λ (last : n + 1 ≤ q). let here : q ≡ n + 1 = omega arith in rw here fails)
    (cases_lt q (n + 1))
more-fails test away low n (Some best) is fails =
    record {
      above = is.above;
      within = omega (arith, is.within);
      passes = is.passes;
      least = λ q above within open_.
          ⊎_elim
          (λ (before : q < n + 1). is.least q above (omega arith) open_)
          (λ (last : n + 1 ≤ q).
          let here : n + 1 ≡ q = omega arith in
          absurd (false≢true (sym fails ∙ (ap test here ∙ open_))))
          (cases_lt q (n + 1));
      smaller = is.smaller;
    }

-- ---- what is computed

-- the computed position is the nearest, or none passes
pub IsNearestOrNone-nearest_open : (test : ℕ → Bool) (away : ℕ → ℕ) (low more : ℕ) →
    IsNearestOrNone test away low (low + more) (nearest_open test away low more)
IsNearestOrNone-nearest_open test away low zero = λ q above within. absurd (omega arith)
IsNearestOrNone-nearest_open test away low (suc more) =
    let n = low + more in
    let best = nearest_open test away low more in
    let before : IsNearestOrNone test away low n best = IsNearestOrNone-nearest_open test away low more in
    let e : low + suc more ≡ n + 1 = omega arith in
    rw e
    (⊎_elim
    (λ (passes : test (n + 1) ≡ true). rw passes (more-passes test away low n best (omega arith) before passes))
    (λ (fails : test (n + 1) ≡ false). rw fails (more-fails test away low n best before fails))
    (cases_Bool (test (n + 1))))

-- the same up to n
pub IsNearestOrNone-upto : (test : ℕ → Bool) (away : ℕ → ℕ) (low n : ℕ) → low ≤ n →
    IsNearestOrNone test away low n (nearest_open test away low (n - low))
IsNearestOrNone-upto test away low n order =
    let e : low + (n - low) ≡ n = omega arith in
    subst (λ m. IsNearestOrNone test away low m (nearest_open test away low (n - low))) e
    (IsNearestOrNone-nearest_open test away low (n - low))

-- at most one position is nearest
pub IsNearestOf_once : (test : ℕ → Bool) (away : ℕ → ℕ) (low n i j : ℕ) → IsNearestOf test away low n i →
    IsNearestOf test away low n j → i ≡ j
IsNearestOf_once test away low n i j first second =
    ⊎_elim
    (λ (same : i ≡ j). same)
    (⊎_elim
    (λ (less : i < j).
    let nearer_one = second.smaller i first.above less first.passes in
    absurd (omega (arith, nearer_one, first.least j second.above second.within second.passes)))
    (λ (more : j < i).
    let nearer_one = first.smaller j second.above more second.passes in
    absurd (omega (arith, nearer_one, second.least i first.above first.within first.passes))))
    (cases_order i j)

answer_is : (test : ℕ → Bool) (away : ℕ → ℕ) (low n i : ℕ) (answer : Option ℕ) →
    IsNearestOrNone test away low n answer → IsNearestOf test away low n i → answer ≡ Some i
answer_is test away low n i None shut is =
    absurd (false≢true (sym (shut i is.above is.within) ∙ is.passes))
answer_is test away low n i (Some best) best_is is = ap Some (IsNearestOf_once test away low n best i best_is is)

answer_none : (test : ℕ → Bool) (away : ℕ → ℕ) (low n : ℕ) (answer : Option ℕ) →
    IsNearestOrNone test away low n answer → AreShut test low n → answer ≡ None
answer_none test away low n None shut are = refl
answer_none test away low n (Some best) is are =
    absurd (false≢true (sym (are best is.above is.within) ∙ is.passes))

-- so a nearest position is the computed one
pub nearest_open-is : (test : ℕ → Bool) (away : ℕ → ℕ) (low n i : ℕ) → low ≤ n → IsNearestOf test away low n i →
    nearest_open test away low (n - low) ≡ Some i
nearest_open-is test away low n i order is =
    answer_is test away low n i (nearest_open test away low (n - low)) (IsNearestOrNone-upto test away low n order) is

-- and where none passes there is none
pub nearest_open-none : (test : ℕ → Bool) (away : ℕ → ℕ) (low n : ℕ) → low ≤ n → AreShut test low n →
    nearest_open test away low (n - low) ≡ None
nearest_open-none test away low n order shut =
    answer_none test away low n (nearest_open test away low (n - low)) (IsNearestOrNone-upto test away low n order) shut

-- two ways to measure that order the positions alike have one nearest
pub nearest_open-same : (test : ℕ → Bool) (away other : ℕ → ℕ) (low more : ℕ) →
    ((p q : ℕ) → low < p → p ≤ low + more → low < q → q ≤ low + more →
    nat_lt (away p) (away q) ≡ nat_lt (other p) (other q)) →
    nearest_open test away low more ≡ nearest_open test other low more
nearest_open-same test away other low zero agree = refl
nearest_open-same test away other low (suc more) agree =
    let e : low + suc more ≡ low + more + 1 = omega arith in
    let same : nearest_open test away low more ≡ nearest_open test other low more =
    nearest_open-same test away other low more
    (λ p q above_p within_p above_q within_q. agree p q above_p (omega arith) above_q (omega arith)) in
    let one : nearer away (nearest_open test away low more) (low + suc more)
    ≡ nearer other (nearest_open test away low more) (low + suc more) =
    nearer-same test away other low more (nearest_open test away low more)
    (IsNearestOrNone-nearest_open test away low more) agree in
    rw (one, same) refl
  where
    nearer-same : (test : ℕ → Bool) (away other : ℕ → ℕ) (low more : ℕ) (best : Option ℕ) →
        IsNearestOrNone test away low (low + more) best →
        ((p q : ℕ) → low < p → p ≤ low + suc more → low < q → q ≤ low + suc more →
        nat_lt (away p) (away q) ≡ nat_lt (other p) (other q)) →
        nearer away best (low + suc more) ≡ nearer other best (low + suc more)
    nearer-same test away other low more None shut agree = refl
    nearer-same test away other low more (Some best) is agree =
        let tests : nat_lt (away (low + suc more)) (away best) ≡ nat_lt (other (low + suc more)) (other best) =
        agree (low + suc more) best (omega arith) (omega arith) is.above (omega (arith, is.within)) in
        rw tests refl
