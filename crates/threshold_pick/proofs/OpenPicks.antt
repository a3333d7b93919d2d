-- Of the open positions the nearest to a threshold is one of the two next to where the sums reach it.
use Rattle.std.proofs.Common.{◌≡◌, ℕ, ◌+◌, ◌-◌, ◌*◌, ◌<◌, ◌≤◌, ◌⊎◌, inl, inr, true, false, not, Some, None, List, [], length, refl, sym, ap, ◌∙◌, subst, arith, ⊎_elim}
use Rattle.std.proofs.lemmas.Bool.{cases_Bool, cases_lt, false≢true}
use Rattle.threshold_pick.specs.Open.{is_open}
use Rattle.threshold_pick.specs.Nearest.{AreShut, IsNearestOf}
use Rattle.threshold_pick.specs.HiddenBlocks.{first_at, last_below}
use Rattle.threshold_pick.proofs.Firsts.{IsFirst, IsFirst-first_at, IsLast, IsLast-last_below, first-le}
use Rattle.threshold_pick.proofs.Nearest.{nearest_open-is, nearest_open-none}
use Rattle.threshold_pick.specs.Sums.{RiseAbove, sum_at, suspects_in, whole}
use Rattle.threshold_pick.specs.Picks.{IsPick, away, open_pick_in}
use Rattle.threshold_pick.proofs.Valleys.{IsValley, IsValley-away}

-- distances that turn at a position, the last open position before the turn and the first open one from it on
pub record IsTurned (skipped : List ℕ) (far : ℕ → ℕ) (low n turn before from : ℕ) : Type 0 where
  pub valley : IsValley far low n turn
  pub last : IsLast skipped turn before
  pub next : IsFirst (is_open skipped) (turn - 1) n from

-- an open position lies up to the one before the turn, or from the one behind it on
sides : (skipped : List ℕ) (far : ℕ → ℕ) (low n turn before from q : ℕ) →
    IsTurned skipped far low n turn before from → is_open skipped q ≡ true → (q ≤ before) ⊎ (from ≤ q)
sides skipped far low n turn before from q is free =
    ⊎_elim
    (λ (between : before < q).
    ⊎_elim
    (λ (below : q < turn).
    let shut : is_open skipped q ≡ false = ap not (is.last.skips q between below) in
    absurd (false≢true (sym shut ∙ free)))
    (λ (behind : turn ≤ q).
    inr (first-le (is_open skipped) (turn - 1) n from q is.next (omega (arith, behind, is.valley.above)) free))
    (cases_lt q turn))
    (λ (upto : q ≤ before). inl upto)
    (cases_lt before q)

-- before the turn the last one is nearest
nearer_before : (skipped : List ℕ) (far : ℕ → ℕ) (low n turn before from q : ℕ) →
    IsTurned skipped far low n turn before from → low < q → q ≤ before → far before ≤ far q
nearer_before skipped far low n turn before from q is above upto =
    ⊎_elim
    (λ (less : q < before).
    let lower = is.valley.falls q before above less (is.last.below (omega (arith, is.valley.above))) in
    omega (arith, lower))
    (λ (same : before ≤ q). let e : q ≡ before = omega arith in rw e (omega arith))
    (cases_lt q before)

-- from the turn on the first one is nearest
nearer_from : (skipped : List ℕ) (far : ℕ → ℕ) (low n turn before from q : ℕ) →
    IsTurned skipped far low n turn before from → from ≤ q → q ≤ n → far from ≤ far q
nearer_from skipped far low n turn before from q is behind within =
    ⊎_elim
    (λ (more : from < q).
    let lower = is.valley.rises from q (omega (arith, is.next.above)) more within in
    omega (arith, lower))
    (λ (same : q ≤ from). let e : q ≡ from = omega arith in rw e (omega arith))
    (cases_lt from q)

-- where none is before the turn the first one from it on is nearest
pub IsNearestOf-from : (skipped : List ℕ) (far : ℕ → ℕ) (low n turn before from : ℕ) →
    IsTurned skipped far low n turn before from → before ≤ low → from ≤ n →
    IsNearestOf (is_open skipped) far low n from
IsNearestOf-from skipped far low n turn before from is none some =
    record {
      above = omega (arith, is.next.above, is.valley.above);
      within = some;
      passes = is.next.passes some;
      least = λ q above within free.
          ⊎_elim
          (λ (upto : q ≤ before). absurd (omega arith))
          (λ (behind : from ≤ q). nearer_from skipped far low n turn before from q is behind within)
          (sides skipped far low n turn before from q is free);
      smaller = λ q above less free.
          ⊎_elim
          (λ (upto : q ≤ before). absurd (omega arith))
          (λ (behind : from ≤ q). absurd (omega arith))
          (sides skipped far low n turn before from q is free);
    }

-- where none is from the turn on the last one before it is nearest
pub IsNearestOf-before : (skipped : List ℕ) (far : ℕ → ℕ) (low n turn before from : ℕ) →
    IsTurned skipped far low n turn before from → low < before → n < from →
    IsNearestOf (is_open skipped) far low n before
IsNearestOf-before skipped far low n turn before from is some none =
    let below = is.last.below (omega (arith, is.valley.above)) in
    record {
      above = some;
      within = omega (arith, below, is.valley.within);
      passes = ap not (is.last.stays (omega arith));
      least = λ q above within free.
          ⊎_elim
          (λ (upto : q ≤ before). nearer_before skipped far low n turn before from q is above upto)
          (λ (behind : from ≤ q). absurd (omega arith))
          (sides skipped far low n turn before from q is free);
      smaller = λ q above less free. is.valley.falls q before above less below;
    }

-- of both the nearer is nearest, the one before the turn on a tie
pub IsNearestOf-both : (skipped : List ℕ) (far : ℕ → ℕ) (low n turn before from : ℕ) →
    IsTurned skipped far low n turn before from → low < before → from ≤ n → far before ≤ far from →
    IsNearestOf (is_open skipped) far low n before
IsNearestOf-both skipped far low n turn before from is some more near =
    let below = is.last.below (omega (arith, is.valley.above)) in
    record {
      above = some;
      within = omega (arith, below, is.valley.within);
      passes = ap not (is.last.stays (omega arith));
      least = λ q above within free.
          ⊎_elim
          (λ (upto : q ≤ before). nearer_before skipped far low n turn before from q is above upto)
          (λ (behind : from ≤ q).
          omega (arith, near, nearer_from skipped far low n turn before from q is behind within))
          (sides skipped far low n turn before from q is free);
      smaller = λ q above less free. is.valley.falls q before above less below;
    }

pub IsNearestOf-farther : (skipped : List ℕ) (far : ℕ → ℕ) (low n turn before from : ℕ) →
    IsTurned skipped far low n turn before from → from ≤ n → far from < far before →
    IsNearestOf (is_open skipped) far low n from
IsNearestOf-farther skipped far low n turn before from is some nearer =
    record {
      above = omega (arith, is.next.above, is.valley.above);
      within = some;
      passes = is.next.passes some;
      least = λ q above within free.
          ⊎_elim
          (λ (upto : q ≤ before).
          omega (arith, nearer, nearer_before skipped far low n turn before from q is above upto))
          (λ (behind : from ≤ q). nearer_from skipped far low n turn before from q is behind within)
          (sides skipped far low n turn before from q is free);
      smaller = λ q above less free.
          ⊎_elim
          (λ (upto : q ≤ before).
          omega (arith, nearer, nearer_before skipped far low n turn before from q is above upto))
          (λ (behind : from ≤ q). absurd (omega arith))
          (sides skipped far low n turn before from q is free);
    }

-- where there is neither, no position is open
pub AreShut-turned : (skipped : List ℕ) (far : ℕ → ℕ) (low n turn before from : ℕ) →
    IsTurned skipped far low n turn before from → before ≤ low → n < from → AreShut (is_open skipped) low n
AreShut-turned skipped far low n turn before from is none no_more =
    λ q above within.
    ⊎_elim
    (λ (free : is_open skipped q ≡ true).
    ⊎_elim
    (λ (upto : q ≤ before). absurd (omega arith))
    (λ (behind : from ≤ q). absurd (omega arith))
    (sides skipped far low n turn before from q is free))
    (λ (shut : is_open skipped q ≡ false). shut)
    (cases_Bool (is_open skipped q))

-- the positions beside the place where rising sums reach a threshold
pub IsTurned-at : (sums : List ℕ) (floor j k parts mark turn : ℕ) (skipped : List ℕ) (n before from : ℕ) →
    RiseAbove floor sums → parts ≡ k + 1 → mark ≡ j * whole sums → floor < turn → turn ≤ suspects_in sums →
    ((i : ℕ) → floor < i → i < turn → sum_at sums i * parts < mark) →
    ((i : ℕ) → turn ≤ i → i < suspects_in sums → mark ≤ sum_at sums i * parts) →
    n + 1 ≡ length sums → before ≡ last_below skipped turn → from ≡ first_at skipped turn n →
    IsTurned skipped (away sums j k) floor (suspects_in sums) turn before from
IsTurned-at sums floor j k parts mark turn skipped n before from rising parts_is mark_is above within lower upper n_is
    before_is from_is =
    let suspects_are : n ≡ suspects_in sums = omega (arith, n_is) in
    let first : IsFirst (is_open skipped) (turn - 1) n from =
    subst (λ (f : ℕ). IsFirst (is_open skipped) (turn - 1) n f) (sym from_is)
    (IsFirst-first_at skipped turn n (omega arith) (omega arith)) in
    record {
      valley = IsValley-away sums floor j k parts mark turn rising parts_is mark_is above within lower upper;
      last = subst (λ (b : ℕ). IsLast skipped turn b) (sym before_is) (IsLast-last_below skipped turn);
      next = subst (λ (m : ℕ). IsFirst (is_open skipped) (turn - 1) m from) suspects_are first;
    }

-- ---- as picks

pub open_pick_in-is : (sums : List ℕ) (floor : ℕ) (skipped : List ℕ) (j k i : ℕ) → floor ≤ suspects_in sums →
    IsNearestOf (is_open skipped) (away sums j k) floor (suspects_in sums) i →
    Some i ≡ open_pick_in sums floor skipped j k
open_pick_in-is sums floor skipped j k i order is =
    sym (nearest_open-is (is_open skipped) (away sums j k) floor (suspects_in sums) i order is)

pub open_pick_in-none : (sums : List ℕ) (floor : ℕ) (skipped : List ℕ) (j k : ℕ) → floor ≤ suspects_in sums →
    AreShut (is_open skipped) floor (suspects_in sums) → None ≡ open_pick_in sums floor skipped j k
open_pick_in-none sums floor skipped j k order shut =
    sym (nearest_open-none (is_open skipped) (away sums j k) floor (suspects_in sums) order shut)

-- with nothing skipped a pick of all positions is one of the open ones
pub open_pick_in-pick : (sums : List ℕ) (floor : ℕ) (skipped : List ℕ) (j k i : ℕ) → floor ≤ suspects_in sums →
    skipped ≡ [] → IsPick sums floor j k i → Some i ≡ open_pick_in sums floor skipped j k
open_pick_in-pick sums floor skipped j k i order none is =
    rw none
    (open_pick_in-is sums floor [] j k i order
    (record {
      above = is.above;
      within = is.within;
      passes = refl;
      least = λ q above within free. is.least q above within;
      smaller = λ q above less free. is.smaller q above less;
    }))
