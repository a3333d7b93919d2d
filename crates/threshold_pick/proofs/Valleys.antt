-- Distances that fall up to a position and rise from there on: which position is nearest.
use Rattle.std.proofs.Common.{◌≡◌, ℕ, ◌+◌, ◌-◌, ◌*◌, ◌<◌, ◌≤◌, List, refl, arith, ⊎_elim, mul-lt-mul_of_pos_right}
use Rattle.std.proofs.lemmas.Bool.{cases_lt, cases_order}
use Rattle.std.specs.Int.{abs_diff}
use Rattle.weight_exact.specs.Plan.{IsNearest}
use Rattle.threshold_pick.specs.Sums.{sum_at, whole, suspects_in, RiseAbove}
use Rattle.threshold_pick.specs.Picks.{away, IsPick}
use Rattle.threshold_pick.proofs.Rising.{sum_at_below}

-- the distances of the positions above `low` and up to n fall before `turn`, and rise from `turn` on
pub record IsValley (far : ℕ → ℕ) (low n turn : ℕ) : Type 0 where
  pub above : low < turn
  pub within : turn ≤ n
  pub falls : (i q : ℕ) → low < i → i < q → q < turn → far q < far i
  pub rises : (i q : ℕ) → turn ≤ i → i < q → q ≤ n → far i < far q

-- where nothing lies before the turn, the turn is nearest
pub IsNearest-first : (far : ℕ → ℕ) (low n turn : ℕ) → IsValley far low n turn → turn ≡ low + 1 →
    IsNearest far low n turn
IsNearest-first far low n turn valley first =
    record {
      above = valley.above;
      within = valley.within;
      least = λ q above within.
          ⊎_elim
          (λ (later : turn < q). let less = valley.rises turn q (omega arith) later within in omega (arith, less))
          (λ (here : q ≤ turn). let e : q ≡ turn = omega arith in rw e (omega arith))
          (cases_lt turn q);
      smaller = λ q above before. absurd (omega arith);
    }

-- where the turn is nearer than the position before it, the turn is nearest
IsNearest-turn : (far : ℕ → ℕ) (low n turn : ℕ) → IsValley far low n turn → far turn < far (turn - 1) →
    IsNearest far low n turn
IsNearest-turn far low n turn valley nearer =
    let earlier : (q : ℕ) → low < q → q < turn → far turn < far q =
    λ q above before.
    ⊎_elim
    (λ (long_before : q < turn - 1).
    let less = valley.falls q (turn - 1) above long_before (omega arith) in
    omega (arith, nearer, less))
    (λ (just_before : turn - 1 ≤ q). let e : q ≡ turn - 1 = omega arith in rw e nearer)
    (cases_lt q (turn - 1)) in
    record {
      above = valley.above;
      within = valley.within;
      least = λ q above within.
          ⊎_elim
          (λ (here : q ≡ turn). rw here (omega arith))
          (⊎_elim
          (λ (before : q < turn). let less = earlier q above before in omega (arith, less))
          (λ (later : turn < q). let less = valley.rises turn q (omega arith) later within in omega (arith, less)))
          (cases_order q turn);
      smaller = earlier;
    }

-- else the position before it is
IsNearest-before : (far : ℕ → ℕ) (low n turn : ℕ) → IsValley far low n turn → low < turn - 1 →
    far (turn - 1) ≤ far turn → IsNearest far low n (turn - 1)
IsNearest-before far low n turn valley inside near =
    let within_n = valley.within in
    record {
      above = inside;
      within = omega arith;
      least = λ q above within.
          ⊎_elim
          (λ (before : q < turn - 1).
          let less = valley.falls q (turn - 1) above before (omega arith) in
          omega (arith, less))
          (λ (from : turn - 1 ≤ q).
          ⊎_elim
          (λ (later : turn < q).
          let less = valley.rises turn q (omega arith) later within in
          omega (arith, near, less))
          (λ (at_most : q ≤ turn).
          ⊎_elim
          (λ (here : q < turn). let e : q ≡ turn - 1 = omega arith in rw e (omega arith))
          (λ (next : turn ≤ q). let e : q ≡ turn = omega arith in rw e near)
          (cases_lt q turn))
          (cases_lt turn q))
          (cases_lt q (turn - 1));
      smaller = λ q above before. valley.falls q (turn - 1) above before (omega arith);
    }

-- the distances of rising sums from a threshold turn where a sum first reaches it, or at the last position
pub IsValley-away : (sums : List ℕ) (floor j k parts mark turn : ℕ) → RiseAbove floor sums → parts ≡ k + 1 →
    mark ≡ j * whole sums → floor < turn → turn ≤ suspects_in sums →
    ((i : ℕ) → floor < i → i < turn → sum_at sums i * parts < mark) →
    ((i : ℕ) → turn ≤ i → i < suspects_in sums → mark ≤ sum_at sums i * parts) →
    IsValley (away sums j k) floor (suspects_in sums) turn
IsValley-away sums floor j k parts mark turn rising parts_is mark_is above within before from =
    let scaled : (i q : ℕ) → floor < i → i < q → q ≤ suspects_in sums →
    sum_at sums i * (k + 1) < sum_at sums q * (k + 1) =
    λ i q above_i less within_q.
    mul-lt-mul_of_pos_right (sum_at_below floor sums i q rising above_i less (omega arith)) (omega arith) in
    record {
      above = above;
      within = within;
      falls = λ i q above_i less before_q.
          let lower = scaled i q above_i less (omega arith) in
          let below = rw (parts_is, mark_is) at (before q (omega arith) before_q) in
          omega (arith, lower, below);
      rises = λ i q from_i less within_q.
          let higher = scaled i q (omega arith) less within_q in
          let reached = rw (parts_is, mark_is) at (from i from_i (omega arith)) in
          omega (arith, higher, reached);
    }

-- the distance of a sum that was read
pub abs_diff-away : (sums : List ℕ) (j k i sum parts mark : ℕ) → parts ≡ k + 1 → mark ≡ j * whole sums →
    sum ≡ sum_at sums i → abs_diff (sum * parts) mark ≡ away sums j k i
abs_diff-away sums j k i sum parts mark parts_is mark_is sum_is = rw (sum_is, parts_is, mark_is) refl

-- of the turn and the position before it the nearer is the pick, by the sums that were read there
pub IsPick-neighbours : (sums : List ℕ) (floor j k parts mark turn before here : ℕ) → parts ≡ k + 1 →
    mark ≡ j * whole sums → IsValley (away sums j k) floor (suspects_in sums) turn → floor < turn - 1 →
    before ≡ sum_at sums (turn - 1) → here ≡ sum_at sums turn →
    (abs_diff (before * parts) mark ≤ abs_diff (here * parts) mark → IsPick sums floor j k (turn - 1))
    × (abs_diff (here * parts) mark < abs_diff (before * parts) mark → IsPick sums floor j k turn)
IsPick-neighbours sums floor j k parts mark turn before here parts_is mark_is valley inside before_is here_is =
    let away_before : abs_diff (before * parts) mark ≡ away sums j k (turn - 1) =
    abs_diff-away sums j k (turn - 1) before parts mark parts_is mark_is before_is in
    let away_here : abs_diff (here * parts) mark ≡ away sums j k turn =
    abs_diff-away sums j k turn here parts mark parts_is mark_is here_is in (
      λ near. IsNearest-before (away sums j k) floor (suspects_in sums) turn valley inside
          (rw (away_before, away_here) at near),
      λ nearer. IsNearest-turn (away sums j k) floor (suspects_in sums) turn valley
          (rw (away_here, away_before) at nearer),
    )
