-- Sums that rise above a floor.
use Rattle.std.proofs.Common.{◌≡◌, ℕ, zero, suc, ◌+◌, ◌-◌, ◌*◌, ◌^◌, ◌<◌, ◌≤◌, List, length, arith, ⊎_elim, mul-le-mul_right}
use Rattle.std.proofs.lemmas.Bool.{cases_lt}
use Rattle.threshold_pick.specs.Sums.{sum_at, whole, RiseAbove}

-- a sum above the floor is at most each later one
sum_at_upto : (floor : ℕ) (sums : List ℕ) (i more : ℕ) → RiseAbove floor sums → floor < i → i + more ≤ length sums →
    sum_at sums i ≤ sum_at sums (i + more)
sum_at_upto floor sums i zero rising above within = let e : i + 0 ≡ i = omega arith in rw e (omega arith)
sum_at_upto floor sums i (suc more) rising above within =
    let before : sum_at sums i ≤ sum_at sums (i + more) =
    sum_at_upto floor sums i more rising above (omega (arith, within)) in
    let last : sum_at sums (i + more) < sum_at sums (i + more + 1) =
    rising (i + more) (omega (arith, above)) (omega (arith, within)) in
    let e : i + suc more ≡ i + more + 1 = omega arith in
    rw e (omega (arith, before, last))

-- and less than it where it is another
pub sum_at_below : (floor : ℕ) (sums : List ℕ) (i j : ℕ) → RiseAbove floor sums → floor < i → i < j → j ≤ length sums →
    sum_at sums i < sum_at sums j
sum_at_below floor sums i j rising above less within =
    let next : sum_at sums i < sum_at sums (i + 1) = rising i above (omega arith) in
    let rest : sum_at sums (i + 1) ≤ sum_at sums (i + 1 + (j - (i + 1))) =
    sum_at_upto floor sums (i + 1) (j - (i + 1)) rising (omega arith) (omega arith) in
    let e : i + 1 + (j - (i + 1)) ≡ j = omega arith in
    let rest_is = rw e at rest in
    omega (arith, next, rest_is)

-- also where both are taken times a number
pub sum_at_scaled : (floor : ℕ) (sums : List ℕ) (i j parts : ℕ) → RiseAbove floor sums → floor < i → i ≤ j →
    j ≤ length sums → sum_at sums i * parts ≤ sum_at sums j * parts
sum_at_scaled floor sums i j parts rising above upto within =
    let less : sum_at sums i ≤ sum_at sums j =
    ⊎_elim
    (λ (before : i < j). let strictly = sum_at_below floor sums i j rising above before within in omega arith)
    (λ (same : j ≤ i). let e : i ≡ j = omega arith in rw e (omega arith))
    (cases_lt i j) in
    mul-le-mul_right parts less

-- so the sum at a suspect, times a number, has the room of the whole
pub sum_at_fits : (floor : ℕ) (sums : List ℕ) (i parts : ℕ) → RiseAbove floor sums → floor < i → i < length sums →
    whole sums * parts < 2 ^ 128 → sum_at sums i * parts < 2 ^ 128
sum_at_fits floor sums i parts rising above within room =
    let less : sum_at sums i < whole sums = sum_at_below floor sums i (length sums) rising above within (omega arith) in
    let products : sum_at sums i * parts ≤ whole sums * parts = mul-le-mul_right parts (omega arith) in
    omega (arith, products, room)
