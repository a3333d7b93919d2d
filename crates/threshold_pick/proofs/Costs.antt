-- Powers of two that bound steps.
use Rattle.std.proofs.Common.{◌≡◌, ℕ, ◌+◌, ◌-◌, ◌*◌, ◌^◌, ◌<◌, ◌≤◌, arith, add-one, ap, ◌∙◌, ⊎_elim, mul_assoc, mul-le-mul_left}
use Rattle.std.proofs.Math.Nat.{pow-suc, pow-le-pow_right, mul-le-mul}
use Rattle.std.proofs.lemmas.Bool.{cases_lt}
use Rattle.std.proofs.lemmas.Nat.{pow-add}

-- steps that were taken one after another
pub pow-steps : (start middle end : ℕ) → start ≤ middle → middle ≤ end →
    2 ^ (end - start) ≡ 2 ^ (middle - start) * 2 ^ (end - middle)
pow-steps start middle end first second =
    let e : end - start ≡ (middle - start) + (end - middle) = omega arith in
    rw e (pow-add 2 (middle - start) (end - middle))

-- one step more, over at most half of what was left
pub pow-half : (start now next left rest bound : ℕ) → start ≤ now → next ≡ now + 1 → 2 * rest ≤ left →
    2 ^ (now - start) * left ≤ bound → 2 ^ (next - start) * rest ≤ bound
pow-half start now next left rest bound counted step half cost =
    let e : next - start ≡ (now - start) + 1 = omega arith in
    let twice : 2 ^ (next - start) ≡ 2 ^ (now - start) * 2 =
    ap (λ n. 2 ^ n) e ∙ (rw add-one (pow-suc 2 (now - start))) in
    let halved : 2 ^ (now - start) * (2 * rest) ≤ 2 ^ (now - start) * left = mul-le-mul_left (2 ^ (now - start)) half in
    rw (twice, mul_assoc (2 ^ (now - start)) 2 rest) (omega (arith, halved, cost))

-- two steps more
pub pow-two_more : (start middle end bound : ℕ) → start ≤ middle → end ≡ middle + 2 →
    2 ^ (middle - start) ≤ bound → 2 ^ (end - start) ≤ 4 * bound
pow-two_more start middle end bound counted more cost =
    let e : end - middle ≡ 2 = omega arith in
    let product : 2 ^ (end - start) ≡ 2 ^ (middle - start) * 2 ^ (end - middle) =
    pow-steps start middle end counted (omega arith) in
    let product_is = rw e at product in
    omega (arith, product_is, cost)

-- as many steps more as one more factor allows
pub pow-one_factor_more : (start middle end base factors : ℕ) → start ≤ middle → middle ≤ end →
    2 ^ (middle - start) ≤ base ^ factors → 2 ^ (end - middle) ≤ base → 2 ^ (end - start) ≤ base ^ (factors + 1)
pow-one_factor_more start middle end base factors first second before more =
    rw (pow-steps start middle end first second, add-one, pow-suc base factors) (mul-le-mul before more)

-- a power of two below eight times a number has at most two digits more than that number
pub digits_and_two : (n digits steps : ℕ) → n < 2 ^ digits → 2 ^ steps ≤ 8 * n → steps ≤ digits + 2
digits_and_two n digits steps below cost =
    ⊎_elim
    (λ (few : steps < digits + 3). omega arith)
    (λ (many : digits + 3 ≤ steps).
    let powers : 2 ^ (digits + 3) ≤ 2 ^ steps = pow-le-pow_right (omega arith) many in
    let product : 2 ^ (digits + 3) ≡ 2 ^ digits * 2 ^ 3 = pow-add 2 digits 3 in
    absurd (omega (arith, powers, product, below, cost)))
    (cases_lt steps (digits + 3))
