use Rattle.std.proofs.Common.{◌≡◌, ℕ, zero, suc, ◌*◌, ◌^◌, ◌<◌, ◌≤◌, ◌↔◌, false, true, IsTrue, arith, refl, sym, subst}
use Rattle.std.proofs.Math.Nat.{pow-suc, pow-succ', mul-zero, mul_comm, lt_of_not-le, one-le-pow, one-le-mul, pow-le-pow_left, pow-le-pow_right}
use Rattle.weight_exact.specs.Powers.{PowersOf, product}
use Rattle.weight_exact.specs.PowersInside.{served, AreServed}
use Rattle.weight_exact.specs.declared.powers.Counts.{Counts}
use Rattle.weight_exact.specs.declared.powers.Powers.TheInside.{Inside}

-- a power of a positive number is positive
pub pow_positive : (b e : ℕ) → 0 < b → 0 < b ^ e
pow_positive b e h = one-le-pow e b h

-- 1 is its own power
pub one-pow : (e : ℕ) → 1 ^ e ≡ 1
one-pow zero = refl
one-pow (suc e) = rw (pow-suc 1 e, one-pow e) refl

-- 0 and 1 are their own powers, but for the power to 0
pub pow_small : (b e : ℕ) → b < 2 → 0 < e → b ^ e ≡ b
pow_small b zero small some = absurd (omega arith)
pow_small zero (suc e) small some = rw (pow-suc 0 e) (mul-zero (0 ^ e))
pow_small (suc zero) (suc e) small some = one-pow (suc e)
pow_small (suc (suc b)) (suc e) small some = absurd (omega arith)

-- a power is 0 where the base is and the exponent isn't, and nowhere else
pub pow-eq-zero : (b e : ℕ) → (b ^ e ≡ 0) ↔ ((b ≡ 0) × (0 < e))
pow-eq-zero zero zero = (λ h. absurd (omega arith), λ h. absurd (omega arith))
pow-eq-zero zero (suc e) = (λ _. (refl, omega arith), λ _. pow_small 0 (suc e) (omega arith) (omega arith))
pow-eq-zero (suc b) e = (λ h. absurd (omega (arith, pow_positive (suc b) e (omega arith))), λ h. absurd (omega arith))

-- a factor beside a positive one is at most the product
factor_left : (x y : ℕ) → 0 < y → x ≤ x * y
factor_left x y h = grind arith

factor_right : (x y : ℕ) → 0 < x → y ≤ x * y
factor_right x y h = grind arith

-- what a product of positive factors stays below, the first factors and the last do too
pub factors_below : (x p n : ℕ) → 0 < x → 0 < p → x * p < n → (x < n) × (p < n)
factors_below x p n hx hp h = (omega (arith, factor_left x p hp, h), omega (arith, factor_right x p hx, h))

-- every product of the first factors of five, and each factor, stays below what the product of all five does
pub record FiveFit (x p q r s n : ℕ) : Type 0 where
  pub second : p < n
  pub third : q < n
  pub fourth : r < n
  pub fifth : s < n
  pub two : x * p < n
  pub three : x * p * q < n
  pub four : x * p * q * r < n

pub five_fit : (x p q r s n : ℕ) → 0 < x → 0 < p → 0 < q → 0 < r → 0 < s → x * p * q * r * s < n → FiveFit x p q r s n
five_fit x p q r s n hx hp hq hr hs h =
    let xp : 0 < x * p = one-le-mul hx hp in
    let xpq : 0 < x * p * q = one-le-mul xp hq in
    let xpqr : 0 < x * p * q * r = one-le-mul xpq hr in
    let last = factors_below (x * p * q * r) s n xpqr hs h in
    let fourth = factors_below (x * p * q) r n xpq hr last.0 in
    let third = factors_below (x * p) q n xp hq fourth.0 in
    let second = factors_below x p n hx hp third.0 in
    record {
      second = second.1;
      third = third.1;
      fourth = fourth.1;
      fifth = last.1;
      two = third.0;
      three = fourth.0;
      four = last.0;
    }

-- a power of a positive number rises with the exponent
pub pow_le_mono : (b m n : ℕ) → 0 < b → m ≤ n → b ^ m ≤ b ^ n
pow_le_mono b m n h le = pow-le-pow_right h le

-- a power below the next one after b ^ n has an exponent of at most n
pub below_next_power : (b n e most : ℕ) → 2 ≤ b → most ≤ b * b ^ n → b ^ e < most → e ≤ n
below_next_power b n e most two over h =
    let below : e < suc n =
    lt_of_not-le (λ past.
    let up : b * b ^ n ≤ b ^ e = rw (← pow-succ' b n) (pow_le_mono b (suc n) e (omega arith) past) in
    omega (arith, up, over, h)) in
    omega arith

-- a base of at least 2 has powers below 2^128 to exponents below 128 alone
pub exponent_few : (b e : ℕ) → 2 ≤ b → b ^ e < 2 ^ 128 → e < 128
exponent_few b e two h =
    lt_of_not-le (λ many.
    let least : 2 ^ 128 ≤ 2 ^ e = pow_le_mono 2 128 e (omega arith) many in
    let more : 2 ^ e ≤ b ^ e = pow-le-pow_left two e in
    omega (arith, least, more, h))

-- where a product doesn't fit 128 bits, all powers that do have exponents up to that of its first factor
pub none_past : (b n e : ℕ) → 2 ≤ b → 2 ^ 128 ≤ b ^ n * b → b ^ e < 2 ^ 128 → e ≤ n
none_past b n e two over h = below_next_power b n e (2 ^ 128) two (rw (mul_comm b (b ^ n)) over) h

-- where x and the power of a pass with the culprit in are positive, each part of the product fits as the product does
pub times_fit : (p : Inside) (now : PowersOf) (x : ℕ) (counts : Counts) → served p ≡ now → AreServed p → (x ≡ 0 → ⊥) →
    (p.pass_in.base ^ counts.pass_in ≡ 0 → IsTrue false) → product now.factors x counts < 2 ^ 128 →
    FiveFit x (p.fail_in.base ^ counts.fail_in) (p.fail_out.base ^ counts.fail_out) (p.pass_in.base ^ counts.pass_in)
    (p.pass_out.base ^ counts.pass_out) (2 ^ 128)
times_fit p now x counts is tables some_x some_pass fits =
    let here : product (served p).factors x counts < 2 ^ 128 =
    let P : PowersOf → Type 0 = λ s. product s.factors x counts < 2 ^ 128 in subst P (sym is) fits in
    let not_zero : p.pass_in.base ^ counts.pass_in ≡ 0 → ⊥ = λ h. let absurdity : false ≡ true = some_pass h in cc in
    five_fit x _ _ _ _ (2 ^ 128) (omega arith) (pow_positive p.fail_in.base counts.fail_in tables.some_fail_in)
    (pow_positive p.fail_out.base counts.fail_out tables.some_fail_out) (omega arith)
    (pow_positive p.pass_out.base counts.pass_out tables.some_pass_out) here
