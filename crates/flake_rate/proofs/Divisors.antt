use Rattle.std.proofs.Common.{◌≡◌, ℕ, zero, suc, ◌*◌, ◌/◌, ◌%◌, ◌<◌, ◌≤◌, refl, sym, subst, arith}
use Rattle.std.proofs.Math.Nat.{one-dvd, dvd-mul_right, mul-dvd-mul_left, dvd_of_mul-dvd-mul_left, mul-div_cancel', pos_of_dvd_of_pos, lt_of_mul-lt-mul_left, zero-mul, div-le_self}
use Rattle.std.proofs.lemmas.Nat.Gcd.{dvd_antisymm, IsGcd-from_zero, IsGcd-from_mod, IsGcd-swap, same_from_IsGcd}
use Rattle.std.specs.Int.{◌∣◌, IsGcd}
use Rattle.flake_rate.specs.Divisor.{euclid, gcd}

-- more divisions than b are enough
pub euclid_divides : (steps a b : ℕ) → b < steps → IsGcd a b (euclid steps a b)
euclid_divides zero a b h = absurd (omega arith)
euclid_divides (suc steps) a zero h = IsGcd-from_zero a zero refl
euclid_divides (suc steps) a (suc b) h =
    IsGcd-from_mod a (suc b) (euclid steps (suc b) (a % suc b)) (euclid_divides steps (suc b) (a % suc b) (omega arith))

-- gcd is the greatest common divisor: it divides both, and each number that divides both divides it
pub gcd_divides : (a b : ℕ) → IsGcd a b (gcd a b)
gcd_divides a b = euclid_divides (suc b) a b (omega arith)

-- a common divisor divides gcd
pub dvd_gcd : (d a b : ℕ) → d ∣ a → d ∣ b → d ∣ gcd a b
dvd_gcd d a b left right = (gcd_divides a b).2 d left right

-- no other number is the greatest common divisor
pub gcd-from_IsGcd : (a b g : ℕ) → IsGcd a b g → gcd a b ≡ g
gcd-from_IsGcd a b g h = same_from_IsGcd a b (gcd a b) g (gcd_divides a b) h

-- the order of the two numbers is free
pub gcd_comm : (a b : ℕ) → gcd a b ≡ gcd b a
gcd_comm a b = gcd-from_IsGcd a b (gcd b a) (IsGcd-swap b a (gcd b a) (gcd_divides b a))

-- one division keeps the greatest common divisor
pub gcd-mod : (a b : ℕ) → gcd b (a % b) ≡ gcd a b
gcd-mod a b = sym (gcd-from_IsGcd a b (gcd b (a % b)) (IsGcd-from_mod a b (gcd b (a % b)) (gcd_divides b (a % b))))

-- each number divides 0
pub gcd-zero_left : (b : ℕ) → gcd 0 b ≡ b
gcd-zero_left b = gcd-from_IsGcd 0 b b (IsGcd-swap b 0 b (IsGcd-from_zero b 0 refl))

pub gcd_positive_right : (a b : ℕ) → 0 < b → 0 < gcd a b
gcd_positive_right a b h = pos_of_dvd_of_pos (gcd_divides a b).1 h

-- each of the two numbers is its quotient by gcd, times gcd
pub gcd-mul-div_left : (a b : ℕ) → gcd a b * (a / gcd a b) ≡ a
gcd-mul-div_left a b = mul-div_cancel' (gcd a b) (gcd_divides a b).0

pub gcd-mul-div_right : (a b : ℕ) → gcd a b * (b / gcd a b) ≡ b
gcd-mul-div_right a b = mul-div_cancel' (gcd a b) (gcd_divides a b).1

-- what a positive g times d divides as g times x, d divides as x
dvd_of_scaled : (g d x n : ℕ) → 0 < g → g * x ≡ n → d ∣ x → g * d ∣ n
dvd_of_scaled g d x n some e h = let P : ℕ → Type 0 = λ m. g * d ∣ m in subst P e (mul-dvd-mul_left d g h)

-- what divides both quotients by a positive gcd divides 1
common_divides_one : (a b d : ℕ) → 0 < gcd a b → d ∣ a / gcd a b → d ∣ b / gcd a b → d ∣ 1
common_divides_one a b d some left right =
    let g = gcd a b in
    let in_a : g * d ∣ a = dvd_of_scaled g d (a / g) a some (gcd-mul-div_left a b) left in
    let in_b : g * d ∣ b = dvd_of_scaled g d (b / g) b some (gcd-mul-div_right a b) right in
    let P : ℕ → Type 0 = λ m. g * d ∣ m in
    dvd_of_mul-dvd-mul_left d some (subst P (omega arith) (dvd_gcd (g * d) a b in_a in_b))

-- the quotients by a positive gcd have no common divisor but 1
pub IsGcd-quotients : (a b : ℕ) → 0 < gcd a b → IsGcd (a / gcd a b) (b / gcd a b) 1
IsGcd-quotients a b some =
    (one-dvd (a / gcd a b), one-dvd (b / gcd a b), λ d left right. common_divides_one a b d some left right)

-- a and b over their gcd are in lowest terms
pub gcd-quotients : (a b : ℕ) → 0 < b → gcd (a / gcd a b) (b / gcd a b) ≡ 1
gcd-quotients a b h =
    gcd-from_IsGcd (a / gcd a b) (b / gcd a b) 1 (IsGcd-quotients a b (gcd_positive_right a b h))

-- two numbers with one factor taken out are in the proportion of the two
proportion : (g p q a b : ℕ) → g * p ≡ a → g * q ≡ b → p * b ≡ a * q
proportion g p q a b left right = rw (← left, ← right) (grind arith)

-- the quotients make the same fraction
pub quotients-mul : (a b : ℕ) → a / gcd a b * b ≡ a * (b / gcd a b)
quotients-mul a b =
    proportion (gcd a b) (a / gcd a b) (b / gcd a b) a b (gcd-mul-div_left a b) (gcd-mul-div_right a b)

-- the quotients are in the order of the two numbers
pub quotients_below : (a b : ℕ) → a < b → a / gcd a b < b / gcd a b
quotients_below a b h =
    lt_of_mul-lt-mul_left (gcd a b) (omega (arith, gcd-mul-div_left a b, gcd-mul-div_right a b))

-- a factor of a positive number is positive
factor_positive : (g p a : ℕ) → g * p ≡ a → 0 < a → 0 < p
factor_positive g zero a e h = omega arith
factor_positive g (suc p) a e h = omega arith

-- the quotient of a positive number is positive
pub quotient_positive : (a b : ℕ) → 0 < a → 0 < a / gcd a b
quotient_positive a b h = factor_positive (gcd a b) (a / gcd a b) a (gcd-mul-div_left a b) h

-- what k times m divides as k times x, m divides as x
dvd_of_unscaled : (k m x n : ℕ) → 0 < k → k * m ≡ n → n ∣ k * x → m ∣ x
dvd_of_unscaled k m x n some e h = let P : ℕ → Type 0 = λ y. y ∣ k * x in dvd_of_mul-dvd-mul_left m some (subst P (sym e) h)

-- the gcd of two numbers scaled by k is k times a common divisor of the two
scaled_divides : (k a b : ℕ) → 0 < k → gcd (k * a) (k * b) ∣ k * gcd a b
scaled_divides k a b some =
    let whole = gcd (k * a) (k * b) in
    let is : k * (whole / k) ≡ whole = mul-div_cancel' k (dvd_gcd k (k * a) (k * b) (dvd-mul_right k a) (dvd-mul_right k b)) in
    let in_a : whole / k ∣ a = dvd_of_unscaled k (whole / k) a whole some is (gcd_divides (k * a) (k * b)).0 in
    let in_b : whole / k ∣ b = dvd_of_unscaled k (whole / k) b whole some is (gcd_divides (k * a) (k * b)).1 in
    let P : ℕ → Type 0 = λ x. x ∣ k * gcd a b in
    subst P is (mul-dvd-mul_left (whole / k) k (dvd_gcd (whole / k) a b in_a in_b))

-- k times the gcd divides both numbers scaled by k
divides_scaled : (k a b : ℕ) → k * gcd a b ∣ gcd (k * a) (k * b)
divides_scaled k a b =
    dvd_gcd (k * gcd a b) (k * a) (k * b)
    (mul-dvd-mul_left (gcd a b) k (gcd_divides a b).0) (mul-dvd-mul_left (gcd a b) k (gcd_divides a b).1)

-- a common factor comes out of gcd
pub gcd-scale : (k a b : ℕ) → gcd (k * a) (k * b) ≡ k * gcd a b
gcd-scale zero a b = simp zero-mul
gcd-scale (suc k) a b = dvd_antisymm (scaled_divides (suc k) a b (omega arith)) (divides_scaled (suc k) a b)

-- no quotient is greater than its number
pub quotient_no_greater : (a b : ℕ) → b / gcd a b ≤ b
quotient_no_greater a b = div-le_self b (gcd a b)
