-- What the tests of limits tell, and that lowest terms stay within the limits.
use Rattle.std.proofs.Common.{◌≡◌, ℕ, ◌/◌, ◌<◌, nat_lt, IsTrue, arith}
use Rattle.std.proofs.lemmas.Bool.Decides.{nat_tests}
use Rattle.flake_rate.specs.Divisor.{gcd}
use Rattle.flake_rate.specs.Limits.{IsRate, IsMiss, IsBar}
use Rattle.flake_rate.specs.Miss.{FitsRate}
use Rattle.flake_rate.specs.Tests.{fits_rate, is_rate, is_miss, is_bar}
use Rattle.flake_rate.specs.declared.miss.Miss.{Miss}
use Rattle.flake_rate.specs.declared.rate.Rate.{Rate}
use Rattle.flake_rate.proofs.Divisors.{gcd-quotients, quotients_below, quotient_positive, quotient_no_greater}

pub rate-within : (a b : ℕ) → IsTrue (is_rate a b) → IsRate a b
rate-within a b h = grind (arith, nat_tests)

pub miss-within : (c d : ℕ) → IsTrue (is_miss c d) → IsMiss c d
miss-within c d h = grind (arith, nat_tests)

pub bar-within : (t u : ℕ) → IsTrue (is_bar t u) → IsBar t u
bar-within t u h = grind (arith, nat_tests)

-- and back

pub rate-tested : (a b : ℕ) → IsRate a b → IsTrue (is_rate a b)
rate-tested a b h = grind (arith, nat_tests)

pub miss-tested : (c d : ℕ) → IsMiss c d → IsTrue (is_miss c d)
miss-tested c d h = grind (arith, nat_tests)

pub bar-tested : (t u : ℕ) → IsBar t u → IsTrue (is_bar t u)
bar-tested t u h = grind (arith, nat_tests)

-- whether a miss rate fits a flake rate

told : (x y : ℕ) → IsTrue (nat_lt x y) → x < y
told x y h = grind (arith, nat_tests)

told-tested : (x y : ℕ) → x < y → IsTrue (nat_lt x y)
told-tested x y h = grind (arith, nat_tests)

pub fits-within : (miss : Miss) (rate : Rate) → IsTrue (fits_rate miss rate) → FitsRate miss rate
fits-within miss rate h = told _ _ h

pub fits-tested : (miss : Miss) (rate : Rate) → FitsRate miss rate → IsTrue (fits_rate miss rate)
fits-tested miss rate h = told-tested _ _ h

-- lowest terms

pub rate-quotients : (a b : ℕ) → IsTrue (is_rate a b) → IsRate (a / gcd a b) (b / gcd a b)
rate-quotients a b h =
    let within : IsRate a b = rate-within a b h in
    (quotient_positive a b within.0, quotients_below a b within.1, omega (arith, quotient_no_greater a b, within.2))

pub rate-lowest : (a b : ℕ) → IsTrue (is_rate a b) → gcd (a / gcd a b) (b / gcd a b) ≡ 1
rate-lowest a b h = let within : IsRate a b = rate-within a b h in gcd-quotients a b (omega (arith, within.1))

pub miss-quotients : (c d : ℕ) → IsTrue (is_miss c d) → IsMiss (c / gcd c d) (d / gcd c d)
miss-quotients c d h =
    let within : IsMiss c d = miss-within c d h in
    (quotients_below c d within.0, omega (arith, quotient_no_greater c d, within.1))

pub miss-lowest : (c d : ℕ) → IsTrue (is_miss c d) → gcd (c / gcd c d) (d / gcd c d) ≡ 1
miss-lowest c d h = let within : IsMiss c d = miss-within c d h in gcd-quotients c d (omega (arith, within.0))
