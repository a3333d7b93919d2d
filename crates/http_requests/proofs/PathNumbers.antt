-- The number in a path, by the number that its text writes.
use Rattle.std.proofs.Common.{ℕ, ◌≡◌, ◌^◌, ◌<◌, ◌≤◌, Bool, true, false, ◌&&◌, List, Option, Some, None, if◌then◌else◌, nat_le, nat_lt, refl, ap, ◌∙◌, arith}
use Rattle.std.proofs.lemmas.Bool.{le-leb, lt-leb, lt-ltb}
use Rattle.std.proofs.lemmas.Bool.Decides.{nat_tests}
use Rattle.common_types.specs.Decimals.{number}
use Rattle.http_requests.specs.Routes.{from_one, last_number, path_number}

and-false : (b : Bool) → (b && false) ≡ false
and-false true = refl
and-false false = refl

from_one-some : (n : ℕ) → 0 < n → n < 2 ^ 32 → from_one (Some n) ≡ Some n
from_one-some n some fits =
    let first : nat_lt 0 n ≡ true = lt-ltb 0 n some in
    let last : nat_le n last_number ≡ true = le-leb n last_number (omega arith) in
    rw (first, last) refl

from_one-large : (o : Option ℕ) → ((n : ℕ) → o ≡ Some n → 2 ^ 32 ≤ n) → from_one o ≡ None
from_one-large None large = refl
from_one-large (Some n) large =
    let past : 2 ^ 32 ≤ n = large n refl in
    let over : nat_le n last_number ≡ false = lt-leb n last_number (omega arith) in
    rw (over, and-false (nat_lt 0 n)) refl

-- a number from 1 on
pub path_number-some : (text : List ℕ) (n : ℕ) → number text ≡ Some n → 0 < n → n < 2 ^ 32 → path_number text ≡ Some n
unfolding path_number
path_number-some text n is some fits = ap from_one is ∙ from_one-some n some fits

-- zero
pub path_number-zero : (text : List ℕ) → number text ≡ Some 0 → path_number text ≡ None
unfolding path_number
path_number-zero text is = ap from_one is

-- no number below 2 ^ 32
pub path_number-none : (text : List ℕ) → ((n : ℕ) → number text ≡ Some n → 2 ^ 32 ≤ n) → path_number text ≡ None
unfolding path_number
path_number-none text large = from_one-large (number text) large

if-positive : (n : ℕ) (b c : Bool) → nat_lt 0 n ≡ b → (m : ℕ) → (if b && c then Some n else None) ≡ Some m → 1 ≤ m
if-positive n true true is m e = let same : n ≡ m = cc in let low : 0 < n = grind (arith, nat_tests) in omega arith
if-positive n true false is m e = let bad : ⊥ = cc in absurd bad
if-positive n false c is m e = let bad : ⊥ = cc in absurd bad

from_one-positive : (o : Option ℕ) (m : ℕ) → from_one o ≡ Some m → 1 ≤ m
from_one-positive None m e = let bad : ⊥ = cc in absurd bad
from_one-positive (Some n) m e = if-positive n (nat_lt 0 n) (nat_le n last_number) refl m e

-- what is one is 1 or more
pub path_number-positive : (text : List ℕ) (m : ℕ) → path_number text ≡ Some m → 1 ≤ m
unfolding path_number
path_number-positive text m e = from_one-positive (number text) m e
