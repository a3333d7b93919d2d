-- Numbers that are no counts.
use Rattle.std.proofs.Common.{◌≡◌, ◌&&◌, ◌<◌, ◌≤◌, ◌^◌, ℕ, Bool, true, false, List, Option, Some, None, arith, ap, refl}
use Rattle.std.proofs.lemmas.Bool.{lt-leb}
use Rattle.std.specs.Prelude.{if◌then◌else◌, nat_le}
use Rattle.std.specs.Option.{option_and_then}
use Rattle.common_types.specs.Decimals.{number}
use Rattle.finder_words.specs.Words.{count_named}

-- both tests fail where the second does
second-fails : (a b : Bool) → b ≡ false → (a && b) ≡ false
second-fails true b is = is
second-fails false b is = refl

-- a number of more than 32 bits is past each limit
pub count-far : (most : ℕ) (word : List ℕ) → most < 2 ^ 32 → ((value : ℕ) → number word ≡ Some value → 2 ^ 32 ≤ value)
    → count_named most word ≡ None
count-far most word small far = by_number (number word) far
  where
    by_number : (n : Option ℕ) → ((value : ℕ) → n ≡ Some value → 2 ^ 32 ≤ value)
        → option_and_then (λ count. if nat_le 1 count && nat_le count most then Some count else None) n ≡ None
    by_number None far = refl
    by_number (Some value) far =
        let large : 2 ^ 32 ≤ value = far value refl in
        let past : nat_le value most ≡ false = lt-leb value most (omega (arith, small, large)) in
        ap (λ (b : Bool). if b then Some value else None) (second-fails (nat_le 1 value) (nat_le value most) past)
