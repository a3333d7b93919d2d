-- Equal fractions are one rate, however they are spelled.
use Rattle.std.proofs.Common.{◌≡◌, ℕ, ◌*◌, ◌/◌, ◌<◌, Some, refl, sym, ap, ◌∙◌, arith}
use Rattle.std.proofs.Math.Nat.{mul-div-mul_left, mul_comm}
use Rattle.flake_rate.specs.Divisor.{gcd}
use Rattle.flake_rate.specs.Limits.{IsMiss, IsRate}
use Rattle.flake_rate.specs.Tests.{is_miss, is_rate}
use Rattle.flake_rate.specs.declared.miss.Miss.{Miss}
use Rattle.flake_rate.specs.declared.rate.Rate.{Rate}
use Rattle.flake_rate.proofs.Divisors.{gcd-scale}
use Rattle.flake_rate.proofs.Limits.{miss-lowest, miss-quotients, miss-tested, rate-lowest, rate-quotients, rate-tested}
use Rattle.flake_rate.proofs.Values.{miss-from_numbers, rate-from_numbers}
use Rattle.farm_entry.proofs.Asked.{when_passed-same}
use Rattle.farm_entry.specs.Ask.{miss_of, rate_of}

-- a common factor leaves the quotients by the greatest common divisor as they are

scaled-left : (k a b : ℕ) → 0 < k → k * a / gcd (k * a) (k * b) ≡ a / gcd a b
scaled-left k a b some = ap (λ (g : ℕ). k * a / g) (gcd-scale k a b) ∙ mul-div-mul_left a (gcd a b) some

scaled-right : (k a b : ℕ) → 0 < k → k * b / gcd (k * a) (k * b) ≡ b / gcd a b
scaled-right k a b some = ap (λ (g : ℕ). k * b / g) (gcd-scale k a b) ∙ mul-div-mul_left b (gcd a b) some

-- equal fractions have the same lowest terms
lowest-same : (a b c d : ℕ) → 0 < b → 0 < d → a * d ≡ c * b →
    (a / gcd a b ≡ c / gcd c d) × (b / gcd a b ≡ d / gcd c d)
lowest-same a b c d some also same =
    let over : d * a ≡ b * c = mul_comm d a ∙ same ∙ mul_comm c b in
    let under : d * b ≡ b * d = mul_comm d b in
    let over_same : d * a / gcd (d * a) (d * b) ≡ b * c / gcd (b * c) (b * d) = λ i. over i / gcd (over i) (under i) in
    let under_same : d * b / gcd (d * a) (d * b) ≡ b * d / gcd (b * c) (b * d) =
    λ i. under i / gcd (over i) (under i) in (
      sym (scaled-left d a b also) ∙ over_same ∙ scaled-left b c d some,
      sym (scaled-right d a b also) ∙ under_same ∙ scaled-right b c d some,
    )

pub rate-same : (a b c d : ℕ) → IsRate a b → IsRate c d → a * d ≡ c * b → rate_of a b ≡ rate_of c d
rate-same a b c d first second same =
    let lowest = lowest-same a b c d (omega (arith, first.1)) (omega (arith, second.1)) same in
    let test = rate-tested c d second in
    let it : Rate = record {
      a = c / gcd c d;
      b = d / gcd c d;
      in_limits = rate-quotients c d test;
      lowest_terms = rate-lowest c d test;
    } in
    let one : rate_of a b ≡ Some it =
    when_passed-same (is_rate a b) _ it (rate-tested a b first) (λ h. rate-from_numbers _ it lowest.0 lowest.1) in
    let other : rate_of c d ≡ Some it =
    when_passed-same (is_rate c d) _ it test (λ h. rate-from_numbers _ it refl refl) in
    one ∙ sym other

pub miss-same : (a b c d : ℕ) → IsMiss a b → IsMiss c d → a * d ≡ c * b → miss_of a b ≡ miss_of c d
miss-same a b c d first second same =
    let lowest = lowest-same a b c d (omega (arith, first.0)) (omega (arith, second.0)) same in
    let test = miss-tested c d second in
    let it : Miss = record {
      c = c / gcd c d;
      d = d / gcd c d;
      in_limits = miss-quotients c d test;
      lowest_terms = miss-lowest c d test;
    } in
    let one : miss_of a b ≡ Some it =
    when_passed-same (is_miss a b) _ it (miss-tested a b first) (λ h. miss-from_numbers _ it lowest.0 lowest.1) in
    let other : miss_of c d ≡ Some it =
    when_passed-same (is_miss c d) _ it test (λ h. miss-from_numbers _ it refl refl) in
    one ∙ sym other
