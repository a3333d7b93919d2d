use Rattle.std.proofs.Common.{◌≡◌, ℕ, ◌<◌, sym, ap, ◌∙◌, arith}
use Rattle.std.proofs.Props.{props}
use mathlib.Core.HLevel.{is_prop→PathP}
use Rattle.flake_rate.proofs.Divisors.{gcd-zero_left}
use Rattle.flake_rate.specs.Bar.{bar_numerator, bar_denominator}
use Rattle.flake_rate.specs.Divisor.{gcd}
use Rattle.flake_rate.specs.Limits.{IsRate, IsMiss, IsBar, IsTold}
use Rattle.flake_rate.specs.Miss.{miss_numerator, miss_denominator, FitsRate}
use Rattle.flake_rate.specs.Rate.{rate_numerator, rate_denominator}
use Rattle.flake_rate.specs.declared.bar.Bar.{Bar}
use Rattle.flake_rate.specs.declared.miss.Miss.{Miss}
use Rattle.flake_rate.specs.declared.rate.Rate.{Rate}

-- what any value of the three types keeps

pub rate-in_limits : (rate : Rate) → IsRate (rate_numerator rate) (rate_denominator rate)
rate-in_limits rate = rate.in_limits

pub miss-in_limits : (miss : Miss) → IsMiss (miss_numerator miss) (miss_denominator miss)
miss-in_limits miss = miss.in_limits

pub bar-in_limits : (bar : Bar) → IsBar (bar_numerator bar) (bar_denominator bar)
bar-in_limits bar = bar.in_limits

-- a miss rate of 0 in lowest terms is 0/1
pub miss_denominator-zero : (miss : Miss) → miss_numerator miss ≡ 0 → miss_denominator miss ≡ 1
miss_denominator-zero miss e =
    sym (gcd-zero_left miss.d) ∙ ap (λ n. gcd n miss.d) (sym e) ∙ miss.lowest_terms

-- at a miss rate of 0/1 a broken test fails more often wherever a sound one doesn't always fail
told_at_zero : (c d a b : ℕ) → c ≡ 0 → d ≡ 1 → a < b → IsTold c d a b
told_at_zero c d a b c_is d_is h = rw (c_is, d_is) (omega arith)

-- a miss rate of 0 fits every flake rate
pub zero_miss_fits : (miss : Miss) (rate : Rate) → miss_numerator miss ≡ 0 → FitsRate miss rate
zero_miss_fits miss rate e =
    told_at_zero miss.c miss.d rate.a rate.b e (miss_denominator-zero miss e) rate.in_limits.1

-- values with the same numbers are equal, since a fact that a value keeps has one proof

pub rate-from_numbers : (a b : Rate) → rate_numerator a ≡ rate_numerator b → rate_denominator a ≡ rate_denominator b → a ≡ b
rate-from_numbers a b over under = λ i. record {
  a = over i;
  b = under i;
  in_limits = is_prop→PathP (λ j. IsRate (over j) (under j)) (λ j. hlevel props) a.in_limits b.in_limits i;
  lowest_terms = is_prop→PathP (λ j. gcd (over j) (under j) ≡ 1) (λ j. hlevel props) a.lowest_terms b.lowest_terms i;
}

pub miss-from_numbers : (a b : Miss) → miss_numerator a ≡ miss_numerator b → miss_denominator a ≡ miss_denominator b → a ≡ b
miss-from_numbers a b over under = λ i. record {
  c = over i;
  d = under i;
  in_limits = is_prop→PathP (λ j. IsMiss (over j) (under j)) (λ j. hlevel props) a.in_limits b.in_limits i;
  lowest_terms = is_prop→PathP (λ j. gcd (over j) (under j) ≡ 1) (λ j. hlevel props) a.lowest_terms b.lowest_terms i;
}

pub bar-from_numbers : (a b : Bar) → bar_numerator a ≡ bar_numerator b → bar_denominator a ≡ bar_denominator b → a ≡ b
bar-from_numbers a b over under = λ i. record {
  t = over i;
  u = under i;
  in_limits = is_prop→PathP (λ j. IsBar (over j) (under j)) (λ j. hlevel props) a.in_limits b.in_limits i;
}
