-- The parts of a search as they are asked for, by what the calls that make them answer.
use Rattle.std.proofs.Common.{◌≡◌, ℕ, ◌/◌, Bool, true, false, IsTrue, Option, Some, None, Ok, Err, if◌then◌else◌, refl, sym, ap, ◌∙◌, true≢false}
use Rattle.std.specs.Option.{ok_or, option_and_then}
use Rattle.flake_rate.specs.Bar.{bar_denominator, bar_numerator}
use Rattle.flake_rate.specs.Divisor.{gcd}
use Rattle.flake_rate.specs.Limits.{IsBar, IsMiss, IsRate}
use Rattle.flake_rate.specs.Miss.{FitsRate, miss_denominator, miss_numerator}
use Rattle.flake_rate.specs.Rate.{rate_denominator, rate_numerator}
use Rattle.flake_rate.specs.Tests.{fits_rate, is_bar, is_miss, is_rate}
use Rattle.flake_rate.specs.declared.bar.Bar.{Bar}
use Rattle.flake_rate.specs.declared.miss.Miss.{Miss}
use Rattle.flake_rate.specs.declared.rate.Rate.{Rate}
use Rattle.flake_rate.proofs.Limits.{bar-tested, fits-tested, fits-within, miss-tested, rate-tested}
use Rattle.flake_rate.proofs.Values.{bar-from_numbers, miss-from_numbers, rate-from_numbers}
use Rattle.farm_entry.specs.declared.refusal.OpenFault.{OpenFault}
use Rattle.farm_entry.specs.Ask.{bar_of, fitting, miss_of, rate_of, when_passed}

-- what is made where a test passes, and that nothing is where it fails

pub when_passed-same : {X : Type 0} (test : Bool) (make : IsTrue test → X) (x : X) → IsTrue test →
    ((h : IsTrue test) → make h ≡ x) → when_passed test make ≡ Some x
when_passed-same true make x h same = ap Some (same refl)
when_passed-same false make x h same = absurd (cc)

pub when_passed-none : {X : Type 0} (test : Bool) (make : IsTrue test → X) → (IsTrue test → ⊥) → when_passed test make ≡ None
when_passed-none true make h = absurd (h refl)
when_passed-none false make h = refl

-- rates

pub rate_of-made : (a b : ℕ) (r : Rate) → IsRate a b → rate_numerator r ≡ a / gcd a b → rate_denominator r ≡ b / gcd a b → rate_of a b ≡ Some r
rate_of-made a b r within over under =
    when_passed-same (is_rate a b) _ r (rate-tested a b within) (λ h. rate-from_numbers _ r (sym over) (sym under))

-- misses

pub miss_of-made : (c d : ℕ) (m : Miss) → IsMiss c d → miss_numerator m ≡ c / gcd c d → miss_denominator m ≡ d / gcd c d → miss_of c d ≡ Some m
miss_of-made c d m within over under =
    when_passed-same (is_miss c d) _ m (miss-tested c d within) (λ h. miss-from_numbers _ m (sym over) (sym under))

taken : {X : Type 0} (test : Bool) (x : X) → IsTrue test → (if test then Some x else None) ≡ Some x
taken true x h = refl
taken false x h = absurd (cc)

left : {X : Type 0} (test : Bool) (x : X) → (IsTrue test → ⊥) → (if test then Some x else None) ≡ None
left true x h = absurd (h refl)
left false x h = refl

pub fitting-fits : (rate : Rate) (m : Miss) → FitsRate m rate → fitting rate m ≡ Some m
fitting-fits rate m fits = taken (fits_rate m rate) m (fits-tested m rate fits)

pub fitting-other : (rate : Rate) (m : Miss) → (FitsRate m rate → ⊥) → fitting rate m ≡ None
fitting-other rate m other = left (fits_rate m rate) m (λ h. other (fits-within m rate h))

pub asked_miss-made : (c d : ℕ) (rate : Rate) (m : Miss) (f : OpenFault) → IsMiss c d → miss_numerator m ≡ c / gcd c d → miss_denominator m ≡ d / gcd c d →
    FitsRate m rate → Ok m ≡ ok_or (option_and_then (fitting rate) (miss_of c d)) f
asked_miss-made c d rate m f within over under fits =
    sym (ap (λ (o : Option Miss). ok_or (option_and_then (fitting rate) o) f) (miss_of-made c d m within over under)
    ∙ ap (λ (o : Option Miss). ok_or o f) (fitting-fits rate m fits))

pub asked_miss-misfit : (c d : ℕ) (rate : Rate) (m : Miss) (f : OpenFault) → IsMiss c d → miss_numerator m ≡ c / gcd c d → miss_denominator m ≡ d / gcd c d →
    (FitsRate m rate → ⊥) → Err f ≡ ok_or (option_and_then (fitting rate) (miss_of c d)) f
asked_miss-misfit c d rate m f within over under misfit =
    sym (ap (λ (o : Option Miss). ok_or (option_and_then (fitting rate) o) f) (miss_of-made c d m within over under)
    ∙ ap (λ (o : Option Miss). ok_or o f) (fitting-other rate m misfit))

pub falsely : IsTrue false → ⊥
falsely h = true≢false (sym h)

-- bars

pub bar_of-made : (t u : ℕ) (b : Bar) → IsBar t u → bar_numerator b ≡ t → bar_denominator b ≡ u → bar_of t u ≡ Some b
bar_of-made t u b within over under =
    when_passed-same (is_bar t u) _ b (bar-tested t u within) (λ h. bar-from_numbers _ b (sym over) (sym under))
