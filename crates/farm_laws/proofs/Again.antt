-- An opening asks for itself: the open that it names makes it again, under every number.
use Rattle.std.proofs.Common.{◌≡◌, ℕ, ◌/◌, ◌&&◌, nat_le, Bool, if◌then◌else◌, List, Option, Some, None, Result, Ok, Err, refl, ap, subst, ◌∙◌}
use Rattle.std.specs.Option.{ok_or, option_and_then}
use Rattle.std.proofs.Math.Nat.{div-one}
use Rattle.flake_rate.specs.Divisor.{gcd}
use Rattle.flake_rate.specs.Bar.{bar_denominator, bar_numerator}
use Rattle.flake_rate.specs.Miss.{FitsRate, miss_denominator, miss_numerator}
use Rattle.flake_rate.specs.Rate.{rate_denominator, rate_numerator}
use Rattle.flake_rate.specs.Tests.{is_bar, is_miss, is_rate}
use Rattle.flake_rate.specs.declared.bar.Bar.{Bar}
use Rattle.flake_rate.specs.declared.miss.Miss.{Miss}
use Rattle.flake_rate.specs.declared.rate.Rate.{Rate}
use Rattle.flake_rate.proofs.Limits.{bar-tested, fits-tested, miss-tested, rate-tested}
use Rattle.flake_rate.proofs.Values.{bar-from_numbers, miss-from_numbers, rate-from_numbers}
use Rattle.suspect_range.specs.Faults.{range_fault}
use Rattle.suspect_range.specs.Range.{RangeView}
use Rattle.suspect_range.specs.declared.fault.RangeFault.{RangeFault}
use Rattle.farm_types.specs.declared.key.Key.{Key}
use Rattle.farm_entry.proofs.Asked.{when_passed-same}
use Rattle.farm_entry.specs.Ask.{and_then, asked_bar, asked_miss, asked_range, asked_rate, asked_reruns, asked_width, bar_of, fitting, miss_of, opening_of, rate_of, unless_fault}
use Rattle.farm_entry.specs.Legal.{ask_of}
use Rattle.farm_entry.specs.declared.command.OpenAsk.{OpenAsk}
use Rattle.weight_exact.specs.declared.limits.TheConstants.{MAX_WIDTH}
use Rattle.farm_entry.specs.declared.limits.TheConstants.{MAX_RERUNS}
use Rattle.farm_entry.specs.declared.opening.Opening.{Opening}
use Rattle.farm_entry.specs.declared.refusal.OpenFault.{OpenFault}
use Rattle.farm_entry.specs.declared.refusal.OpenFault.TheVariants as fault
use Rattle.farm_laws.proofs.Made.{fits_of, is_made, kept_of, range_of}

-- a number over a divisor that is 1 is the number
over_one : (n d : ℕ) → d ≡ 1 → n / d ≡ n
over_one n d one = ap (λ (k : ℕ). n / k) one ∙ div-one n

-- the numbers of a rate make the rate, since they are in lowest terms
pub rate-again : (rate : Rate) → rate_of (rate_numerator rate) (rate_denominator rate) ≡ Some rate
rate-again rate =
    when_passed-same (is_rate rate.a rate.b) _ rate (rate-tested rate.a rate.b rate.in_limits)
    (λ h. rate-from_numbers _ rate (over_one rate.a (gcd rate.a rate.b) rate.lowest_terms) (over_one rate.b (gcd rate.a rate.b) rate.lowest_terms))

pub miss-again : (miss : Miss) → miss_of (miss_numerator miss) (miss_denominator miss) ≡ Some miss
miss-again miss =
    when_passed-same (is_miss miss.c miss.d) _ miss (miss-tested miss.c miss.d miss.in_limits)
    (λ h. miss-from_numbers _ miss (over_one miss.c (gcd miss.c miss.d) miss.lowest_terms) (over_one miss.d (gcd miss.c miss.d) miss.lowest_terms))

pub bar-again : (bar : Bar) → bar_of (bar_numerator bar) (bar_denominator bar) ≡ Some bar
bar-again bar =
    when_passed-same (is_bar bar.t bar.u) _ bar (bar-tested bar.t bar.u bar.in_limits) (λ h. bar-from_numbers _ bar refl refl)

-- a miss rate that fits passes
pub fitting-again : (rate : Rate) (miss : Miss) → FitsRate miss rate → fitting rate miss ≡ Some miss
fitting-again rate miss fits = ap (λ (b : Bool). if b then Some miss else None) (fits-tested miss rate fits)

-- the parts of an opening that was made, asked for again

range-again : (given range : RangeView) → range_fault given.base given.suspects given.calm ≡ None → given ≡ range →
    unless_fault (range_fault range.base range.suspects range.calm) range ≡ Ok range
range-again given range none same =
    subst (λ (r : RangeView). unless_fault (range_fault r.base r.suspects r.calm) r ≡ Ok r) same
    (ap (λ (f : Option RangeFault). unless_fault f given) none)

count-again : (limit n m : ℕ) (refuse : ℕ → OpenFault) → (if nat_le 1 n && nat_le n limit then Ok n else Err (refuse n)) ≡ Ok m →
    (if nat_le 1 m && nat_le m limit then Ok m else Err (refuse m)) ≡ Ok m
count-again limit n m refuse h =
    let same : n ≡ m = (kept_of (nat_le 1 n && nat_le n limit) n m (refuse n) h).1 in
    subst (λ (k : ℕ). (if nat_le 1 k && nat_le k limit then Ok k else Err (refuse k)) ≡ Ok m) same h

-- the opening of six parts that are there
abbrev pub whole : Key → List ℕ → ℕ → RangeView → Rate → Miss → Bar → ℕ → ℕ → Opening
whole key test number range rate miss bar width reruns = record {
  key = key;
  search = number;
  test = test;
  range = range;
  rate = rate;
  miss = miss;
  bar = bar;
  width = width;
  reruns = reruns;
}

pub all_there : (key : Key) (test : List ℕ) (number : ℕ) (o : Opening) (range : Result RangeView OpenFault)
    (rate : Result Rate OpenFault)
    (miss : Rate → Result Miss OpenFault) (bar : Result Bar OpenFault) (width reruns : Result ℕ OpenFault) →
    range ≡ Ok o.range → rate ≡ Ok o.rate → miss o.rate ≡ Ok o.miss → bar ≡ Ok o.bar → width ≡ Ok o.width → reruns ≡ Ok o.reruns →
    and_then range (λ r. and_then rate (λ a. and_then (miss a) (λ m. and_then bar (λ b. and_then width (λ w. and_then reruns
    (λ n. Ok (whole key test number r a m b w n)))))))
    ≡ Ok (whole key test number o.range o.rate o.miss o.bar o.width o.reruns)
all_there key test number o range rate miss bar width reruns e1 e2 e3 e4 e5 e6 = rw (e1, e2, e3, e4, e5, e6)

-- an opening under another number
abbrev pub under : Opening → ℕ → Opening
under o search = record o { search = search }

-- an opening that was made is made again by its own open
pub made_again : (ask : OpenAsk) (search : ℕ) (o : Opening) → opening_of ask search ≡ Ok o → (number : ℕ) →
    opening_of (ask_of o) number ≡ Ok (under o number)
made_again ask search o h number =
    let made = is_made ask search o h in
    let range = range_of ask o.range made.range in
    let given : RangeView = record { base = ask.base; suspects = ask.suspects; calm = ask.calm } in
    let no_rate : OpenFault = fault.Rate (record { a = rate_numerator o.rate; b = rate_denominator o.rate }) in
    let no_miss : OpenFault = fault.Miss (record { c = miss_numerator o.miss; d = miss_denominator o.miss }) in
    let no_bar : OpenFault = fault.Bar (record { t = bar_numerator o.bar; u = bar_denominator o.bar }) in
    let rate : asked_rate (ask_of o) ≡ Ok o.rate = ap (λ (r : Option Rate). ok_or r no_rate) (rate-again o.rate) in
    let miss : asked_miss (ask_of o) o.rate ≡ Ok o.miss =
    ap (λ (m : Option Miss). ok_or (option_and_then (fitting o.rate) m) no_miss) (miss-again o.miss)
    ∙ ap (λ (m : Option Miss). ok_or m no_miss) (fitting-again o.rate o.miss (fits_of ask o.rate o.miss made.miss)) in
    let bar : asked_bar (ask_of o) ≡ Ok o.bar = ap (λ (b : Option Bar). ok_or b no_bar) (bar-again o.bar) in
    all_there o.key o.test number o (asked_range (ask_of o)) (asked_rate (ask_of o)) (asked_miss (ask_of o)) (asked_bar (ask_of o))
    (asked_width (ask_of o)) (asked_reruns (ask_of o))
    (range-again given o.range range.0 range.1) rate miss bar
    (count-again MAX_WIDTH ask.width o.width fault.Width made.width) (count-again MAX_RERUNS ask.reruns o.reruns fault.Reruns made.reruns)
