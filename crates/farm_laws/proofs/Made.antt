-- What it says of a search that an open makes it.
use Rattle.std.proofs.Common.{◌≡◌, ℕ, ◌≤◌, ◌&&◌, nat_le, Bool, true, false, if◌then◌else◌, Option, Some, None, Result, Ok, Err, refl, sym, ap, subst, ◌∙◌, arith, true≢false}
use Rattle.std.specs.Option.{ok_or, option_and_then}
use Rattle.std.proofs.lemmas.Bool.Decides.{nat_tests}
use Rattle.flake_rate.specs.Miss.{FitsRate}
use Rattle.flake_rate.specs.Tests.{fits_rate}
use Rattle.flake_rate.specs.declared.bar.Bar.{Bar}
use Rattle.flake_rate.specs.declared.miss.Miss.{Miss}
use Rattle.flake_rate.specs.declared.rate.Rate.{Rate}
use Rattle.flake_rate.proofs.Limits.{fits-within}
use Rattle.suspect_range.specs.Faults.{range_fault}
use Rattle.suspect_range.specs.Range.{RangeView}
use Rattle.suspect_range.specs.declared.fault.RangeFault.{RangeFault}
use Rattle.farm_entry.specs.Ask.{and_then, asked_bar, asked_miss, asked_range, asked_rate, asked_reruns, asked_width, fitting, miss_of, opening_of, unless_fault}
use Rattle.farm_entry.specs.declared.command.OpenAsk.{OpenAsk}
use Rattle.farm_entry.specs.declared.opening.Opening.{Opening}
use Rattle.farm_entry.specs.declared.refusal.OpenFault.{OpenFault}

-- the parts of a search, each as it is asked for
pub record IsMade (ask : OpenAsk) (search : ℕ) (o : Opening) : Type 0 where
  pub range : asked_range ask ≡ Ok o.range
  pub rate : asked_rate ask ≡ Ok o.rate
  pub miss : asked_miss ask o.rate ≡ Ok o.miss
  pub bar : asked_bar ask ≡ Ok o.bar
  pub width : asked_width ask ≡ Ok o.width
  pub reruns : asked_reruns ask ≡ Ok o.reruns
  pub key : ask.key ≡ o.key
  pub number : search ≡ o.search
  pub test : ask.test ≡ o.test

err-ok : {X E : Type 0} (f : E) (x : X) → Err f ≡ Ok x → ⊥
err-ok f x h = let b : true ≡ false = cc in true≢false b

-- the opening of six parts
abbrev whole : OpenAsk → ℕ → RangeView → Rate → Miss → Bar → ℕ → ℕ → Opening
whole ask search range rate miss bar width reruns = record {
  key = ask.key;
  search = search;
  test = ask.test;
  range = range;
  rate = rate;
  miss = miss;
  bar = bar;
  width = width;
  reruns = reruns;
}

-- what is left once the rates are there
record RestMade (ask : OpenAsk) (search : ℕ) (range : RangeView) (rate : Rate) (miss : Result Miss OpenFault)
    (bar : Result Bar OpenFault) (width reruns : Result ℕ OpenFault) (o : Opening) : Type 0 where
  range_is : range ≡ o.range
  rate_is : rate ≡ o.rate
  miss_is : miss ≡ Ok o.miss
  bar_is : bar ≡ Ok o.bar
  width_is : width ≡ Ok o.width
  reruns_is : reruns ≡ Ok o.reruns
  key_is : ask.key ≡ o.key
  number_is : search ≡ o.search
  test_is : ask.test ≡ o.test

rest_made : (ask : OpenAsk) (search : ℕ) (range : RangeView) (rate : Rate) (miss : Result Miss OpenFault)
    (bar : Result Bar OpenFault) (width reruns : Result ℕ OpenFault) (o : Opening) →
    and_then miss (λ m. and_then bar (λ b. and_then width (λ w. and_then reruns (λ n. Ok (whole ask search range rate m b w n))))) ≡ Ok o →
    RestMade ask search range rate miss bar width reruns o
rest_made ask search range rate (Err f) bar width reruns o h = absurd (err-ok f o h)
rest_made ask search range rate (Ok m) (Err f) width reruns o h = absurd (err-ok f o h)
rest_made ask search range rate (Ok m) (Ok b) (Err f) reruns o h = absurd (err-ok f o h)
rest_made ask search range rate (Ok m) (Ok b) (Ok w) (Err f) o h = absurd (err-ok f o h)
rest_made ask search range rate (Ok m) (Ok b) (Ok w) (Ok n) o h =
    let same : whole ask search range rate m b w n ≡ o = cc in
    record {
      range_is = ap (λ (x : Opening). x.range) same;
      rate_is = ap (λ (x : Opening). x.rate) same;
      miss_is = ap (λ (x : Opening). Ok x.miss) same;
      bar_is = ap (λ (x : Opening). Ok x.bar) same;
      width_is = ap (λ (x : Opening). Ok x.width) same;
      reruns_is = ap (λ (x : Opening). Ok x.reruns) same;
      key_is = ap (λ (x : Opening). x.key) same;
      number_is = ap (λ (x : Opening). x.search) same;
      test_is = ap (λ (x : Opening). x.test) same;
    }

all_made : (ask : OpenAsk) (search : ℕ) (range : Result RangeView OpenFault) (rate : Result Rate OpenFault) (o : Opening) →
    asked_range ask ≡ range → asked_rate ask ≡ rate →
    and_then range (λ r. and_then rate (λ a. and_then (asked_miss ask a) (λ m. and_then (asked_bar ask)
    (λ b. and_then (asked_width ask) (λ w. and_then (asked_reruns ask) (λ n. Ok (whole ask search r a m b w n))))))) ≡ Ok o →
    IsMade ask search o
all_made ask search (Err f) rate o e1 e2 h = absurd (err-ok f o h)
all_made ask search (Ok r) (Err f) o e1 e2 h = absurd (err-ok f o h)
all_made ask search (Ok r) (Ok a) o e1 e2 h =
    let rest = rest_made ask search r a (asked_miss ask a) (asked_bar ask) (asked_width ask) (asked_reruns ask) o h in
    record {
      range = e1 ∙ ap Ok rest.range_is;
      rate = e2 ∙ ap Ok rest.rate_is;
      miss = ap (asked_miss ask) (sym rest.rate_is) ∙ rest.miss_is;
      bar = rest.bar_is;
      width = rest.width_is;
      reruns = rest.reruns_is;
      key = rest.key_is;
      number = rest.number_is;
      test = rest.test_is;
    }

pub is_made : (ask : OpenAsk) (search : ℕ) (o : Opening) → opening_of ask search ≡ Ok o → IsMade ask search o
is_made ask search o h = all_made ask search (asked_range ask) (asked_rate ask) o refl refl h

-- What the parts are held to.

pub kept_of : (b : Bool) (n m : ℕ) (fault : OpenFault) → (if b then Ok n else Err fault) ≡ Ok m → (b ≡ true) × (n ≡ m)
kept_of true n m fault h = (refl, cc)
kept_of false n m fault h = absurd (err-ok fault m h)

pub within_of : (limit n m : ℕ) (fault : OpenFault) → (if nat_le 1 n && nat_le n limit then Ok n else Err fault) ≡ Ok m → (1 ≤ m) × (m ≤ limit)
within_of limit n m fault h =
    let kept = kept_of (nat_le 1 n && nat_le n limit) n m fault h in
    (grind (arith, nat_tests, kept), grind (arith, nat_tests, kept))

fits_of_test : (rate : Rate) (given : Miss) (b : Bool) → fits_rate given rate ≡ b → (fault : OpenFault) (miss : Miss) →
    ok_or (if b then Some given else None) fault ≡ Ok miss → FitsRate miss rate
fits_of_test rate given true e fault miss h =
    let same : given ≡ miss = cc in subst (λ (m : Miss). FitsRate m rate) same (fits-within given rate e)
fits_of_test rate given false e fault miss h = absurd (err-ok fault miss h)

fits_of_option : (rate : Rate) (given : Option Miss) (fault : OpenFault) (miss : Miss) →
    ok_or (option_and_then (fitting rate) given) fault ≡ Ok miss → FitsRate miss rate
fits_of_option rate None fault miss h = absurd (err-ok fault miss h)
fits_of_option rate (Some given) fault miss h = fits_of_test rate given (fits_rate given rate) refl fault miss h

-- the miss rate fits the flake rate
pub fits_of : (ask : OpenAsk) (rate : Rate) (miss : Miss) → asked_miss ask rate ≡ Ok miss → FitsRate miss rate
fits_of ask rate miss h = fits_of_option rate (miss_of ask.miss.0 ask.miss.1) _ miss h

range_of_option : (fault : Option RangeFault) (given range : RangeView) → unless_fault fault given ≡ Ok range → (fault ≡ None) × (given ≡ range)
range_of_option None given range h = (refl, cc)
range_of_option (Some f) given range h = (cc, cc)

-- the range has no fault
pub range_of : (ask : OpenAsk) (range : RangeView) → asked_range ask ≡ Ok range →
    (range_fault ask.base ask.suspects ask.calm ≡ None) × (record { base = ask.base; suspects = ask.suspects; calm = ask.calm } ≡ range)
range_of ask range h = range_of_option (range_fault ask.base ask.suspects ask.calm) _ range h
