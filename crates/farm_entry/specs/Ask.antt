-- The search that a request asks for, and why it can't be opened.
use Rattle.std.specs.Prelude.{ℕ, ◌/◌, Bool, true, false, nat_le, ◌&&◌, if◌then◌else◌, Option, Some, None, Result, Ok, Err, IsTrue}
use Rattle.std.specs.Option.{ok_or, option_and_then}
use Rattle.std.proofs.Common.{refl}
use Rattle.flake_rate.specs.Divisor.{gcd}
use Rattle.flake_rate.specs.Tests.{fits_rate, is_bar, is_miss, is_rate}
use Rattle.flake_rate.specs.declared.bar.Bar.{Bar}
use Rattle.flake_rate.specs.declared.miss.Miss.{Miss}
use Rattle.flake_rate.specs.declared.rate.Rate.{Rate}
use Rattle.flake_rate.proofs.Limits.{bar-within, miss-lowest, miss-quotients, rate-lowest, rate-quotients}
use Rattle.suspect_range.specs.Faults.{range_fault}
use Rattle.suspect_range.specs.Range.{RangeView}
use Rattle.suspect_range.specs.declared.fault.RangeFault.{RangeFault}
use Rattle.farm_entry.specs.declared.command.OpenAsk.{OpenAsk}
use Rattle.weight_exact.specs.declared.limits.TheConstants.{MAX_WIDTH}
use Rattle.farm_entry.specs.declared.limits.TheConstants.{MAX_RERUNS}
use Rattle.farm_entry.specs.declared.opening.Opening.{Opening}
use Rattle.farm_entry.specs.declared.refusal.OpenFault.{OpenFault}
use Rattle.farm_entry.specs.declared.refusal.OpenFault.TheVariants as fault

-- what is made where a test passes
abbrev pub when_passed : {X : Type 0} → (test : Bool) → (IsTrue test → X) → Option X
when_passed true make = Some (make refl)
when_passed false make = None

-- the flake rate a/b in lowest terms, where the numbers as given are within its limits
abbrev pub rate_of : (a b : ℕ) → Option Rate
rate_of a b = when_passed (is_rate a b) (λ within. record {
  a = a / gcd a b;
  b = b / gcd a b;
  in_limits = rate-quotients a b within;
  lowest_terms = rate-lowest a b within;
})

-- the miss rate c/d in lowest terms, where the numbers as given are within its limits
abbrev pub miss_of : (c d : ℕ) → Option Miss
miss_of c d = when_passed (is_miss c d) (λ within. record {
  c = c / gcd c d;
  d = d / gcd c d;
  in_limits = miss-quotients c d within;
  lowest_terms = miss-lowest c d within;
})

-- the bar t/u as given, where the numbers are within its limits
abbrev pub bar_of : (t u : ℕ) → Option Bar
bar_of t u = when_passed (is_bar t u) (λ within. record { t = t; u = u; in_limits = bar-within t u within })

-- a miss rate, where it fits a flake rate: a broken test has to fail more often than a sound one
abbrev pub fitting : Rate → Miss → Option Miss
fitting rate miss = if fits_rate miss rate then Some miss else None

-- a value, unless there is a fault of its range
abbrev pub unless_fault : {X : Type 0} → Option RangeFault → X → Result X OpenFault
unless_fault (Some f) x = Err (fault.Range f)
unless_fault None x = Ok x

-- what is made of a value, or the fault in its place
abbrev pub and_then : {X Y : Type 0} → Result X OpenFault → (X → Result Y OpenFault) → Result Y OpenFault
and_then (Ok x) make = make x
and_then (Err f) make = Err f

-- The parts of a search as they are asked for, each with the fault for which it is refused.

abbrev pub asked_range : OpenAsk → Result RangeView OpenFault
asked_range ask =
    unless_fault (range_fault ask.base ask.suspects ask.calm)
    (record { base = ask.base; suspects = ask.suspects; calm = ask.calm })

abbrev pub asked_rate : OpenAsk → Result Rate OpenFault
asked_rate ask = ok_or (rate_of ask.rate.0 ask.rate.1) (fault.Rate (record { a = ask.rate.0; b = ask.rate.1 }))

abbrev pub asked_miss : OpenAsk → Rate → Result Miss OpenFault
asked_miss ask rate =
    ok_or (option_and_then (fitting rate) (miss_of ask.miss.0 ask.miss.1))
    (fault.Miss (record { c = ask.miss.0; d = ask.miss.1 }))

abbrev pub asked_bar : OpenAsk → Result Bar OpenFault
asked_bar ask = ok_or (bar_of ask.bar.0 ask.bar.1) (fault.Bar (record { t = ask.bar.0; u = ask.bar.1 }))

abbrev pub asked_width : OpenAsk → Result ℕ OpenFault
asked_width ask = if nat_le 1 ask.width && nat_le ask.width MAX_WIDTH then Ok ask.width else Err (fault.Width ask.width)

abbrev pub asked_reruns : OpenAsk → Result ℕ OpenFault
asked_reruns ask =
    if nat_le 1 ask.reruns && nat_le ask.reruns MAX_RERUNS then Ok ask.reruns else Err (fault.Reruns ask.reruns)

-- The search that is asked for, under its number; or the first cause for which it can't be opened. The rates are kept
-- in lowest terms, and the bar as given
abbrev pub opening_of : OpenAsk → (search : ℕ) → Result Opening OpenFault
opening_of ask search =
    and_then (asked_range ask) (λ range.
    and_then (asked_rate ask) (λ rate.
    and_then (asked_miss ask rate) (λ miss.
    and_then (asked_bar ask) (λ bar.
    and_then (asked_width ask) (λ width.
    and_then (asked_reruns ask) (λ reruns.
    Ok (record {
      key = ask.key;
      search = search;
      test = ask.test;
      range = range;
      rate = rate;
      miss = miss;
      bar = bar;
      width = width;
      reruns = reruns;
    })))))))
