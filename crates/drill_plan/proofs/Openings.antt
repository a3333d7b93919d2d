-- The open of each search makes an opening.
use Rattle.std.proofs.Common.{◌≡◌, ℕ, ◌+◌, ◌*◌, ◌/◌, ◌%◌, ◌<◌, Bool, true, false, length, get_or, Option, Result, Ok, Err, if◌then◌else◌, refl, sym, ap, ◌∙◌, arith, true≢false}
use Rattle.std.specs.List.{range_with_len}
use Rattle.std.specs.Option.{ok_or}
use Rattle.std.proofs.Math.Facts.{leb_yes}
use Rattle.std.proofs.lemmas.Bool.Decides.{nat_tests}
use Rattle.std.proofs.lemmas.List.Elements.{All-map}
use Rattle.std.proofs.lemmas.List.FromFn.{length-map-range_with_len}
use Rattle.std.proofs.lemmas.Nat.{mod_below}
use Rattle.flake_rate.proofs.Limits.{bar-within, miss-lowest, miss-quotients, rate-lowest, rate-quotients, rate-tested}
use Rattle.flake_rate.specs.Divisor.{gcd}
use Rattle.flake_rate.specs.declared.bar.Bar.{Bar}
use Rattle.flake_rate.specs.Limits.{IsRate}
use Rattle.flake_rate.specs.declared.miss.Miss.{Miss}
use Rattle.flake_rate.specs.declared.rate.Rate.{Rate}
use Rattle.suspect_range.proofs.Legal.{no_fault-from_IsSuspectRange}
use Rattle.suspect_range.specs.Range.{IsSuspectRange, RangeView}
use Rattle.suspect_range.specs.declared.fault.RangeFault.{RangeFault}
use Rattle.suspect_range.specs.declared.suspect.Suspect.{Suspect}
use Rattle.weight_exact.specs.Limits.{IsWeight}
use Rattle.farm_entry.proofs.Asked.{asked_miss-made, rate_of-made}
use Rattle.farm_entry.specs.Ask.{and_then, asked_bar, asked_miss, asked_range, asked_rate, asked_reruns, asked_width, opening_of, unless_fault}
use Rattle.farm_entry.specs.declared.opening.Opening.{Opening}
use Rattle.farm_entry.specs.declared.refusal.OpenFault.{OpenFault}
use Rattle.farm_entry.specs.declared.refusal.OpenFault.TheVariants as fault
use Rattle.drill_plan.specs.Plan.{planned_ask, planned_suspect, planned_suspects}
use Rattle.drill_plan.proofs.Apart.{commits-differ}

suspects-below : (s : ℕ) → planned_suspects s < 101
suspects-below s = let h = mod_below (37 * s) 81 (leb_yes tt) in omega arith

-- the range of a search
range-good : (s : ℕ) → IsSuspectRange (planned_ask s).base (planned_ask s).suspects (planned_ask s).calm
range-good s =
    let n = planned_suspects s in
    let below : n < 101 = suspects-below s in
    let long : length (planned_ask s).suspects ≡ n = length-map-range_with_len (planned_suspect s) 1 n in
    record {
      some = omega arith;
      few = omega arith;
      weights = All-map (λ (x : Suspect). IsWeight x.weight) (planned_suspect s) (range_with_len 1 n)
          (λ k d within.
          let h = mod_below (get_or (range_with_len 1 n) k d * s) 7 (leb_yes tt) in (omega arith, omega arith));
      calm_in = (omega arith, omega arith);
      distinct = commits-differ s n (omega arith);
    }

range-made : (s : ℕ) → (range : RangeView) × (asked_range (planned_ask s) ≡ Ok range)
range-made s =
    let ask = planned_ask s in
    let view : RangeView = record { base = ask.base; suspects = ask.suspects; calm = ask.calm } in (
      view,
      ap (λ (f : Option RangeFault). unless_fault f view)
          (no_fault-from_IsSuspectRange ask.base ask.suspects ask.calm (range-good s)),
    )

-- the flake rate, the miss rate and the bar
rate-made : (s : ℕ) → (rate : Rate) × (asked_rate (planned_ask s) ≡ Ok rate)
rate-made s =
    let h = mod_below s 4 (leb_yes tt) in
    let b : ℕ = 5 + s % 4 in
    let within : IsRate 1 b = (leb_yes tt, omega arith, omega arith) in
    let passes = rate-tested 1 b within in
    let rate : Rate = record {
      a = 1 / gcd 1 b;
      b = b / gcd 1 b;
      in_limits = rate-quotients 1 b passes;
      lowest_terms = rate-lowest 1 b passes;
    } in
    (rate, ap (λ (o : Option Rate). ok_or o (fault.Rate (record { a = 1; b = b }))) (rate_of-made 1 b rate within refl refl))

abbrev no_miss : Miss
no_miss = record { c = 0; d = 1; in_limits = miss-quotients 0 1 refl; lowest_terms = miss-lowest 0 1 refl }

miss-made : (s : ℕ) (rate : Rate) → asked_miss (planned_ask s) rate ≡ Ok no_miss
miss-made s rate =
    sym (asked_miss-made 0 1 rate no_miss (fault.Miss (record { c = 0; d = 1 })) (leb_yes tt, leb_yes tt) refl refl
    (omega (arith, rate.in_limits.1)))

abbrev the_bar : Bar
the_bar = record { t = 99; u = 100; in_limits = bar-within 99 100 refl }

bar-made : (s : ℕ) → asked_bar (planned_ask s) ≡ Ok the_bar
bar-made s = refl

when : {X : Type 0} (test : Bool) (x : X) (f : OpenFault) → test ≡ true → (if test then Ok x else Err f) ≡ Ok x
when true x f is = refl
when false x f is = absurd (true≢false (sym is))

width-made : (s : ℕ) → (width : ℕ) × (asked_width (planned_ask s) ≡ Ok width)
width-made s =
    let h = mod_below s 8 (leb_yes tt) in
    (1 + s % 8, when _ (1 + s % 8) _ (grind (arith, nat_tests)))

reruns-made : (s : ℕ) → (reruns : ℕ) × (asked_reruns (planned_ask s) ≡ Ok reruns)
reruns-made s =
    let h = mod_below s 3 (leb_yes tt) in
    (1 + s % 3, when _ (1 + s % 3) _ (grind (arith, nat_tests)))

and_then-made : {X Y : Type 0} (x : Result X OpenFault) (make : X → Result Y OpenFault) (a : X) (b : Result Y OpenFault)
    → x ≡ Ok a → make a ≡ b → and_then x make ≡ b
and_then-made {X} x make a b is makes = ap (λ (r : Result X OpenFault). and_then r make) is ∙ makes

-- the opening of a search under a number
pub record IsAskedFor (s k : ℕ) : Type 0 where
  pub opening : Opening
  pub is : opening_of (planned_ask s) k ≡ Ok opening
  pub key : opening.key ≡ (planned_ask s).key
  pub search : opening.search ≡ k

pub asked-for : (s k : ℕ) → IsAskedFor s k
asked-for s k =
    let ask = planned_ask s in
    let range = range-made s in
    let rate = rate-made s in
    let miss = miss-made s rate.0 in
    let width = width-made s in
    let reruns = reruns-made s in
    let made : Bar → (w r : ℕ) → Opening = λ bar w r. record {
      key = ask.key;
      search = k;
      test = ask.test;
      range = range.0;
      rate = rate.0;
      miss = no_miss;
      bar = bar;
      width = w;
      reruns = r;
    } in
    let at_reruns : Bar → (w r : ℕ) → Result Opening OpenFault = λ bar w r. Ok (made bar w r) in
    let at_width : Bar → (w : ℕ) → Result Opening OpenFault = λ bar w. and_then (asked_reruns ask) (at_reruns bar w) in
    let at_bar : Bar → Result Opening OpenFault = λ bar. and_then (asked_width ask) (at_width bar) in
    let whole : Opening = made the_bar width.0 reruns.0 in
    record {
      opening = whole;
      is = and_then-made (asked_range ask) _ range.0 (Ok whole) range.1
          (and_then-made (asked_rate ask) _ rate.0 (Ok whole) rate.1
          (and_then-made (asked_miss ask rate.0) _ no_miss (Ok whole) miss
          (and_then-made (asked_bar ask) at_bar the_bar (Ok whole) (bar-made s)
          (and_then-made (asked_width ask) (at_width the_bar) width.0 (Ok whole) width.1
          (and_then-made (asked_reruns ask) (at_reruns the_bar width.0) reruns.0 (Ok whole) reruns.1 refl)))));
      key = refl;
      search = refl;
    }
