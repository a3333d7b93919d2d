-- The parts of an entry are read as they are spelled.
use Rattle.std.proofs.Common.{◌≡◌, ℕ, ◌^◌, ◌<◌, ◌≤◌, Bool, true, false, not, nat_eq, List, [], ◌++◌, length, Some, refl, sym, ap, subst, ◌∙◌, append_assoc, arith}
use Rattle.std.proofs.lemmas.Bool.{eq-eqb, eqb-false, eqb-true, ne_eqb}
use Rattle.hex.specs.Hex.{IsBytes}
use Rattle.flake_rate.specs.Bar.{bar_denominator, bar_numerator}
use Rattle.flake_rate.specs.Miss.{FitsRate, miss_denominator, miss_numerator}
use Rattle.flake_rate.specs.Rate.{rate_denominator, rate_numerator}
use Rattle.flake_rate.specs.declared.bar.Bar.{Bar}
use Rattle.flake_rate.specs.declared.miss.Miss.{Miss}
use Rattle.flake_rate.specs.declared.rate.Rate.{Rate}
use Rattle.flake_rate.proofs.Values.{miss_denominator-zero, zero_miss_fits}
use Rattle.farm_types.specs.CommitId.{id_bytes}
use Rattle.farm_types.specs.Limits.{IsName}
use Rattle.farm_types.specs.Moment.{moment_ms}
use Rattle.farm_types.specs.declared.commit_id.TheConstants.{ID_BYTES}
use Rattle.farm_types.specs.declared.key.Key.{Key}
use Rattle.farm_types.specs.declared.stage.Stage.{Stage}
use Rattle.farm_types.specs.declared.stage.Stage.TheVariants.{Search, Verify}
use Rattle.weight_exact.specs.declared.run.Verdict.{Verdict}
use Rattle.weight_exact.specs.declared.run.Verdict.TheVariants.{Pass, Fail}
use Rattle.farm_entry.specs.Ask.{bar_of}
use Rattle.farm_entry.specs.Settings.{settings_daily, settings_lease_ms}
use Rattle.farm_entry.specs.declared.entry.Fate.{Fate}
use Rattle.farm_entry.specs.declared.entry.Fate.TheVariants.{Counted, Late, Over}
use Rattle.farm_entry.specs.declared.entry.SkipFate.{SkipFate}
use Rattle.farm_entry.specs.declared.entry.SkipFate.TheVariants as skip
use Rattle.farm_entry.specs.declared.settings.Settings.{Settings}
use Rattle.entry_codec.specs.Spelling.{bar_bytes, fate_mark, miss_bytes, name_bytes, number_bytes, rate_bytes, settings_bytes, skip_fate_mark, stage_mark, verdict_mark, zone_number}
use Rattle.entry_codec.specs.Values.{fate_of, fitting_miss, id_of, lowest_miss, lowest_rate, moment_of, name_of, settings_of, skip_fate_of, stage_of, up_to, verdict_of}
use Rattle.entry_codec.specs.Reading.{bar_at, fate_at, id_at, key_at, miss_at, moment_at, name_at, rate_at, settings_at, skip_fate_at, stage_at, up_to_at, verdict_at}
use Rattle.entry_codec.proofs.FieldLaws.{IsRead, Took, bytes_are_read, joined, made_are_read, made_is, number-again, number_is_read, some_is, step}
use Rattle.entry_codec.proofs.Made.{bar_of-bar, bar_of-numbers, fate_of-fate, fate_of-mark, fitting_miss-miss, fitting_miss-numbers, id_of-bytes, id_of-id, lowest_miss-numbers, lowest_rate-numbers, lowest_rate-rate, miss_at-zero, moment_of-moment, moment_of-ms, name_of-name, name_of-text, settings_of-numbers, settings_of-settings, skip_fate_of-fate, skip_fate_of-mark, stage_of-mark, stage_of-stage, up_to-number, up_to-within, verdict_of-mark, verdict_of-verdict, zone_number-small}

-- every value fits
abbrev pub Any : {X : Type 0} → X → Type 0
Any x = Unit {0}

pub key_is_read : IsRead (λ (key : Key). key.0 < 2 ^ 128) (λ key. number_bytes 16 key.0) key_at
unfolding key_at
key_is_read =
    made_are_read (λ (key : Key). key.0 < 2 ^ 128) (λ key. key.0) (λ n. Some (record { 0 = n })) (number_is_read 16)
    (λ key fits. (fits, refl))
    (λ n key fits e. let same = some_is _ _ e in
    (subst (λ (k : Key). k.0 < 2 ^ 128) same fits, sym (ap (λ (k : Key). k.0) same)))

pub moment_is_read : IsRead Any (λ m. number_bytes 8 (moment_ms m)) moment_at
unfolding moment_at
moment_is_read =
    made_are_read Any moment_ms moment_of (number_is_read 8)
    (λ m _. (omega (arith, m.in_range.1), moment_of-moment m)) (λ ms m fits e. (tt, moment_of-ms ms m e))

pub id_is_read : IsRead Any id_bytes id_at
unfolding id_at
id_is_read =
    made_are_read Any id_bytes id_of (bytes_are_read ID_BYTES)
    (λ id _. (id.whole, id_of-id id)) (λ bytes id fits e. (tt, id_of-bytes bytes id e))

small-stage : (stage : Stage) → stage_mark stage < 256 ^ 1
small-stage Search = omega arith
small-stage Verify = omega arith

pub stage_is_read : IsRead Any (λ stage. number_bytes 1 (stage_mark stage)) stage_at
unfolding stage_at
stage_is_read =
    made_are_read Any stage_mark stage_of (number_is_read 1)
    (λ stage _. (small-stage stage, stage_of-stage stage)) (λ mark stage fits e. (tt, stage_of-mark mark stage e))

small-verdict : (verdict : Verdict) → verdict_mark verdict < 256 ^ 1
small-verdict Pass = omega arith
small-verdict Fail = omega arith

pub verdict_is_read : IsRead Any (λ verdict. number_bytes 1 (verdict_mark verdict)) verdict_at
unfolding verdict_at
verdict_is_read =
    made_are_read Any verdict_mark verdict_of (number_is_read 1)
    (λ verdict _. (small-verdict verdict, verdict_of-verdict verdict)) (λ mark verdict fits e.
    (tt, verdict_of-mark mark verdict e))

small-fate : (fate : Fate) → fate_mark fate < 256 ^ 1
small-fate Counted = omega arith
small-fate Late = omega arith
small-fate Over = omega arith

pub fate_is_read : IsRead Any (λ fate. number_bytes 1 (fate_mark fate)) fate_at
unfolding fate_at
fate_is_read =
    made_are_read Any fate_mark fate_of (number_is_read 1)
    (λ fate _. (small-fate fate, fate_of-fate fate)) (λ mark fate fits e. (tt, fate_of-mark mark fate e))

small-skip_fate : (fate : SkipFate) → skip_fate_mark fate < 256 ^ 1
small-skip_fate skip.Taken = omega arith
small-skip_fate skip.Late = omega arith

pub skip_fate_is_read : IsRead Any (λ fate. number_bytes 1 (skip_fate_mark fate)) skip_fate_at
unfolding skip_fate_at
skip_fate_is_read =
    made_are_read Any skip_fate_mark skip_fate_of (number_is_read 1)
    (λ fate _. (small-skip_fate fate, skip_fate_of-fate fate)) (λ mark fate fits e. (tt, skip_fate_of-mark mark fate e))

pub up_to_is_read : (limit : ℕ) → limit < 256 →
    IsRead (λ (n : ℕ). (1 ≤ n) × (n ≤ limit)) (number_bytes 1) (up_to_at limit)
unfolding up_to_at
up_to_is_read limit small =
    made_are_read (λ (n : ℕ). (1 ≤ n) × (n ≤ limit)) (λ n. n) (up_to limit) (number_is_read 1)
    (λ n fits. (omega (arith, fits.1), up_to-number limit n fits.0 fits.1))
    (λ n m fits e. let h = up_to-within limit n m e in (h.1, sym h.0))

-- names

name-take : (bytes name rest : List ℕ) → IsBytes bytes → name_at bytes ≡ Some (name, rest) →
    Took IsName name_bytes bytes name rest
unfolding name_at
name-take bytes name rest fits e =
    let a = step (number_is_read 1) fits e in
    let b = step (bytes_are_read a.value) a.took.rest_bytes a.goes_on in
    let m = made_is name_of b.value b.rest name rest b.goes_on in
    let text = name_of-text b.value name m.0 in
    let count : a.value ≡ length name = sym b.took.fits ∙ ap length text.0 in
    let parts = joined bytes (number_bytes 1 a.value) a.rest b.value b.rest a.took.parts b.took.parts in
    record {
      fits = text.1;
      parts = parts ∙ ap (λ (n : ℕ). (number_bytes 1 n ++ b.value) ++ b.rest) count
          ∙ ap (λ (t : List ℕ). (number_bytes 1 (length name) ++ t) ++ b.rest) text.0
          ∙ ap (λ (r : List ℕ). (number_bytes 1 (length name) ++ name) ++ r) m.1;
      rest_bytes = subst (λ (r : List ℕ). IsBytes r) m.1 b.took.rest_bytes;
    }

name-again : (name rest : List ℕ) → IsName name → name_at (name_bytes name ++ rest) ≡ Some (name, rest)
unfolding name_at
name-again name rest fits =
    let grouped : name_bytes name ++ rest ≡ number_bytes 1 (length name) ++ (name ++ rest) = append_assoc _ name rest in
    ap name_at grouped
    ∙ rw (
      number-again 1 (length name) (name ++ rest) (omega (arith, fits.few)),
      (bytes_are_read (length name)).again name rest refl,
      name_of-name name fits,
    ) refl

pub name_is_read : IsRead IsName name_bytes name_at
name_is_read = record { takes = name-take; again = name-again }

-- settings

settings-take : (bytes : List ℕ) (s : Settings) (rest : List ℕ) → IsBytes bytes → settings_at bytes ≡ Some (s, rest) →
    Took Any settings_bytes bytes s rest
unfolding settings_at
settings-take bytes s rest fits e =
    let a = step (number_is_read 4) fits e in
    let b = step (number_is_read 2) a.took.rest_bytes a.goes_on in
    let c = step (number_is_read 2) b.took.rest_bytes b.goes_on in
    let m = made_is (settings_of a.value b.value) c.value c.rest s rest c.goes_on in
    let numbers = settings_of-numbers a.value b.value c.value s m.0 in
    let two = joined bytes _ a.rest _ b.rest a.took.parts b.took.parts in
    let three = joined bytes _ b.rest _ c.rest two c.took.parts in
    record {
      fits = tt;
      parts = three
          ∙ ap (λ (n : ℕ). ((number_bytes 4 n ++ number_bytes 2 b.value) ++ number_bytes 2 c.value)
          ++ c.rest) (sym numbers.lease_is)
          ∙ ap (λ (n : ℕ). ((number_bytes 4 (settings_lease_ms s) ++ number_bytes 2 n) ++ number_bytes 2 c.value)
          ++ c.rest) (sym numbers.daily_is)
          ∙ ap (λ (n : ℕ). ((number_bytes 4 (settings_lease_ms s) ++ number_bytes 2 (settings_daily s))
          ++ number_bytes 2 n) ++ c.rest) (sym numbers.zone_is)
          ∙ ap (λ (t : List ℕ). settings_bytes s ++ t) m.1;
      rest_bytes = subst (λ (r : List ℕ). IsBytes r) m.1 c.took.rest_bytes;
    }

settings-again : (s : Settings) (rest : List ℕ) → Any s → settings_at (settings_bytes s ++ rest) ≡ Some (s, rest)
unfolding settings_at
settings-again s rest _ =
    let lease = number_bytes 4 (settings_lease_ms s) in
    let daily = number_bytes 2 (settings_daily s) in
    let zone = number_bytes 2 (zone_number s) in
    let grouped : settings_bytes s ++ rest ≡ lease ++ (daily ++ (zone ++ rest)) = simp append_assoc in
    ap settings_at grouped
    ∙ rw (
      number-again 4 (settings_lease_ms s) (daily ++ (zone ++ rest)) (omega (arith, s.lease_in_range.1)),
      number-again 2 (settings_daily s) (zone ++ rest) (omega (arith, s.daily_in_range)),
      number-again 2 (zone_number s) rest (zone_number-small s),
      settings_of-settings s,
    ) refl

pub settings_is_read : IsRead Any settings_bytes settings_at
settings_is_read = record { takes = settings-take; again = settings-again }

-- two numbers of one width, under other names
pair-same : (w : ℕ) (bytes : List ℕ) (a b x y : ℕ) (rest after : List ℕ) → a ≡ x → b ≡ y → rest ≡ after →
    bytes ≡ (number_bytes w a ++ number_bytes w b) ++ rest → bytes ≡ (number_bytes w x ++ number_bytes w y) ++ after
pair-same w bytes a b x y rest after first second tail h =
    h ∙ ap (λ (n : ℕ). (number_bytes w n ++ number_bytes w b) ++ rest) first
    ∙ ap (λ (n : ℕ). (number_bytes w x ++ number_bytes w n) ++ rest) second
    ∙ ap (λ (t : List ℕ). (number_bytes w x ++ number_bytes w y) ++ t) tail

-- rates

rate-take : (bytes : List ℕ) (r : Rate) (rest : List ℕ) → IsBytes bytes → rate_at bytes ≡ Some (r, rest) →
    Took Any rate_bytes bytes r rest
unfolding rate_at
rate-take bytes r rest fits e =
    let a = step (number_is_read 2) fits e in
    let b = step (number_is_read 2) a.took.rest_bytes a.goes_on in
    let m = made_is (lowest_rate a.value) b.value b.rest r rest b.goes_on in
    let numbers = lowest_rate-numbers a.value b.value r m.0 in
    let two = joined bytes _ a.rest _ b.rest a.took.parts b.took.parts in
    record {
      fits = tt;
      parts = pair-same 2 bytes a.value b.value (rate_numerator r) (rate_denominator r) b.rest rest (sym numbers.0)
          (sym numbers.1) m.1 two;
      rest_bytes = subst (λ (t : List ℕ). IsBytes t) m.1 b.took.rest_bytes;
    }

rate-again : (r : Rate) (rest : List ℕ) → Any r → rate_at (rate_bytes r ++ rest) ≡ Some (r, rest)
unfolding rate_at
rate-again r rest _ =
    let under = number_bytes 2 (rate_denominator r) in
    let grouped : rate_bytes r ++ rest ≡ number_bytes 2 (rate_numerator r) ++ (under ++ rest) =
    append_assoc _ under rest in
    ap rate_at grouped
    ∙ rw (
      number-again 2 (rate_numerator r) (under ++ rest) (omega (arith, r.in_limits.1, r.in_limits.2)),
      number-again 2 (rate_denominator r) rest (omega (arith, r.in_limits.2)),
      lowest_rate-rate r,
    ) refl

pub rate_is_read : IsRead Any rate_bytes rate_at
rate_is_read = record { takes = rate-take; again = rate-again }

-- bars

bar-take : (bytes : List ℕ) (bar : Bar) (rest : List ℕ) → IsBytes bytes → bar_at bytes ≡ Some (bar, rest) →
    Took Any bar_bytes bytes bar rest
unfolding bar_at
bar-take bytes bar rest fits e =
    let a = step (number_is_read 2) fits e in
    let b = step (number_is_read 2) a.took.rest_bytes a.goes_on in
    let m = made_is (bar_of a.value) b.value b.rest bar rest b.goes_on in
    let numbers = bar_of-numbers a.value b.value bar m.0 in
    let two = joined bytes _ a.rest _ b.rest a.took.parts b.took.parts in
    record {
      fits = tt;
      parts = pair-same 2 bytes a.value b.value (bar_numerator bar) (bar_denominator bar) b.rest rest (sym numbers.0)
          (sym numbers.1) m.1 two;
      rest_bytes = subst (λ (t : List ℕ). IsBytes t) m.1 b.took.rest_bytes;
    }

bar-again : (bar : Bar) (rest : List ℕ) → Any bar → bar_at (bar_bytes bar ++ rest) ≡ Some (bar, rest)
unfolding bar_at
bar-again bar rest _ =
    let under = number_bytes 2 (bar_denominator bar) in
    let grouped : bar_bytes bar ++ rest ≡ number_bytes 2 (bar_numerator bar) ++ (under ++ rest) =
    append_assoc _ under rest in
    ap bar_at grouped
    ∙ rw (
      number-again 2 (bar_numerator bar) (under ++ rest) (omega (arith, bar.in_limits.0, bar.in_limits.2)),
      number-again 2 (bar_denominator bar) rest (omega (arith, bar.in_limits.0)),
      bar_of-bar bar,
    ) refl

pub bar_is_read : IsRead Any bar_bytes bar_at
bar_is_read = record { takes = bar-take; again = bar-again }

-- miss rates: of 0 or above it, as the tag says

pub record IsMissAt (above_zero : Bool) (rate : Rate) (m : Miss) : Type 0 where
  pub fits : FitsRate m rate
  pub sign : nat_eq (miss_numerator m) 0 ≡ not above_zero

zero-take : (rate : Rate) (bytes : List ℕ) (m : Miss) (rest : List ℕ) → IsBytes bytes →
    miss_at false rate bytes ≡ Some (m, rest) → Took (IsMissAt false rate) miss_bytes bytes m rest
unfolding miss_at
zero-take rate bytes m rest fits e =
    let made = made_is (lowest_miss 0) 1 bytes m rest e in
    let numbers = lowest_miss-numbers 0 1 m made.0 in
    let sign : nat_eq (miss_numerator m) 0 ≡ true = eq-eqb _ _ numbers.0 in
    record {
      fits = record { fits = zero_miss_fits m rate numbers.0; sign = sign };
      parts = rw (sign, ← made.1) refl;
      rest_bytes = subst (λ (t : List ℕ). IsBytes t) made.1 fits;
    }

above-take : (rate : Rate) (bytes : List ℕ) (m : Miss) (rest : List ℕ) → IsBytes bytes →
    miss_at true rate bytes ≡ Some (m, rest) → Took (IsMissAt true rate) miss_bytes bytes m rest
unfolding miss_at
above-take rate bytes m rest fits e =
    let a = step (number_is_read 1) fits e in
    let b = step (number_is_read 1) a.took.rest_bytes a.goes_on in
    let made = made_is (fitting_miss rate a.value) b.value b.rest m rest b.goes_on in
    let is = fitting_miss-numbers rate a.value b.value m made.0 in
    let two = joined bytes _ a.rest _ b.rest a.took.parts b.took.parts in
    let sign : nat_eq (miss_numerator m) 0 ≡ false =
    ne_eqb _ _ (λ zero_is. absurd (omega (arith, is.over, is.above))) in
    let spelled : miss_bytes m ≡ number_bytes 1 (miss_numerator m) ++ number_bytes 1 (miss_denominator m) =
    rw sign refl in
    record {
      fits = record { fits = is.fits; sign = sign };
      parts = pair-same 1 bytes a.value b.value (miss_numerator m) (miss_denominator m) b.rest rest (sym is.over)
          (sym is.under) made.1 two
          ∙ ap (λ (b : List ℕ). b ++ rest) (sym spelled);
      rest_bytes = subst (λ (t : List ℕ). IsBytes t) made.1 b.took.rest_bytes;
    }

zero-again : (rate : Rate) (m : Miss) (rest : List ℕ) → IsMissAt false rate m →
    miss_at false rate (miss_bytes m ++ rest) ≡ Some (m, rest)
zero-again rate m rest is =
    let blank : miss_bytes m ≡ [] = rw is.sign refl in
    let over : miss_numerator m ≡ 0 = eqb-true _ _ is.sign in
    ap (λ (b : List ℕ). miss_at false rate (b ++ rest)) blank
    ∙ miss_at-zero false rate rest m refl over (miss_denominator-zero m over)

above-again : (rate : Rate) (m : Miss) (rest : List ℕ) → IsMissAt true rate m →
    miss_at true rate (miss_bytes m ++ rest) ≡ Some (m, rest)
unfolding miss_at
above-again rate m rest is =
    let under = number_bytes 1 (miss_denominator m) in
    let spelled : miss_bytes m ≡ number_bytes 1 (miss_numerator m) ++ under = rw is.sign refl in
    let grouped : miss_bytes m ++ rest ≡ number_bytes 1 (miss_numerator m) ++ (under ++ rest) =
    ap (λ (b : List ℕ). b ++ rest) spelled ∙ append_assoc _ under rest in
    let other : miss_numerator m ≡ 0 → ⊥ = eqb-false _ _ is.sign in
    let above : 1 ≤ miss_numerator m = omega arith in
    ap (miss_at true rate) grouped
    ∙ rw (
      number-again 1 (miss_numerator m) (under ++ rest) (omega (arith, m.in_limits.0, m.in_limits.1)),
      number-again 1 (miss_denominator m) rest (omega (arith, m.in_limits.1)),
      fitting_miss-miss rate m above is.fits,
    ) refl

pub miss_is_read : (above_zero : Bool) (rate : Rate) →
    IsRead (IsMissAt above_zero rate) miss_bytes (miss_at above_zero rate)
miss_is_read false rate = record { takes = zero-take rate; again = zero-again rate }
miss_is_read true rate = record { takes = above-take rate; again = above-again rate }
