-- Values and the numbers that spell them: each value is made of its own numbers, and of no others.
use Rattle.std.proofs.Common.{◌≡◌, ℕ, suc, ◌^◌, ◌<◌, ◌≤◌, ◌&&◌, ◌⊎◌, inl, inr, Bool, true, false, nat_le, IsTrue, List, [], ◌∷◌, get_or, length, if◌then◌else◌, Option, Some, None, ℤ, pos, negsuc, ◌-ℤ◌, ◌≤ℤ◌, refl, sym, ap, subst, ◌∙◌, arith}
use Rattle.std.specs.Prelude.{◌==◌, int_le, is_none}
use Rattle.std.specs.Int.RustNames.{unsigned_abs}
use Rattle.std.specs.Option.{option_and_then}
use Rattle.std.proofs.lemmas.Bool.{and_from, and_parts, cases_lt, eq-eqb, eqb-true, le-leb, leb-true, lt-ltb}
use Rattle.std.specs.Str.{IsAscii, IsUtf8}
use Rattle.std.proofs.lemmas.Int.{ints}
use Rattle.std.proofs.lemmas.List.{get_or_past}
use Rattle.std.proofs.lemmas.Str.{IsUtf8-from_ascii}
use Rattle.std.proofs.lemmas.Option.{same_Some}
use Rattle.hex.specs.Hex.{IsBytes}
use Rattle.flake_rate.specs.Bar.{bar_denominator, bar_numerator}
use Rattle.flake_rate.specs.Miss.{FitsRate, miss_denominator, miss_numerator}
use Rattle.flake_rate.specs.Rate.{rate_denominator, rate_numerator}
use Rattle.flake_rate.specs.Tests.{fits_rate, is_bar}
use Rattle.flake_rate.specs.declared.bar.Bar.{Bar}
use Rattle.flake_rate.specs.declared.miss.Miss.{Miss}
use Rattle.flake_rate.specs.declared.rate.Rate.{Rate}
use Rattle.flake_rate.proofs.Limits.{bar-tested, fits-tested, fits-within, miss-tested, rate-tested}
use Rattle.flake_rate.proofs.Values.{bar-from_numbers, miss-from_numbers, rate-from_numbers}
use Rattle.farm_types.specs.CommitId.{id_bytes}
use Rattle.farm_types.specs.Limits.{IsName, is_moment}
use Rattle.farm_types.proofs.Limits.{moment-tested}
use Rattle.farm_types.specs.Moment.{moment_ms}
use Rattle.farm_types.specs.Name.{name_fault}
use Rattle.farm_types.specs.declared.commit_id.CommitId.{CommitId}
use Rattle.farm_types.specs.declared.moment.Moment.{Moment}
use Rattle.farm_types.specs.declared.stage.Stage.{Stage}
use Rattle.farm_types.specs.declared.stage.Stage.TheVariants.{Search, Verify}
use Rattle.farm_types.specs.declared.zone.TheConstants.{ZONE_MAX_MINUTES, ZONE_MIN_MINUTES}
use Rattle.farm_types.specs.declared.name.TheConstants.{NAME_FIRST_BYTE, NAME_LAST_BYTE}
use Rattle.farm_types.proofs.NameTexts.{IsName-from_no_fault, no_fault-from_IsName}
use Rattle.farm_types.proofs.SameValues.{id_bytes-injective, moment_ms-injective}
use Rattle.suspect_range.specs.Faults.{range_fault}
use Rattle.suspect_range.specs.Range.{IsSuspectRange, RangeView}
use Rattle.suspect_range.specs.declared.suspect.Suspect.{Suspect}
use Rattle.suspect_range.proofs.Legal.{IsSuspectRange-from_no_fault, no_fault-from_IsSuspectRange}
use Rattle.weight_exact.specs.declared.run.Verdict.{Verdict}
use Rattle.weight_exact.specs.declared.run.Verdict.TheVariants.{Pass, Fail}
use Rattle.farm_entry.specs.Ask.{bar_of, when_passed}
use Rattle.farm_entry.specs.Limits.{IsDailyLimit, IsLeaseTime, IsZone}
use Rattle.farm_entry.specs.Settings.{settings_daily, settings_lease_ms, settings_zone_minutes}
use Rattle.farm_entry.specs.declared.entry.Fate.{Fate}
use Rattle.farm_entry.specs.declared.entry.Fate.TheVariants.{Counted, Late, Over}
use Rattle.farm_entry.specs.declared.entry.SkipFate.{SkipFate}
use Rattle.farm_entry.specs.declared.entry.SkipFate.TheVariants as skip
use Rattle.farm_entry.specs.declared.settings.Settings.{Settings}
use Rattle.farm_entry.proofs.Asked.{when_passed-same}
use Rattle.farm_entry.proofs.SameSettings.{settings-from_numbers}
use Rattle.entry_codec.specs.Spelling.{fate_mark, skip_fate_mark, stage_mark, verdict_mark, zone_number}
use Rattle.entry_codec.specs.Reading.{◌>>=◌, miss_at}
use Rattle.entry_codec.specs.Values.{are_bytes, are_settings, fate_of, fitting_miss, id_of, if_fitting, lowest_miss, lowest_rate, moment_of, name_of, range_of, settings_of, skip_fate_of, stage_of, up_to, verdict_of, zone_at}
use Rattle.entry_codec.specs.declared.marks.TheConstants.{COUNTED_MARK, FAIL_MARK, LATE_MARK, OVER_MARK, PASS_MARK, SEARCH_MARK, TAKEN_MARK, VERIFY_MARK}

-- tests and what is made where they pass

made : {X : Type 0} (test : Bool) (make : IsTrue test → X) (x : X) → when_passed test make ≡ Some x →
    (h : IsTrue test) × (make h ≡ x)
made true make x e = (refl, same_Some (make refl) x e)
made false make x e = absurd (cc)

kept : {X : Type 0} (test : Bool) (x : X) → IsTrue test → (if test then Some x else None) ≡ Some x
kept true x h = refl
kept false x h = absurd (cc)

pub kept_is : {X : Type 0} (test : Bool) (x y : X) → (if test then Some x else None) ≡ Some y → IsTrue test × (x ≡ y)
kept_is true x y e = (refl, same_Some x y e)
kept_is false x y e = absurd (cc)

pub choice : {X : Type 0} (test : Bool) (x : X) (other : Option X) (y : X) → (if test then Some x else other) ≡ Some y →
    (IsTrue test × (x ≡ y)) ⊎ ((test ≡ false) × (other ≡ Some y))
choice true x other y e = inl (refl, same_Some x y e)
choice false x other y e = inr (refl, e)

pub none_unless : {X : Type 0} (o : Option X) → ((x : X) → o ≡ Some x → ⊥) → o ≡ None
none_unless None h = refl
none_unless (Some x) h = absurd (h x refl)

-- moments

pub moment_of-moment : (m : Moment) → moment_of (moment_ms m) ≡ Some m
moment_of-moment m =
    when_passed-same (is_moment (moment_ms m)) _ m (moment-tested (moment_ms m) m.in_range)
    (λ h. moment_ms-injective _ m refl)

pub moment_of-ms : (ms : ℕ) (m : Moment) → moment_of ms ≡ Some m → moment_ms m ≡ ms
moment_of-ms ms m e = sym (ap moment_ms (made (is_moment ms) _ m e).1)

pub moment_of-made : (ms : ℕ) (m : Moment) → moment_ms m ≡ ms → moment_of ms ≡ Some m
moment_of-made ms m e = subst (λ (n : ℕ). moment_of n ≡ Some m) e (moment_of-moment m)

-- ids

are_bytes-from : (bytes : List ℕ) → IsBytes bytes → IsTrue (are_bytes bytes)
are_bytes-from [] h = refl
are_bytes-from (b ∷ bytes) h = and_from _ _ (lt-ltb _ _ (h 0)) (are_bytes-from bytes (λ i. h (suc i)))

pub id_of-id : (id : CommitId) → id_of (id_bytes id) ≡ Some id
id_of-id id =
    when_passed-same _ _ id (and_from _ _ (eq-eqb _ _ id.whole) (are_bytes-from (id_bytes id) id.fits))
    (λ h. id_bytes-injective _ id refl)

pub id_of-bytes : (bytes : List ℕ) (id : CommitId) → id_of bytes ≡ Some id → id_bytes id ≡ bytes
id_of-bytes bytes id e = sym (ap id_bytes (made _ _ id e).1)

pub id_of-made : (bytes : List ℕ) (id : CommitId) → id_bytes id ≡ bytes → id_of bytes ≡ Some id
id_of-made bytes id e = subst (λ (b : List ℕ). id_of b ≡ Some id) e (id_of-id id)

-- names

is_none-None : {X : Type 0} (o : Option X) → IsTrue (is_none o) → o ≡ None
is_none-None None h = refl
is_none-None (Some x) h = absurd (cc)

None-is_none : {X : Type 0} (o : Option X) → o ≡ None → IsTrue (is_none o)
None-is_none None h = refl
None-is_none (Some x) h = absurd (cc)

pub name_of-name : (text : List ℕ) → IsName text → name_of text ≡ Some text
name_of-name text h = kept _ text (None-is_none (name_fault text) (no_fault-from_IsName text h))

pub name_of-text : (text name : List ℕ) → name_of text ≡ Some name → (text ≡ name) × IsName name
name_of-text text name e =
    let h = kept_is (is_none (name_fault text)) text name e in
    (h.1, subst (λ (t : List ℕ). IsName t) h.1 (IsName-from_no_fault text (is_none-None _ h.0)))

-- a name is ASCII, and so is text
IsAscii-from_IsName : (text : List ℕ) → IsName text → IsAscii text
IsAscii-from_IsName text h i = elim (cases_lt i (length text)) [
  | inl within ↦ let byte : get_or text i 0 ≤ NAME_LAST_BYTE =
      leb-true _ _ (and_parts (nat_le NAME_FIRST_BYTE (get_or text i 0)) _ (h.printable i 0 within)).1 in
      omega (arith, byte)
  | inr past ↦ rw (get_or_past text i 0 past) (omega arith)
]

pub name_of-other : (text : List ℕ) → (IsUtf8 text → ⊥) → name_of text ≡ None
name_of-other text other =
    none_unless (name_of text) (λ name e.
    let h = name_of-text text name e in
    other (IsUtf8-from_ascii text (IsAscii-from_IsName text (subst (λ (t : List ℕ). IsName t) (sym h.0) h.1))))

-- marks

pub stage_of-stage : (stage : Stage) → stage_of (stage_mark stage) ≡ Some stage
stage_of-stage Search = refl
stage_of-stage Verify = refl

pub stage_of-mark : (mark : ℕ) (stage : Stage) → stage_of mark ≡ Some stage → stage_mark stage ≡ mark
stage_of-mark mark stage e = elim (choice (mark == SEARCH_MARK) Search _ stage e) [
  | inl h ↦ sym (ap stage_mark h.1) ∙ sym (eqb-true _ _ h.0)
  | inr h ↦ let k = kept_is (mark == VERIFY_MARK) Verify stage h.1 in sym (ap stage_mark k.1) ∙ sym (eqb-true _ _ k.0)
]

pub verdict_of-verdict : (verdict : Verdict) → verdict_of (verdict_mark verdict) ≡ Some verdict
verdict_of-verdict Pass = refl
verdict_of-verdict Fail = refl

pub verdict_of-mark : (mark : ℕ) (verdict : Verdict) → verdict_of mark ≡ Some verdict → verdict_mark verdict ≡ mark
verdict_of-mark mark verdict e = elim (choice (mark == PASS_MARK) Pass _ verdict e) [
  | inl h ↦ sym (ap verdict_mark h.1) ∙ sym (eqb-true _ _ h.0)
  | inr h ↦ let k = kept_is (mark == FAIL_MARK) Fail verdict h.1 in sym (ap verdict_mark k.1) ∙ sym (eqb-true _ _ k.0)
]

pub fate_of-fate : (fate : Fate) → fate_of (fate_mark fate) ≡ Some fate
fate_of-fate Counted = refl
fate_of-fate Late = refl
fate_of-fate Over = refl

pub fate_of-mark : (mark : ℕ) (fate : Fate) → fate_of mark ≡ Some fate → fate_mark fate ≡ mark
fate_of-mark mark fate e = elim (choice (mark == COUNTED_MARK) Counted _ fate e) [
  | inl h ↦ sym (ap fate_mark h.1) ∙ sym (eqb-true _ _ h.0)
  | inr h ↦ elim (choice (mark == LATE_MARK) Late _ fate h.1) [
    | inl k ↦ sym (ap fate_mark k.1) ∙ sym (eqb-true _ _ k.0)
    | inr k ↦ let l = kept_is (mark == OVER_MARK) Over fate k.1 in sym (ap fate_mark l.1) ∙ sym (eqb-true _ _ l.0)
  ]
]

pub skip_fate_of-fate : (fate : SkipFate) → skip_fate_of (skip_fate_mark fate) ≡ Some fate
skip_fate_of-fate skip.Taken = refl
skip_fate_of-fate skip.Late = refl

pub skip_fate_of-mark : (mark : ℕ) (fate : SkipFate) → skip_fate_of mark ≡ Some fate → skip_fate_mark fate ≡ mark
skip_fate_of-mark mark fate e = elim (choice (mark == TAKEN_MARK) skip.Taken _ fate e) [
  | inl h ↦ sym (ap skip_fate_mark h.1) ∙ sym (eqb-true _ _ h.0)
  | inr h ↦ let k = kept_is (mark == LATE_MARK) skip.Late fate h.1 in
      sym (ap skip_fate_mark k.1) ∙ sym (eqb-true _ _ k.0)
]

-- settings

pos_abs : (z : ℤ) → pos 0 ≤ℤ z → pos (unsigned_abs z) ≡ z
pos_abs (pos n) h = refl
pos_abs (negsuc n) h = absurd (omega (arith, ints))

pub zone_at-number : (s : Settings) → zone_at (zone_number s) ≡ settings_zone_minutes s
zone_at-number s =
    let low : ZONE_MIN_MINUTES ≤ℤ s.zone_minutes = s.zone_in_range.0 in
    let above : pos 0 ≤ℤ (s.zone_minutes -ℤ ZONE_MIN_MINUTES) = omega (arith, ints) in
    let back : pos (zone_number s) ≡ s.zone_minutes -ℤ ZONE_MIN_MINUTES = pos_abs _ above in
    omega (arith, ints)

number-zone_at : (n : ℕ) → unsigned_abs (zone_at n -ℤ ZONE_MIN_MINUTES) ≡ n
number-zone_at n =
    let back : zone_at n -ℤ ZONE_MIN_MINUTES ≡ pos n = omega (arith, ints) in ap unsigned_abs back

held : (a b : ℤ) → a ≤ℤ b → IsTrue (int_le a b)
held a b h = grind (arith, ints)

settings-tested : (lease_ms daily : ℕ) (minutes : ℤ) → IsLeaseTime lease_ms → IsDailyLimit daily → IsZone minutes →
    IsTrue (are_settings lease_ms daily minutes)
settings-tested lease_ms daily minutes lease limit zone =
    and_from _ _ (and_from _ _ (le-leb _ _ lease.0) (le-leb _ _ lease.1))
    (and_from _ _ (le-leb _ _ limit) (and_from _ _ (held _ _ zone.0) (held _ _ zone.1)))

pub settings_of-settings : (s : Settings) →
    settings_of (settings_lease_ms s) (settings_daily s) (zone_number s) ≡ Some s
settings_of-settings s =
    let zone : IsZone (zone_at (zone_number s)) =
    subst (λ (z : ℤ). IsZone z) (sym (zone_at-number s)) s.zone_in_range in
    when_passed-same _ _ s (settings-tested _ _ _ s.lease_in_range s.daily_in_range zone)
    (λ h. settings-from_numbers _ s refl refl (zone_at-number s))

-- the three numbers of settings
pub record HasNumbers (s : Settings) (lease_ms daily zone : ℕ) : Type 0 where
  pub lease_is : settings_lease_ms s ≡ lease_ms
  pub daily_is : settings_daily s ≡ daily
  pub zone_is : zone_number s ≡ zone

pub settings_of-numbers : (lease_ms daily zone : ℕ) (s : Settings) → settings_of lease_ms daily zone ≡ Some s →
    HasNumbers s lease_ms daily zone
settings_of-numbers lease_ms daily zone s e =
    let h = (made (are_settings lease_ms daily (zone_at zone)) _ s e).1 in
    record {
      lease_is = sym (ap settings_lease_ms h);
      daily_is = sym (ap settings_daily h);
      zone_is = sym (ap zone_number h) ∙ number-zone_at zone;
    }

pub settings_of-made : (lease_ms daily zone : ℕ) (s : Settings) → settings_lease_ms s ≡ lease_ms →
    settings_daily s ≡ daily →
    settings_zone_minutes s ≡ zone_at zone → settings_of lease_ms daily zone ≡ Some s
settings_of-made lease_ms daily zone s lease_is daily_is minutes_is =
    let zone_is : zone_number s ≡ zone = ap (λ (z : ℤ). unsigned_abs (z -ℤ ZONE_MIN_MINUTES)) minutes_is
    ∙ number-zone_at zone in
    subst (λ (z : ℕ). settings_of lease_ms daily z ≡ Some s) zone_is
    (subst (λ (d : ℕ). settings_of lease_ms d (zone_number s) ≡ Some s) daily_is
    (subst (λ (l : ℕ). settings_of l (settings_daily s) (zone_number s) ≡ Some s) lease_is (settings_of-settings s)))

-- the zone fits two bytes
pub zone_number-small : (s : Settings) → zone_number s < 256 ^ 2
zone_number-small s =
    let e : zone_at (zone_number s) ≡ settings_zone_minutes s = zone_at-number s in
    let east : settings_zone_minutes s ≤ℤ ZONE_MAX_MINUTES = s.zone_in_range.1 in
    omega (arith, ints)

-- rates

pub lowest_rate-rate : (r : Rate) → lowest_rate (rate_numerator r) (rate_denominator r) ≡ Some r
lowest_rate-rate r =
    when_passed-same _ _ r (and_from _ _ (rate-tested _ _ r.in_limits) (eq-eqb _ _ r.lowest_terms))
    (λ h. rate-from_numbers _ r refl refl)

pub lowest_rate-numbers : (a b : ℕ) (r : Rate) → lowest_rate a b ≡ Some r → (rate_numerator r ≡ a)
    × (rate_denominator r ≡ b)
lowest_rate-numbers a b r e = let h = (made _ _ r e).1 in (sym (ap rate_numerator h), sym (ap rate_denominator h))

pub lowest_rate-made : (a b : ℕ) (r : Rate) → rate_numerator r ≡ a → rate_denominator r ≡ b → lowest_rate a b ≡ Some r
lowest_rate-made a b r over under =
    subst (λ (y : ℕ). lowest_rate a y ≡ Some r) under
    (subst (λ (x : ℕ). lowest_rate x (rate_denominator r) ≡ Some r) over (lowest_rate-rate r))

-- miss rates

pub lowest_miss-miss : (m : Miss) → lowest_miss (miss_numerator m) (miss_denominator m) ≡ Some m
lowest_miss-miss m =
    when_passed-same _ _ m (and_from _ _ (miss-tested _ _ m.in_limits) (eq-eqb _ _ m.lowest_terms))
    (λ h. miss-from_numbers _ m refl refl)

pub lowest_miss-numbers : (c d : ℕ) (m : Miss) → lowest_miss c d ≡ Some m → (miss_numerator m ≡ c)
    × (miss_denominator m ≡ d)
lowest_miss-numbers c d m e = let h = (made _ _ m e).1 in (sym (ap miss_numerator h), sym (ap miss_denominator h))

pub lowest_miss-made : (c d : ℕ) (m : Miss) → miss_numerator m ≡ c → miss_denominator m ≡ d → lowest_miss c d ≡ Some m
lowest_miss-made c d m over under =
    subst (λ (y : ℕ). lowest_miss c y ≡ Some m) under
    (subst (λ (x : ℕ). lowest_miss x (miss_denominator m) ≡ Some m) over (lowest_miss-miss m))

-- a miss rate that isn't spelled
pub miss_at-zero : (above_zero : Bool) (rate : Rate) (bytes : List ℕ) (m : Miss) → above_zero ≡ false →
    miss_numerator m ≡ 0 → miss_denominator m ≡ 1 →
    miss_at above_zero rate bytes ≡ Some (m, bytes)
unfolding miss_at
miss_at-zero above_zero rate bytes m zero over under =
    rw zero (ap (λ (o : Option Miss). o >>= λ miss. Some (miss, bytes)) (lowest_miss-made 0 1 m over under))

pub fitting_miss-miss : (rate : Rate) (m : Miss) → 1 ≤ miss_numerator m → FitsRate m rate →
    fitting_miss rate (miss_numerator m) (miss_denominator m) ≡ Some m
fitting_miss-miss rate m above fits =
    ap (option_and_then (if_fitting rate (miss_numerator m))) (lowest_miss-miss m)
    ∙ kept _ m (and_from _ _ (le-leb _ _ above) (fits-tested m rate fits))

-- what a miss rate that was read is
pub record IsFitting (rate : Rate) (c d : ℕ) (m : Miss) : Type 0 where
  pub over : miss_numerator m ≡ c
  pub under : miss_denominator m ≡ d
  pub above : 1 ≤ c
  pub fits : FitsRate m rate

fitting_from : (rate : Rate) (c d : ℕ) (o : Option Miss) (m : Miss) → lowest_miss c d ≡ o →
    option_and_then (if_fitting rate c) o ≡ Some m → IsFitting rate c d m
fitting_from rate c d None m is e = absurd (cc)
fitting_from rate c d (Some given) m is e =
    let k = kept_is (nat_le 1 c && fits_rate given rate) given m e in
    let tests = and_parts (nat_le 1 c) (fits_rate given rate) k.0 in
    let numbers = lowest_miss-numbers c d given is in
    record {
      over = sym (ap miss_numerator k.1) ∙ numbers.0;
      under = sym (ap miss_denominator k.1) ∙ numbers.1;
      above = leb-true _ _ tests.0;
      fits = subst (λ (x : Miss). FitsRate x rate) k.1 (fits-within given rate tests.1);
    }

pub fitting_miss-numbers : (rate : Rate) (c d : ℕ) (m : Miss) → fitting_miss rate c d ≡ Some m → IsFitting rate c d m
fitting_miss-numbers rate c d m e = fitting_from rate c d (lowest_miss c d) m refl e

-- bars

pub bar_of-bar : (bar : Bar) → bar_of (bar_numerator bar) (bar_denominator bar) ≡ Some bar
bar_of-bar bar = when_passed-same _ _ bar (bar-tested _ _ bar.in_limits) (λ h. bar-from_numbers _ bar refl refl)

pub bar_of-numbers : (t u : ℕ) (bar : Bar) → bar_of t u ≡ Some bar → (bar_numerator bar ≡ t) × (bar_denominator bar ≡ u)
bar_of-numbers t u bar e = let h = (made (is_bar t u) _ bar e).1 in
    (sym (ap bar_numerator h), sym (ap bar_denominator h))

pub bar_of-made : (t u : ℕ) (bar : Bar) → bar_numerator bar ≡ t → bar_denominator bar ≡ u → bar_of t u ≡ Some bar
bar_of-made t u bar over under =
    subst (λ (y : ℕ). bar_of t y ≡ Some bar) under
    (subst (λ (x : ℕ). bar_of x (bar_denominator bar) ≡ Some bar) over (bar_of-bar bar))

-- numbers up to a limit

pub up_to-number : (limit n : ℕ) → 1 ≤ n → n ≤ limit → up_to limit n ≡ Some n
up_to-number limit n low high = kept _ n (and_from _ _ (le-leb _ _ low) (le-leb _ _ high))

pub up_to-within : (limit n m : ℕ) → up_to limit n ≡ Some m → (n ≡ m) × ((1 ≤ m) × (m ≤ limit))
up_to-within limit n m e =
    let k = kept_is (nat_le 1 n && nat_le n limit) n m e in
    let tests = and_parts (nat_le 1 n) (nat_le n limit) k.0 in
    (k.1, subst (λ (x : ℕ). (1 ≤ x) × (x ≤ limit)) k.1 (leb-true _ _ tests.0, leb-true _ _ tests.1))

-- ranges

pub range_of-range : (range : RangeView) → IsSuspectRange range.base range.suspects range.calm →
    range_of range.base range.calm range.suspects ≡ Some range
range_of-range range legal = kept _ range
    (None-is_none _ (no_fault-from_IsSuspectRange range.base range.suspects range.calm legal))

-- what a range that was read is
pub record IsRangeOf (base : CommitId) (calm : ℕ) (suspects : List Suspect) (range : RangeView) : Type 0 where
  pub is : record { base = base; suspects = suspects; calm = calm } ≡ range
  pub legal : IsSuspectRange range.base range.suspects range.calm

pub range_of-parts : (base : CommitId) (calm : ℕ) (suspects : List Suspect) (range : RangeView) →
    range_of base calm suspects ≡ Some range → IsRangeOf base calm suspects range
range_of-parts base calm suspects range e =
    let k = kept_is (is_none (range_fault base suspects calm)) (record {
      base = base;
      suspects = suspects;
      calm =
          calm;
    }) range e in
    let legal = IsSuspectRange-from_no_fault base suspects calm (is_none-None _ k.0) in
    record { is = k.1; legal = subst (λ (r : RangeView). IsSuspectRange r.base r.suspects r.calm) k.1 legal }
