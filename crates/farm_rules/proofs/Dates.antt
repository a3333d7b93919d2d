-- The date that is found for a day, and how long its text is.
use Rattle.std.proofs.Common.{◌≡◌, ℕ, length, pos, negsuc, ℤ, ◌-ℤ◌, ◌≤ℤ◌, ◌≤◌, [], ◌∷◌, ◌++◌, refl, inl, arith}
use Rattle.std.proofs.lemmas.Int.{by_lt_z}
use Rattle.jiff.proofs.SpanFacts.{signed_arith, date_add-days, can_add-days}
use Rattle.jiff.specs.Types.{Date, Span, Day}
use Rattle.jiff.specs.Words.{date_add, date_text, epoch_day, CanAddToDate, IsOnly, IsYmd}
use Rattle.jiff_core.proofs.DateLemmas.{epoch_day-lt}
use Rattle.jiff_core.specs.Calendar.{days_from_civil, day_count}
use Rattle.farm_types.specs.declared.moment.TheConstants.{LAST_DAY}
use Rattle.jiff_fmt.specs.Text.{pad2, year_text}

sub_self : (n : ℕ) → pos n -ℤ pos n ≡ pos 0
sub_self n = omega (arith, signed_arith)

ten : (year : ℤ) (month day : ℕ) → pos 1970 ≤ℤ year → length (year_text year ++ 45 ∷ [] ++ pad2 month ++ 45 ∷ [] ++ pad2 day) ≡ 10
ten (pos y) month day h = refl
ten (negsuc y) month day h = absurd (omega (arith, signed_arith, h))

module _ (first : Date) (is_first : IsYmd (pos 1970) (pos 1) (pos 1) first) where
  -- 1970-01-01 is day 0
  pub epoch_day-first : epoch_day first ≡ pos 0
  unfolding days_from_civil
  epoch_day-first =
      let month : first.month ≡ 1 = omega (arith, signed_arith, is_first.1) in
      let day : first.day ≡ 1 = omega (arith, signed_arith, is_first.2) in
      rw (is_first.0, month, day) (sub_self (day_count (pos 1970) 1 1))

  module _ (n : ℕ) (z : ℤ) (span : Span) (is_days : IsOnly Day z span) (same : z ≡ pos n) where
    -- so n days later is day n
    pub date_add-first : date_add first span ≡ pos n
    date_add-first = omega (arith, signed_arith, date_add-days first z span is_days, epoch_day-first, same)

    -- which the calendar has up to the year 2100 and beyond
    pub can_add-first : n ≤ LAST_DAY → CanAddToDate first span
    can_add-first few = (can_add-days first z span is_days).1 (omega (arith, signed_arith, epoch_day-first, same))

  -- a date from 1970 on has ten characters, four of them for its year
  pub length-date_text : (d : Date) (n : ℕ) → epoch_day d ≡ pos n → length (date_text d) ≡ 10
  length-date_text d n is =
      ten d.year d.month d.day
      (by_lt_z d.year (pos 1970)
      (λ before. absurd (omega (arith, signed_arith, epoch_day-lt d first (inl (rw is_first.0 before)), is, epoch_day-first)))
      (λ after. after))
