-- The date that counting gives is the calendar's.
use Rattle.std.proofs.Common.{◌≡◌, ℕ, zero, suc, ◌+◌, ◌*◌, ◌≤◌, nat_lt, pos, ◌-ℤ◌, refl, sym, ◌∙◌, arith}
use Rattle.std.proofs.lemmas.Bool.{cond_both, ltb-false, ltb-true}
use Rattle.jiff_core.proofs.CalendarLemmas.{days_from_civil-day_count, days_in_month_bounds, days_in_year_bounds}
use Rattle.jiff_core.proofs.DateLemmas.{days_from_civil-day, days_from_civil-next_month, days_from_civil-next_year}
use Rattle.jiff_core.proofs.DateLemmas.{epoch_day_injective}
use Rattle.jiff_core.proofs.SignedLemmas.{signed_arith}
use Rattle.jiff_core.proofs.StandardFacts.{known_days}
use Rattle.jiff_core.specs.Calendar.{day_count, days_from_civil, days_in_month, days_of_years}
use Rattle.jiff_core.specs.Date.{epoch_day}
use Rattle.jiff_core.specs.declared.civil.date.Date.{Date}
use Rattle.jiff_fmt.specs.Text.{date_text}
use Rattle.farm_types.specs.declared.moment.TheConstants.{LAST_DAY}
use Rattle.farm_wire.specs.Dates.{Civil, date_of, day_text, next_date}

-- a date that the calendar has, and that is so many days after 1970-01-01
record IsDay (n : ℕ) (c : Civil) : Type 0 where
  pub month_low : 1 ≤ c.month
  pub month_high : c.month ≤ 12
  pub day_low : 1 ≤ c.day
  pub day_high : c.day ≤ days_in_month (pos c.year) c.month
  pub counted : days_from_civil (pos c.year) c.month c.day ≡ pos n

-- the day after is counted by one more
next-is_day : (n : ℕ) (c : Civil) → IsDay n c → IsDay (suc n) (next_date c)
unfolding next_date
next-is_day n c h =
    let long = days_in_month_bounds (pos c.year) in
    cond_both (nat_lt c.day (days_in_month (pos c.year) c.month)) _ _ (IsDay (suc n))
    (λ within. record {
      month_low = h.month_low;
      month_high = h.month_high;
      day_low = omega arith;
      day_high = omega (arith, ltb-true _ _ within);
      counted = omega (
        arith,
        signed_arith,
        h.counted,
        h.day_low,
        days_from_civil-day (pos c.year) c.month c.day (c.day + 1) h.day_low (omega arith),
      );
    })
    (λ at_end. let last : c.day ≡ days_in_month (pos c.year) c.month = omega (
      arith,
      ltb-false _ _ at_end,
      h.day_high,
    ) in
    cond_both (nat_lt c.month 12) _ _ (IsDay (suc n))
    (λ within. record {
      month_low = omega arith;
      month_high = omega (arith, ltb-true _ _ within);
      day_low = omega arith;
      day_high = omega (arith, (long (c.month + 1)).1);
      counted =
          omega
          (arith, signed_arith, h.counted, days_from_civil-next_month (pos c.year) c.month c.day h.month_low last);
    })
    (λ at_year_end. let december : c.month ≡ 12 = omega (arith, ltb-false _ _ at_year_end, h.month_high) in
    let ends : c.day ≡ 31 = last ∙ rw december refl in
    let counted : days_from_civil (pos c.year) 12 31 ≡ pos n = rw (← december, ← ends) h.counted in
    record {
      month_low = omega arith;
      month_high = omega arith;
      day_low = omega arith;
      day_high = omega (arith, (long 1).1);
      counted =
          omega (
            arith,
            signed_arith,
            counted,
            days_from_civil-next_year (pos c.year) (pos (c.year + 1)) (omega (
              arith,
              signed_arith,
            )) (omega (arith, signed_arith)),
          );
    }))

date_of-is_day : (n : ℕ) → IsDay n (date_of n)
unfolding date_of
date_of-is_day zero = record {
  month_low = omega arith;
  month_high = omega arith;
  day_low = omega arith;
  day_high = omega arith;
  counted = known_days.0;
}
date_of-is_day (suc n) = next-is_day n (date_of n) (date_of-is_day n)

-- a year has at least 365 days
years-long : (n : ℕ) → 365 * n ≤ days_of_years n
unfolding days_of_years
years-long zero = omega arith
years-long (suc n) = omega (arith, years-long n, (days_in_year_bounds (pos n -ℤ pos 10000)).1)

-- so the years of the days up to the last are in the calendar
year-small : (y m d n : ℕ) → days_from_civil (pos y) m d ≡ pos n → n ≤ LAST_DAY → y ≤ 9999
unfolding day_count
year-small y m d n counted few =
    omega (arith, signed_arith, days_from_civil-day_count (pos y) m d, counted, years-long (y + 10000))

-- the calendar's date of a day is written as the counted one is
pub date_text-day : (d : Date) (day : ℕ) → day ≤ LAST_DAY → epoch_day d ≡ pos day → date_text d ≡ day_text day
unfolding day_text
date_text-day d day few is =
    let c : Civil = date_of day in
    let h : IsDay day c = date_of-is_day day in
    let small : c.year ≤ 9999 = year-small c.year c.month c.day day h.counted few in
    let made : Date = record {
      year = pos c.year;
      month = c.month;
      day = c.day;
      year_in = omega (arith, signed_arith);
      month_in = (h.month_low, h.month_high);
      day_in = (h.day_low, h.day_high);
    } in
    let same = epoch_day_injective d made (is ∙ sym h.counted) in
    rw (same.0, same.1, same.2) refl
