-- Days as dates of the Gregorian calendar, by counting: each day is followed by the next of its month, or by the first
-- of the next month, or by the first of the next year.
use Rattle.std.specs.Prelude.{ℕ, zero, suc, ◌+◌, nat_lt, if◌then◌else◌, pos, List, ◌++◌, codes}
use Rattle.jiff_core.specs.Calendar.{days_in_month}
use Rattle.jiff_fmt.specs.Text.{pad2, pad4}

-- a date: its year, its month from 1, and its day in the month from 1
pub record Civil : Type 0 where
  pub year : ℕ
  pub month : ℕ
  pub day : ℕ

-- the date of day 0
abbrev pub first_date : Civil
first_date = record { year = 1970; month = 1; day = 1 }

-- the date of the day after
unfoldable pub next_date : Civil → Civil
next_date c =
    if nat_lt c.day (days_in_month (pos c.year) c.month) then record { year = c.year; month = c.month; day = c.day + 1 }
    else if nat_lt c.month 12 then record { year = c.year; month = c.month + 1; day = 1 }
    else record { year = c.year + 1; month = 1; day = 1 }

-- the date of a day that is counted from 1970-01-01
unfoldable pub date_of : ℕ → Civil
date_of zero = first_date
date_of (suc n) = next_date (date_of n)

-- a date as YYYY-MM-DD (ISO 8601)
abbrev pub civil_text : Civil → List ℕ
civil_text c = pad4 c.year ++ codes "-" ++ pad2 c.month ++ codes "-" ++ pad2 c.day

-- the date of a day as text
unfoldable pub day_text : ℕ → List ℕ
day_text day = civil_text (date_of day)
