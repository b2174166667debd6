-- The day number of a date that is written as ten bytes, `YYYY-MM-DD`.
use Rattle.std.specs.Prelude.{ℕ, ℤ, pos, ◌&&◌, ◌==◌, nat_le, Bool, List, ◌++◌, length, take, drop, slice_index, Option, Some, None, if◌then◌else◌}
use Rattle.std.specs.Str.{all_ascii_digits}
use Rattle.std.specs.Str.Parse.{digits_value}
use Rattle.jiff_core.specs.Calendar.{days_in_month, days_from_civil}

-- the calendar has the day
abbrev pub is_civil : ℤ → ℕ → ℕ → Bool
is_civil year month day =
    nat_le 1 month && nat_le month 12 && nat_le 1 day && nat_le day (days_in_month year month)

abbrev pub civil_day : ℤ → ℕ → ℕ → Option ℤ
civil_day year month day = if is_civil year month day then Some (days_from_civil year month day) else None

-- the digits of the year, the month and the day
abbrev pub year_in : List ℕ → List ℕ
year_in text = take 4 text

abbrev pub month_in : List ℕ → List ℕ
month_in text = take 2 (drop 5 text)

abbrev pub day_in : List ℕ → List ℕ
day_in text = take 2 (drop 8 text)

-- ten bytes: digits, and dashes after the year and the month
abbrev pub is_date : List ℕ → Bool
is_date text =
    (length text == 10) && (slice_index text 4 == 45) && (slice_index text 7 == 45)
    && all_ascii_digits (year_in text ++ month_in text ++ day_in text)

-- the days since 1970-01-01
abbrev pub day_of : List ℕ → Option ℤ
day_of text =
    if is_date text
    then civil_day (pos (digits_value 10 (year_in text))) (digits_value 10 (month_in text)) (digits_value 10 (day_in text))
    else None
