-- The Gregorian calendar from 1970 on, and the date of a moment as fields show it (RFC 9110, section 5.6.7).
use Rattle.std.specs.Prelude.{ℕ, zero, suc, Bool, ◌+◌, ◌-◌, ◌/◌, ◌%◌, ◌&&◌, ◌||◌, ◌==◌, not, nat_lt, List, [], ◌∷◌, ◌++◌, slice_index_or, codes, if◌then◌else◌}

abbrev pub is_leap_year : ℕ → Bool
is_leap_year year = (year % 4 == 0) && (not (year % 100 == 0) || (year % 400 == 0))

abbrev pub days_in_year : ℕ → ℕ
days_in_year year = if is_leap_year year then 366 else 365

-- the days of a month, 1 being January; thirty days have September, April, June and November
abbrev pub days_in_month : ℕ → ℕ → ℕ
days_in_month year month =
    if month == 2 then (if is_leap_year year then 29 else 28)
    else (if (month == 4) || (month == 6) || (month == 9) || (month == 11) then 30 else 31)

-- of the day so many days after the first day of a year: its year, and the days of that year before it; it lies in that
-- year or in one of so many years behind it
unfoldable pub year_from : ℕ → ℕ → ℕ → ℕ × ℕ
year_from zero year days = (year, days)
year_from (suc more) year days =
    if nat_lt days (days_in_year year) then (year, days)
    else year_from more (suc year) (days - days_in_year year)

-- of the day so many days after the first day of a month: its month, and the days of that month before it
unfoldable pub month_from : ℕ → ℕ → ℕ → ℕ → ℕ × ℕ
month_from zero year month days = (month, days)
month_from (suc more) year month days =
    if nat_lt days (days_in_month year month) then (month, days)
    else month_from more year (suc month) (days - days_in_month year month)

-- a day of the calendar; months and days count from 1
pub record Day : Type 0 where
  pub year : ℕ
  pub month : ℕ
  pub day : ℕ

-- the day so many days after 1 January 1970, up to the end of 9999
abbrev pub day_at : ℕ → Day
day_at days =
    let in_year = year_from 8029 1970 days in
    let in_month = month_from 11 in_year.0 1 in_year.1 in
    record { year = in_year.0; month = in_month.0; day = suc in_month.1 }

-- the day of the week; 1 January 1970 was a Thursday
abbrev pub weekday_name : ℕ → List ℕ
weekday_name days =
    slice_index_or
    (codes "Mon" ∷ codes "Tue" ∷ codes "Wed" ∷ codes "Thu" ∷ codes "Fri" ∷ codes "Sat" ∷ codes "Sun" ∷ [])
    ((days + 3) % 7) []

abbrev pub month_name : ℕ → List ℕ
month_name month =
    slice_index_or
    (codes "Jan" ∷ codes "Feb" ∷ codes "Mar" ∷ codes "Apr" ∷ codes "May" ∷ codes "Jun"
    ∷ codes "Jul" ∷ codes "Aug" ∷ codes "Sep" ∷ codes "Oct" ∷ codes "Nov" ∷ codes "Dec" ∷ [])
    (month - 1) []

-- a number below 100
abbrev pub two_digits : ℕ → List ℕ
two_digits n = (48 + n / 10) ∷ (48 + n % 10) ∷ []

-- a number below 10,000
abbrev pub four_digits : ℕ → List ℕ
four_digits n = two_digits (n / 100) ++ two_digits (n % 100)

-- the time at a second of a day, as `08:49:37`
abbrev pub time_text : ℕ → List ℕ
time_text second =
    two_digits (second / 3600) ++ codes ":" ++ two_digits (second % 3600 / 60) ++ codes ":" ++ two_digits (second % 60)

-- a day and a second of it, as `Sun, 06 Nov 1994 08:49:37 GMT`
abbrev pub date_text : ℕ → ℕ → List ℕ
date_text days second =
    let day = day_at days in
    weekday_name days ++ codes ", " ++ two_digits day.day ++ codes " " ++ month_name day.month ++ codes " "
    ++ four_digits day.year ++ codes " " ++ time_text second ++ codes " GMT"

-- the date of a moment in milliseconds since 1970
unfoldable pub date_at : ℕ → List ℕ
date_at now = date_text (now / 1000 / 86400) (now / 1000 % 86400)
