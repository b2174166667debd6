-- The walk through the calendar finds the day that httpdate's count of days gives, so both dates have one text.
use Rattle.std.proofs.Common.{◌≡◌, ℕ, zero, suc, ◌+◌, ◌-◌, ◌*◌, ◌/◌, ◌%◌, ◌<◌, ◌≤◌, nat_lt, [], ◌∷◌, ◌++◌, codes, refl, ap, sym, ◌∙◌, arith}
use Rattle.std.proofs.lemmas.Bool.{cond_both}
use Rattle.std.proofs.lemmas.Bool.Decides.{nat_tests}
use Rattle.httpdate.specs.declared.date.HttpDate.{HttpDate}
use Rattle.httpdate.specs.declared.parts.Parts.{Parts}
use Rattle.httpdate.specs.Calendar.{days_of_years, days_of_months, days_from_civil, weekday}
use Rattle.httpdate.specs.Valid.{IsValid, parts_secs}
use Rattle.httpdate.specs.Date.{unix_secs, date_text}
use Rattle.httpdate.specs.Text.{imf_fixdate, day_name}
use Rattle.std.specs.Prelude.{slice_index_or}
use Rattle.httpdate.proofs.CalendarLemmas.{days_of_years_closed, days_of_months_all}
use Rattle.httpdate.proofs.Theorems.{unix_secs_injective}
use Rattle.response_text.specs.Dates.{days_in_year, days_in_month, year_from, month_from, day_at, date_at, weekday_name, month_name, two_digits, four_digits, time_text}
use Rattle.response_text.specs.Dates as own

-- ---- years

-- r is the year, and the days of it, of the day so many days after the start of the year 1970 + n
record IsYear (n days most : ℕ) (r : ℕ × ℕ) : Type 0 where
  pub after : 1970 ≤ r.0
  pub within : r.0 ≤ 1970 + most
  pub count : days_of_years (r.0 - 1970) + r.1 ≡ days_of_years n + days
  pub inside : r.1 < days_in_year r.0

days_of_years-suc : (n : ℕ) → days_of_years (suc n) ≡ days_of_years n + days_in_year (1970 + n)
unfolding days_of_years
days_of_years-suc n = refl

year_here : (n days most : ℕ) → n ≤ most → days < days_in_year (1970 + n) → IsYear n days most (1970 + n, days)
year_here n days most fits inside =
    let back : 1970 + n - 1970 ≡ n = omega arith in
    record { after = omega arith; within = omega arith; count = ap (λ k. days_of_years k + days) back; inside = inside }

year_from-IsYear : (more n days : ℕ) → days_of_years n + days < days_of_years (suc (n + more)) → IsYear n days (n + more) (year_from more (1970 + n) days)
unfolding year_from
year_from-IsYear zero n days fits =
    let same : n + 0 ≡ n = omega arith in
    let step = days_of_years-suc n in
    year_here n days (n + 0) (omega arith) (omega (arith, rw same at fits))
year_from-IsYear (suc more) n days fits =
    let step = days_of_years-suc n in
    cond_both (nat_lt days (days_in_year (1970 + n))) (1970 + n, days) (year_from more (suc (1970 + n)) (days - days_in_year (1970 + n))) (IsYear n days (n + suc more))
    (λ here. year_here n days (n + suc more) (omega arith) (grind (arith, nat_tests)))
    (λ later.
    let past : days_in_year (1970 + n) ≤ days = grind (arith, nat_tests) in
    let same : suc n + more ≡ n + suc more = omega arith in
    let walk : 1970 + suc n ≡ suc (1970 + n) = omega arith in
    let next : IsYear (suc n) (days - days_in_year (1970 + n)) (suc n + more) (year_from more (suc (1970 + n)) (days - days_in_year (1970 + n))) =
    rw walk at (year_from-IsYear more (suc n) (days - days_in_year (1970 + n)) (rw (same, step) (omega (arith, fits)))) in
    record { after = next.after; within = omega (arith, next.within); count = next.count ∙ rw step (omega arith); inside = next.inside })

-- ---- months

-- r is the month, and the days of it, of the day so many days after the start of the month suc m
record IsMonth (y m days most : ℕ) (r : ℕ × ℕ) : Type 0 where
  pub after : 1 ≤ r.0
  pub within : r.0 ≤ suc most
  pub count : days_of_months y (r.0 - 1) + r.1 ≡ days_of_months y m + days
  pub inside : r.1 < days_in_month y r.0

days_of_months-suc : (y m : ℕ) → days_of_months y (suc m) ≡ days_of_months y m + days_in_month y (suc m)
unfolding days_of_months
days_of_months-suc y m = refl

month_here : (y m days most : ℕ) → m ≤ most → days < days_in_month y (suc m) → IsMonth y m days most (suc m, days)
month_here y m days most fits inside =
    let back : suc m - 1 ≡ m = omega arith in
    record { after = omega arith; within = omega arith; count = ap (λ k. days_of_months y k + days) back; inside = inside }

month_from-IsMonth : (more y m days : ℕ) → days_of_months y m + days < days_of_months y (suc (m + more)) → IsMonth y m days (m + more) (month_from more y (suc m) days)
unfolding month_from
month_from-IsMonth zero y m days fits =
    let same : m + 0 ≡ m = omega arith in
    let step = days_of_months-suc y m in
    month_here y m days (m + 0) (omega arith) (omega (arith, rw same at fits))
month_from-IsMonth (suc more) y m days fits =
    let step = days_of_months-suc y m in
    cond_both (nat_lt days (days_in_month y (suc m))) (suc m, days) (month_from more y (suc (suc m)) (days - days_in_month y (suc m))) (IsMonth y m days (m + suc more))
    (λ here. month_here y m days (m + suc more) (omega arith) (grind (arith, nat_tests)))
    (λ later.
    let past : days_in_month y (suc m) ≤ days = grind (arith, nat_tests) in
    let same : suc m + more ≡ m + suc more = omega arith in
    let next : IsMonth y (suc m) (days - days_in_month y (suc m)) (suc m + more) (month_from more y (suc (suc m)) (days - days_in_month y (suc m))) =
    month_from-IsMonth more y (suc m) (days - days_in_month y (suc m)) (rw (same, step) (omega (arith, fits))) in
    record { after = next.after; within = omega (arith, next.within); count = next.count ∙ rw step (omega arith); inside = next.inside })

-- ---- days

last_day : days_of_years 8030 ≡ 2932897
last_day = let closed = days_of_years_closed 8030 in omega arith

first_day : days_of_years 0 ≡ 0
unfolding days_of_years
first_day = refl

first_month : (y : ℕ) → days_of_months y 0 ≡ 0
unfolding days_of_months
first_month y = refl

-- the numbers of the day and the second in httpdate's form
abbrev parts_at : ℕ → ℕ → Parts
parts_at days second =
    let day = day_at days in
    record {
      year = day.year;
      mon = day.month;
      day = day.day;
      hour = second / 3600;
      min = second % 3600 / 60;
      sec = second % 60;
      wday = weekday days;
    }

day_found : (days second : ℕ) → days < 2932897 → second < 86400
    → let p = parts_at days second in IsValid p × (parts_secs p ≡ days * 86400 + second)
day_found days second fits inside =
    let p = parts_at days second in
    let year = year_from 8029 1970 days in
    let month = month_from 11 year.0 1 year.1 in
    let first = first_day in
    let last = last_day in
    let y : IsYear 0 days 8029 year = year_from-IsYear 8029 0 days (omega arith) in
    let whole = days_of_months_all year.0 in
    let none = first_month year.0 in
    let m : IsMonth year.0 0 year.1 11 month = month_from-IsMonth 11 year.0 0 year.1 (omega (arith, y.inside)) in
    let day_back : suc month.1 - 1 ≡ month.1 = omega arith in
    let same : days_from_civil p.year p.mon p.day ≡ days =
    rw day_back (omega (arith, y.count, m.count)) in (
      (
        ((y.after, omega (arith, y.within)), (m.after, omega (arith, m.within)), (omega arith, omega (arith, m.inside))),
        (omega arith, omega arith, omega arith),
        ap weekday (sym same),
      ),
      rw same (omega arith),
    )

-- ---- texts

weekday_same : (days : ℕ) → day_name (weekday days) ≡ weekday_name days
weekday_same days =
    let back : (days + 3) % 7 + 1 - 1 ≡ (days + 3) % 7 = omega arith in
    ap (λ k. slice_index_or (codes "Mon" ∷ codes "Tue" ∷ codes "Wed" ∷ codes "Thu" ∷ codes "Fri" ∷ codes "Sat" ∷ codes "Sun" ∷ []) k []) back

imf_fixdate-parts_at : (days second : ℕ) → imf_fixdate (parts_at days second) ≡ own.date_text days second
imf_fixdate-parts_at days second =
    let day = day_at days in
    ap (λ name. name ++ codes ", " ++ two_digits day.day ++ codes " " ++ month_name day.month ++ codes " " ++ four_digits day.year ++ codes " " ++ time_text second ++ codes " GMT") (weekday_same days)

-- a date with the seconds of the moment has the text that the walk gives
pub date_text-date_at : (d : HttpDate) (now : ℕ) → now ≤ 253402300799999 → unix_secs d ≡ now / 1000 → date_text d ≡ date_at now
unfolding date_at
date_text-date_at d now fits same =
    let found = day_found (now / 1000 / 86400) (now / 1000 % 86400) (omega arith) (omega arith) in
    let seconds : parts_secs (parts_at (now / 1000 / 86400) (now / 1000 % 86400)) ≡ now / 1000 = found.1 ∙ omega arith in
    ap imf_fixdate (unix_secs_injective d (record { parts = parts_at (now / 1000 / 86400) (now / 1000 % 86400); civil = found.0.0; time = found.0.1; right_day = found.0.2 }) (same ∙ sym seconds))
    ∙ imf_fixdate-parts_at (now / 1000 / 86400) (now / 1000 % 86400)
