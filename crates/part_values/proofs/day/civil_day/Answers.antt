use Rattle.std.proofs.Common.{arith, ◌≡◌, pos, ℕ, ℤ, Some, refl, to_z, w8, w16, w32, FitsSigned}
use Rattle.std.specs.Int.{IsInRange}
use Rattle.std.proofs.lemmas.Bool.{le-leb}
use Rattle.std.proofs.lemmas.Int.{to_z_pos, to_z-of_z}
use Rattle.jiff_core.specs.Calendar.{days_in_month, days_from_civil}
use Rattle.part_values.specs.Day as spec
use Rattle.part_values.proofs.day.civil_day.Goals as goal

-- the day of a date that the calendar has
found : (y : ℤ) (m d : ℕ) → IsInRange 1 12 m → IsInRange 1 (days_in_month y m) d
    → spec.civil_day y m d ≡ Some (days_from_civil y m d)
found y m d a b = rw (le-leb 1 m a.0, le-leb m 12 a.1, le-leb 1 d b.0, le-leb d (days_in_month y m) b.1) refl

pub returns-in-Ok : goal.returns-in-Ok
returns-in-Ok c =
    let v = c.in-Ok.ensures.value in
    let e = c.day_number.ensures in
    let y : to_z w16 c.args.year ≡ pos c.args.year = to_z_pos w16 c.args.year (omega arith) in
    let m : to_z w8 c.args.month ≡ pos c.args.month = to_z_pos w8 c.args.month (omega arith) in
    let d : to_z w8 c.args.day ≡ pos c.args.day = to_z_pos w8 c.args.day (omega arith) in
    let f : FitsSigned w32 c.day_number.result = record { sfits = c.day_number.type_inv } in
    let g = found c.in-Ok.date.year c.in-Ok.date.month c.in-Ok.date.day c.in-Ok.date.month_in c.in-Ok.date.day_in in
    let same_month : c.in-Ok.date.month ≡ c.args.month = cc in
    let same_day : c.in-Ok.date.day ≡ c.args.day = cc in
    let same_year : c.in-Ok.date.year ≡ pos c.args.year = cc in
    rw (to_z-of_z w32 c.day_number.result f, e, ← g, same_year, same_month, same_day) refl
