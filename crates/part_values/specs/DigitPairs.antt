-- A date by its pairs of digits, as the code reads it.
use Rattle.std.specs.Prelude.{ℕ, ℤ, pos, ◌+◌, ◌-◌, ◌*◌, ◌&&◌, ◌==◌, Bool, List, length, slice_index, Option, Some, None, if◌then◌else◌}
use Rattle.std.specs.Char.{is_ascii_digit}
use Rattle.json_tree.specs.Options.{◌>>=◌}
use Rattle.part_values.specs.Day.{civil_day}

-- two digits
abbrev pub two_digits : ℕ → ℕ → Option ℕ
two_digits high low =
    if is_ascii_digit high && is_ascii_digit low then Some ((high - 48) * 10 + (low - 48)) else None

-- dashes after the year and the month
abbrev pub has_dashes : List ℕ → Bool
has_dashes text = (length text == 10) && (slice_index text 4 == 45) && (slice_index text 7 == 45)

abbrev pub day_by_pairs : List ℕ → Option ℤ
day_by_pairs text = if has_dashes text then (do
  century ← two_digits (slice_index text 0) (slice_index text 1)
  year ← two_digits (slice_index text 2) (slice_index text 3)
  month ← two_digits (slice_index text 5) (slice_index text 6)
  day ← two_digits (slice_index text 8) (slice_index text 9)
  civil_day (pos (century * 100 + year)) month day) else None
