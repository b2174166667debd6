-- Whole numbers as text: `0`, or an optional minus and digits of which the first isn't `0`.
use Rattle.std.specs.Prelude.{ℕ, ℤ, ◌==◌, ◌&&◌, ◌||◌, not, int_le, Bool, List, length, slice_index, Option, Some, None, if◌then◌else◌}
use Rattle.std.specs.Fmt.{signed_decimal}
use Rattle.std.specs.Str.{bytes_eq}
use Rattle.std.specs.Str.Parse.{signed_digits_value, starts_with_minus}

-- the number that the text is the numeral of, where it lies from low to high
abbrev pub whole_of : ℤ → ℤ → List ℕ → Option ℤ
whole_of low high text =
    let n = signed_digits_value 10 text in
    if bytes_eq text (signed_decimal n) && (int_le low n && int_le n high) then Some n else None

-- the shortest of the texts that `parse` reads as one number: no plus, no zero before another digit, no minus before zero
abbrev pub is_shortest : List ℕ → Bool
is_shortest text =
    let first_digit = if starts_with_minus text then slice_index text 1 else slice_index text 0 in
    not (slice_index text 0 == 43) && (not (first_digit == 48) || (length text == 1))
