-- The bounds of whole numbers.
use Rattle.std.specs.Prelude.{ℕ, Option, Some, None, nat_lt, if◌then◌else◌}

-- a number below a limit
abbrev pub within : ℕ → ℕ → Option ℕ
within limit n = if nat_lt n limit then Some n else None

-- the first millisecond after the year 9999
abbrev pub times_end : ℕ
times_end = 253402300800000
