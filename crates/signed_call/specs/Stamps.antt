-- The moment of a request in UTC, as AWS Signature Version 4 writes it (ISO 8601, basic format).
use Rattle.std.specs.Prelude.{◌≡◌, ℕ, ◌+◌, ◌/◌, ◌%◌, List, [], ◌∷◌, ◌++◌, codes, pos, unsigned_abs}
use Rattle.jiff_core.specs.Date.{epoch_day}
use Rattle.signed_call.specs.declared.stamp.Stamp.{Stamp}

-- the day and the second of a moment, in milliseconds since 1970
pub record IsStampAt (now : ℕ) (stamp : Stamp) : Type 0 where
  pub day : epoch_day stamp.date ≡ pos (now / 86_400_000)
  pub second : stamp.second ≡ now / 1000 % 86_400

-- a number below 100
abbrev pub two_digits : ℕ → List ℕ
two_digits n = (48 + n / 10) ∷ (48 + n % 10) ∷ []

-- a number below 10,000
abbrev pub four_digits : ℕ → List ℕ
four_digits n = two_digits (n / 100) ++ two_digits (n % 100)

-- as `20130524`
unfoldable pub day_digits : Stamp → List ℕ
day_digits s = four_digits (unsigned_abs s.date.year) ++ (two_digits s.date.month ++ two_digits s.date.day)

-- a second of a day, as `000000`
unfoldable pub time_digits : ℕ → List ℕ
time_digits second = two_digits (second / 3600) ++ (two_digits (second % 3600 / 60) ++ two_digits (second % 60))

-- as `20130524T000000Z`
abbrev pub moment_text : Stamp → List ℕ
moment_text s = day_digits s ++ (codes "T" ++ (time_digits s.second ++ codes "Z"))
