-- Where a head ends: with its first empty line, behind the empty lines in front of it (RFC 9112, sections 2.1 and 2.2).
-- A line ends in CR LF or in LF alone.
use Rattle.std.specs.Prelude.{◌≡◌, ℕ, ◌+◌, ◌-◌, ◌<◌, ◌≤◌, Bool, true, false, ◌&&◌, ◌||◌, ◌==◌, nat_le, List, [], ◌∷◌, length, slice_index, Option, MatchOption, if◌then◌else◌, count_by}

-- how many bytes at the front are empty lines
unfoldable pub blank_len : List ℕ → ℕ
blank_len [] = 0
blank_len (b ∷ []) = if b == 10 then 1 else 0
blank_len (b ∷ c ∷ rest) =
    if b == 10 then 1 + blank_len (c ∷ rest)
    else (if b == 13 && c == 10 then 2 + blank_len rest else 0)

-- an empty line ends at place n: behind a line feed, another one, or CR LF
abbrev pub ends_empty : List ℕ → ℕ → Bool
ends_empty bytes n =
    nat_le 2 n && slice_index bytes (n - 1) == 10
    && (slice_index bytes (n - 2) == 10
    || (nat_le 3 n && slice_index bytes (n - 2) == 13 && slice_index bytes (n - 3) == 10))

-- no empty line ends behind start, up to place n
abbrev pub HasNoEndTo : List ℕ → ℕ → ℕ → Type 0
HasNoEndTo bytes start n = (k : ℕ) → start < k → k ≤ n → ends_empty bytes k ≡ false

-- the first empty line that ends behind start ends at that place
pub record IsFirstEnd (bytes : List ℕ) (start end : ℕ) : Type 0 where
  pub after : start < end
  pub within : end ≤ length bytes
  pub ends : ends_empty bytes end ≡ true
  pub first : (n : ℕ) → start < n → n < end → ends_empty bytes n ≡ false

-- no empty line ends behind start
abbrev pub HasNoEnd : List ℕ → ℕ → Type 0
HasNoEnd bytes start = HasNoEndTo bytes start (length bytes)

-- where the first empty line behind start ends
abbrev pub TellsEnd : List ℕ → ℕ → Option ℕ → Type 0
TellsEnd bytes start found = MatchOption found (HasNoEnd bytes start) (IsFirstEnd bytes start)

-- how many lines end in the text
abbrev pub line_count : List ℕ → ℕ
line_count text = count_by (λ b. b == 10) text
