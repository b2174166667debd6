-- What of a table is shared where it is shared in part: a text, which is read as a predicate elsewhere (own).
use Rattle.std.specs.Prelude.{ℕ, List, Bool, length, nat_le}

-- a text that is short enough for a restriction
abbrev pub is_restriction : List ℕ → Bool
is_restriction text = nat_le (length text) 2048
