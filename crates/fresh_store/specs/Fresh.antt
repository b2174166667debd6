-- How long what was found absent counts as absent.
use Rattle.std.specs.Prelude.{ℕ, ◌+◌, ◌&&◌, Bool, nat_le, nat_lt}

-- found at a moment that isn't to come, less than so long ago
abbrev pub is_young : ℕ → ℕ → ℕ → Bool
is_young at within now = nat_le at now && nat_lt now (at + within)
