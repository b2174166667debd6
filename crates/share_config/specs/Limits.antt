-- The limits of what a server is configured with.
use Rattle.std.specs.Prelude.{ℕ, ◌&&◌, Bool, nat_le}

-- seconds, from one to those of a week
abbrev pub is_link_ttl : ℕ → Bool
is_link_ttl seconds = nat_le 1 seconds && nat_le seconds 604800
