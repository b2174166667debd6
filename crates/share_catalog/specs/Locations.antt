-- Where the logs of shared tables are stored.
use Rattle.std.specs.Prelude.{ℕ, List, Bool, ◌&&◌, ◌||◌, not, length, nat_le, nat_eq, bytes_eq, codes}
use Rattle.std.specs.List.{starts_with}

-- the first segment is `_share_log`, in which the catalogue's own objects are stored
abbrev pub is_reserved : List ℕ → Bool
is_reserved name = bytes_eq name (codes "_share_log") || starts_with nat_eq name (codes "_share_log/")

-- a name that is a table's location
abbrev pub is_location : List ℕ → Bool
is_location name = nat_le (length name) 256 && not (is_reserved name)
