-- Settings of a table that are on or off (Delta Lake PROTOCOL.md, "Append-only Tables", "Change Data Files"). The protocol names `true` alone; Delta's own writers and readers take it in any case, and so do we.
use Rattle.std.specs.Prelude.{ℕ, List, map, Bool, bytes_eq, codes}
use Rattle.std.specs.Char.{to_ascii_lowercase}

-- the text of a setting that is on
abbrev pub turns_on : List ℕ → Bool
turns_on text = bytes_eq (map to_ascii_lowercase text) (codes "true")
