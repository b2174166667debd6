-- Texts with room, which an edit fills.
use Rattle.std.specs.Prelude.{◌≡◌, ◌≤◌, [], string_bytes}
use Rattle.std.specs.String.{string_capacity, string_len}
use Rattle.share_catalog.specs.declared.changes.Spare.{Spare}

pub record IsSpare (s : Spare) : Type 0 where
  pub name_empty : string_bytes s.name ≡ []
  pub name_room : (string_len s.name ≡ 0) × (128 ≤ string_capacity s.name)
  pub location_empty : string_bytes s.location ≡ []
  pub location_room : (string_len s.location ≡ 0) × (256 ≤ string_capacity s.location)
