-- The objects of others that come to a store in memory.
use Rattle.std.specs.Prelude.{ℕ, List, [], ◌∷◌, ◌&&◌, is_none, nat_le, if◌then◌else◌}
use Rattle.std.specs.FinMap as finmap
use Rattle.edge_core.specs.Stored.{Shelved, has_room, with_one}
use Rattle.edge_core.specs.declared.foreign.Foreign.{Foreign}

-- an object that comes is there where its name was absent and there was room; else it is lost
abbrev pub appeared : Shelved → Foreign → Shelved
appeared s f = if is_none (finmap.get s.0 f.object.name) && has_room s f.object.name f.object.bytes.items then with_one s f.object.name f.object.bytes.items else s

-- after those that come by the call of a number: the first ones, up to one that comes later
abbrev pub arrived : ℕ → Shelved → List Foreign → Shelved
arrived call s [] = s
arrived call s (f ∷ coming) = if nat_le f.call call then arrived call (appeared s f) coming else s

-- those that come later
abbrev pub waiting : ℕ → List Foreign → List Foreign
waiting call [] = []
waiting call (f ∷ coming) = if nat_le f.call call then waiting call coming else f ∷ coming
