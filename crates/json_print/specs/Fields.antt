-- Objects some of whose fields may be absent (RFC 8259, section 4).
use Rattle.std.specs.Prelude.{ℕ, List, [], ◌∷◌, Bool, true, ◌&&◌, Option, Some, None}
use Rattle.std.specs.List.{list_all}
use Rattle.std.specs.Ordering.{nat_cmp, is_gt}
use Rattle.std.specs.Cmp.Lexicographic.{slice_cmp}
use Rattle.serde_json.specs.Data.{Data, object, Members, no_members, member}

-- a name, with a value where there is one
abbrev pub Field : Type 0
Field = List ℕ × Option Data

-- the fields that have a value, in the order given
abbrev pub members_of : List Field → Members
members_of [] = no_members
members_of ((name, None) ∷ more) = members_of more
members_of ((name, Some d) ∷ more) = member name d (members_of more)

abbrev pub object_of : List Field → Data
object_of fields = object (members_of fields)

-- each name is above those before it, in byte order
abbrev pub ascend : List Field → Bool
ascend [] = true
ascend (f ∷ more) = list_all (λ g. is_gt (slice_cmp nat_cmp g.0 f.0)) more && ascend more
