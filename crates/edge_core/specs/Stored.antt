-- The objects of a store in memory, in byte order of name, and the room that is left.
use Rattle.std.specs.Prelude.{ℕ, suc, ◌+◌, ◌-◌, ◌≤◌, IsTrue, List, [], ◌∷◌, length, take, drop, map, nat_le, nat_lt, ◌&&◌, Bool, if◌then◌else◌}
use Rattle.std.specs.Ordering.{nat_cmp, is_gt}
use Rattle.std.specs.Cmp.Lexicographic.{slice_cmp}
use Rattle.std.specs.List.{list_all}
use Rattle.std.specs.FinMap as finmap
use Rattle.std.specs.Str.{is_utf8}
use Rattle.edge_core.specs.Names.{is_name}
use Rattle.edge_core.specs.Objects.{Objects}
use Rattle.edge_core.specs.declared.shelf.Slot.{Slot}

-- the name and the bytes that a slot says
abbrev pub entry : List ℕ → Slot → List ℕ × List ℕ
entry text s = (take s.name (drop s.at text), take s.size (drop s.from text))

abbrev pub stored_objects : List ℕ → List Slot → List (List ℕ × List ℕ)
stored_objects text slots = map (entry text) slots

-- whether an object has a name, which is text
abbrev pub is_named : List ℕ × List ℕ → Bool
is_named o = is_utf8 o.0 && is_name o.0

-- whether a slot lies in a text of n bytes
abbrev pub within : ℕ → Slot → Bool
within n s = nat_le (s.at + s.name) n && nat_le (s.from + s.size) n

-- Objects in one text, with room for so many more objects and bytes: slots in byte order of name, each in the text, each
-- with a name that is text, and the room taken.
pub record IsShelf (text : List ℕ) (slots : List Slot) (objects bytes slots_taken bytes_taken : ℕ) : Type 0 where
  pub sorted : IsTrue (finmap.is_sorted (slice_cmp nat_cmp) (stored_objects text slots))
  pub names : IsTrue (list_all is_named (stored_objects text slots))
  pub lie_within : IsTrue (list_all (within (length text)) slots)
  pub objects_fit : objects + length slots ≤ slots_taken
  pub bytes_fit : bytes + length text ≤ bytes_taken

-- how many of the first names are below a name
abbrev pub rank : List ℕ → List (List ℕ × List ℕ) → ℕ
rank name [] = 0
rank name (e ∷ es) = if is_gt (slice_cmp nat_cmp name e.0) then suc (rank name es) else 0

-- objects, how many more there is room for, and how many bytes of names and objects
abbrev pub Shelved : Type 0
Shelved = Objects × (ℕ × ℕ)

abbrev pub has_room : Shelved → List ℕ → List ℕ → Bool
has_room s name bytes = nat_lt 0 s.1.0 && nat_le (length name + length bytes) s.1.1

abbrev pub with_one : Shelved → List ℕ → List ℕ → Shelved
with_one s name bytes = (finmap.insert s.0 name bytes, (s.1.0 - 1, s.1.1 - (length name + length bytes)))
