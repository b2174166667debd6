-- Laws of what is signed ("Create a canonical request": fields, and parameters, are in order of name).
use Rattle.std.specs.Prelude.{ℕ, Bool, true, false, ◌&&◌, List, [], ◌∷◌, Option, map, IsTrue}
use Rattle.std.specs.Ordering.{nat_cmp}
use Rattle.std.specs.Cmp.Lexicographic.{slice_cmp}
use Rattle.std.specs.declared.cmp.Ordering.{Ordering}
use Rattle.std.specs.declared.cmp.Ordering.TheVariants.{Less}
use Rattle.signed_call.specs.declared.call.Call.{Call}
use Rattle.signed_call.specs.declared.field.Field.{Field}
use Rattle.signed_call.specs.declared.stamp.Stamp.{Stamp}
use Rattle.signed_call.specs.Calls.{fields_of, query_of}

abbrev pub is_less : Ordering → Bool
is_less Less = true
is_less _ = false

-- each name is above the one before it, in byte order
abbrev pub are_rising : List (List ℕ) → Bool
are_rising [] = true
are_rising (x ∷ []) = true
are_rising (x ∷ y ∷ names) = is_less (slice_cmp nat_cmp x y) && are_rising (y ∷ names)

abbrev pub is_in_order : List Field → Bool
is_in_order fields = are_rising (map (λ f. f.name) fields)

-- what is signed of each call is in order of name
abbrev pub AreInOrder : Type 0
AreInOrder =
    (host : List ℕ) (token : Option (List ℕ)) (stamp : Stamp) (call : Call) (digest : List ℕ)
    → IsTrue (is_in_order (fields_of host token stamp call digest)) × IsTrue (is_in_order (query_of call))
