-- Names with texts or nothing, in byte order of the names, which are distinct.
use Rattle.std.specs.Prelude.{ℕ, List, Option, map}
use Rattle.std.specs.Ordering.{nat_cmp}
use Rattle.std.specs.Cmp.Lexicographic.{slice_cmp}
use Rattle.std.specs.List.Sorted.{IsStrictlySortedBy}

abbrev pub names : List (List ℕ × Option (List ℕ)) → List (List ℕ)
names ps = map (λ p. p.0) ps

-- each name is above those before it, in byte order
abbrev pub IsPairs : List (List ℕ × Option (List ℕ)) → Type 0
IsPairs ps = IsStrictlySortedBy (slice_cmp nat_cmp) (names ps)
