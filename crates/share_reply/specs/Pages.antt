-- A page of a list: the first elements that pass a test, from a place on, and the place at which the next page begins.
use Rattle.std.specs.Prelude.{ℕ, zero, suc, ◌+◌, List, [], ◌∷◌, Bool, Option, Some, None, filter, length, drop, take, nat_lt, if◌then◌else◌}

-- the first so many, or all
abbrev pub at_most : {X : Type 0} → Option ℕ → List X → List X
at_most None xs = xs
at_most (Some k) xs = take k xs

-- what is given of the elements from a place on
abbrev pub given : {X : Type 0} → (X → Bool) → Option ℕ → ℕ → List X → List X
given test most place xs = at_most most (filter test (drop place xs))

-- how many elements stand up to the one that is the k-th to pass
abbrev pub up_to : {X : Type 0} → (X → Bool) → ℕ → List X → ℕ
up_to test zero xs = 0
up_to test (suc k) [] = 0
up_to test (suc k) (x ∷ xs) = suc (up_to test (if test x then k else suc k) xs)

abbrev pub place_behind : {X : Type 0} → (X → Bool) → Option ℕ → ℕ → List X → Option ℕ
place_behind test None place rest = None
place_behind test (Some k) place rest = if nat_lt k (length (filter test rest)) then Some (place + up_to test k rest) else None

-- the place after the last one given, or none where none that passes is left from there
abbrev pub next_place : {X : Type 0} → (X → Bool) → Option ℕ → ℕ → List X → Option ℕ
next_place test most place xs = place_behind test most place (drop place xs)
