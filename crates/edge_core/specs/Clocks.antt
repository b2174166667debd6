-- The moments that a clock tells, in milliseconds since 1970.
use Rattle.std.specs.Prelude.{◌≡◌, ℕ, List, [], ◌∷◌, Option, IfSome, option_map}

-- the next of the moments to come; a clock without any stands at 0
abbrev pub next_moment : List ℕ → ℕ
next_moment [] = 0
next_moment (m ∷ ms) = m

-- those that come after it: the last repeats
abbrev pub later_moments : List ℕ → List ℕ
later_moments [] = []
later_moments (m ∷ []) = m ∷ []
later_moments (m ∷ n ∷ ms) = n ∷ ms

-- one call of a clock: the next moment, and no other, where the clock tells
abbrev pub Ticks : Option (List ℕ) → Option (List ℕ) → ℕ → Type 0
Ticks old new moment = (new ≡ option_map later_moments old) × IfSome old (λ ms. moment ≡ next_moment ms)
