-- One step after another, each of which may find that something is bad.
use Rattle.std.specs.Prelude.{List, [], ◌∷◌, Option, Some}
use Rattle.json_tree.specs.Options.{◌>>=◌}

unfoldable pub steps : {S X : Type 0} → (S → X → Option S) → S → List X → Option S
steps step state [] = Some state
steps step state (x ∷ xs) = step state x >>= (λ next. steps step next xs)
