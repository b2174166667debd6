-- The first lines of those to come.
use Rattle.std.proofs.Common.{◌≡◌, ℕ, suc, List, ◌∷◌, take, Option, Some, None, ap, ◌∙◌}
use Rattle.std.specs.Prelude.{option_map}
use Rattle.edge_core.specs.Lines.{Comes}

pub limited_comes : (n m : ℕ) → n ≡ suc m → (old new : Option (List (List ℕ))) (left written : Option (List ℕ))
    → Comes old new left written → Comes (option_map (take n) old) (option_map (take m) new) left written
limited_comes n m e None new left written comes = ap (option_map (take m)) comes
limited_comes n m e (Some lines) None left written comes = comes
limited_comes n m e (Some lines) (Some rest) left written comes =
    (comes.0, ap (take n) comes.1 ∙ ap (λ k. take k (comes.0 ∷ rest)) e, comes.2, comes.3)
