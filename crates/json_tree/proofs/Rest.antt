-- What is read of a list, after what was read of its front.
use Rattle.std.proofs.Common.{◌≡◌, List, [], ◌∷◌, ◌++◌, Option, Some, None, option_map, option_and_then, refl, append_assoc, ap, sym, ◌∙◌}
use Rattle.std.specs.Prelude.{Ok}
use Rattle.json_tree.specs.Fields.{or_wrong}
use Rattle.std.proofs.lemmas.Option.{same_Some, none-some}

-- a front before what is read
abbrev pub onto : {X : Type 0} → List X → Option (List X) → Option (List X)
onto front read = option_map (λ rest. front ++ rest) read

-- one more was read
pub onto-more : {X : Type 0} (front : List X) (x : X) (found : Option X) (rest : Option (List X)) → found ≡ Some x
    → onto front (option_and_then (λ y. option_map (λ more. y ∷ more) rest) found) ≡ onto (front ++ x ∷ []) rest
onto-more front x None rest e = absurd (none-some x e)
onto-more front x (Some y) None e = refl
onto-more front x (Some y) (Some more) e = ap (λ z. Some (front ++ z ∷ more)) (same_Some y x e) ∙ ap Some (sym (append_assoc front (x ∷ []) more))

-- what was read is there
pub found : {X : Type 0} (o : Option X) (x : X) → or_wrong o ≡ Ok x → o ≡ Some x
found None x e = cc
found (Some y) x e = cc
