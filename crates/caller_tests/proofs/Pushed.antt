-- What holds of each element, once two were pushed where none was.
use Rattle.std.proofs.Common.{◌≡◌, All, List, [], ◌∷◌, ◌++◌, arith}
use Rattle.std.proofs.lemmas.List.Elements.{All-push, All-same}

pub all_none : {X : Type 0} (P : X → Type 0) → All P []
all_none P k d l = absurd (omega arith)

pub all_two : {X : Type 0} (P : X → Type 0) (xs ys zs : List X) (x y : X) → xs ≡ [] → ys ≡ xs ++ x ∷ [] → zs ≡ ys ++ y ∷ [] → P x → P y → All P zs
all_two P xs ys zs x y none one two px py =
    let first = All-push P xs x (All-same P xs [] none (all_none P)) px in
    All-same P zs (ys ++ y ∷ []) two (All-push P ys y (All-same P ys (xs ++ x ∷ []) one first) py)
