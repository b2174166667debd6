-- A list that is gone through step by step.
use Rattle.std.proofs.Common.{◌≡◌, ℕ, ◌+◌, ◌<◌, ◌≤◌, List, [], ◌∷◌, length, get_or, drop, map, Option, Some, option_map, refl, sym, ap, ◌∙◌}
use Rattle.std.proofs.lemmas.List.{drop_more, drop-map, drop_all}
use Rattle.json_tree.specs.Options.{◌>>=◌}
use Rattle.bucket_text.specs.declared.fault.Fault.{Fault}
use Rattle.bucket_text.specs.declared.fault.Fault.TheVariants as fault
use Rattle.bucket_text.specs.Faults.{IsFault}
use Rattle.bucket_text.specs.Steps.{steps}

steps-cons : {S X : Type 0} (step : S → X → Option S) (state : S) (x : X) (xs : List X) → steps step state (x ∷ xs) ≡ step state x >>= (λ next. steps step next xs)
unfolding steps
steps-cons step state x xs = refl

steps-nil : {S X : Type 0} (step : S → X → Option S) (state : S) → steps step state [] ≡ Some state
unfolding steps
steps-nil step state = refl

here : {X Y : Type 0} (now : X → Y) (xs : List X) (i : ℕ) (d : X) → i < length xs → drop i (map now xs) ≡ now (get_or xs i d) ∷ drop (i + 1) (map now xs)
here now xs i d within =
    drop-map now i xs ∙ ap (map now) (drop_more xs i d within) ∙ ap (λ ys. now (get_or xs i d) ∷ ys) (sym (drop-map now (i + 1) xs))

-- what the rest comes to, before one more step
at_next : {S X Y : Type 0} (step : S → Y → Option S) (now : X → Y) (xs : List X) (i : ℕ) (d : X) (state : S) → i < length xs
    → steps step state (drop i (map now xs)) ≡ step state (now (get_or xs i d)) >>= (λ next. steps step next (drop (i + 1) (map now xs)))
at_next step now xs i d state within =
    ap (steps step state) (here now xs i d within) ∙ steps-cons step state (now (get_or xs i d)) (drop (i + 1) (map now xs))

-- a step that is good
pub step_good : {S X Y : Type 0} (step : S → Y → Option S) (now : X → Y) (whole : Option S) (xs : List X) (i : ℕ) (d : X) (state next : S) → i < length xs
    → whole ≡ steps step state (drop i (map now xs)) → step state (now (get_or xs i d)) ≡ Some next → whole ≡ steps step next (drop (i + 1) (map now xs))
step_good step now whole xs i d state next within so_far good =
    so_far ∙ at_next step now xs i d state within ∙ ap (λ r. r >>= (λ t. steps step t (drop (i + 1) (map now xs)))) good

-- a step that doesn't succeed
pub step_fault : {S X Y : Type 0} (step : S → Y → Option S) (now : X → Y) (whole : Option S) (xs : List X) (i : ℕ) (d : X) (state : S) (e : Fault) → i < length xs
    → whole ≡ steps step state (drop i (map now xs)) → IsFault e (step state (now (get_or xs i d))) → IsFault e whole
step_fault step now whole xs i d state fault.Bad within so_far bad =
    so_far ∙ at_next step now xs i d state within ∙ ap (λ r. r >>= (λ t. steps step t (drop (i + 1) (map now xs)))) bad
step_fault step now whole xs i d state fault.NoMemory within so_far h = tt

pub fault_map : {A B : Type 0} (f : A → B) (o : Option A) (e : Fault) → IsFault e o → IsFault e (option_map f o)
fault_map f o fault.Bad h = ap (option_map f) h
fault_map f o fault.NoMemory h = tt

-- no step is left
pub steps_end : {S X Y : Type 0} (step : S → Y → Option S) (now : X → Y) (whole : Option S) (xs : List X) (i : ℕ) (state : S) → length xs ≤ i
    → whole ≡ steps step state (drop i (map now xs)) → whole ≡ Some state
steps_end step now whole xs i state past so_far =
    so_far ∙ ap (steps step state) (drop-map now i xs ∙ ap (map now) (drop_all i xs past)) ∙ steps-nil step state
