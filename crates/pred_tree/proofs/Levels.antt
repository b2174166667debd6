-- Lists of JSON values as items, and levels that are left.
use Rattle.std.proofs.Common.{◌≡◌, ℕ, zero, suc, ◌-◌, ◌==◌, false, true≢false, List, [], ◌∷◌, length, Option, None, option_and_then, refl, ap, arith}
use Rattle.serde_json.specs.Data.{Data}
use Rattle.serde_json.specs.View.{items_view}
use Rattle.serde_json.specs.declared.value.Value.{Value}
use Rattle.pred_tree.specs.Grammar.{children_in, each, node_of, node_within, only_item, operator_in, some_nodes, two_items}
use Rattle.pred_tree.specs.Tree.{Tree}

pub not_one : (vs : List Value) → (length vs ≡ 1 → ⊥) → None ≡ only_item (items_view vs)
not_one [] h = refl
not_one (v ∷ []) h = absurd (h (omega arith))
not_one (v ∷ w ∷ vs) h = refl

pub not_two : (vs : List Value) → (length vs ≡ 2 → ⊥) → None ≡ two_items (items_view vs)
not_two [] h = refl
not_two (v ∷ []) h = refl
not_two (v ∷ w ∷ []) h = absurd (h (omega arith))
not_two (v ∷ w ∷ x ∷ vs) h = refl

pub some_nodes_each : (node : Data → Option Tree) (vs : List Value) → (length vs == 0) ≡ false → some_nodes node (items_view vs) ≡ each node (items_view vs)
some_nodes_each node [] h = absurd (true≢false h)
some_nodes_each node (v ∷ vs) h = refl

pub a_level_down : (levels : ℕ) (d : Data) → (levels ≡ 0 → ⊥)
    → node_within levels d ≡ option_and_then (λ operator. option_and_then (λ children. node_of (levels - 1) operator children) (children_in d)) (operator_in d)
a_level_down zero d h = absurd (h refl)
a_level_down (suc n) d h =
    let e : suc n - 1 ≡ n = omega arith in
    ap (λ m. option_and_then (λ operator. option_and_then (λ children. node_of m operator children) (children_in d)) (operator_in d)) (omega arith)
