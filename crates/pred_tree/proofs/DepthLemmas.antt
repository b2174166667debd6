-- The levels in which a node is read, and the depth of its tree.
use Rattle.std.proofs.Common.{◌≡◌, ◌≤◌, ℕ, zero, suc, max, List, [], ◌∷◌, Option, Some, None, option_map, option_and_then, refl, sym, ap, subst, arith}
use Rattle.std.proofs.lemmas.Option.{same_Some, none-some}
use Rattle.serde_json.specs.Data.{Data, Items, no_items, item}
use Rattle.part_values.specs.declared.value.PartType.{PartType}
use Rattle.pred_tree.specs.Grammar.{children_in, column_in, comparison_of, each, leaf_in, node_of, node_within, only_item, operator_in, some_nodes, two_items, within}
use Rattle.pred_tree.specs.Laws.{LevelsAreDepth, depth, greatest_depth}
use Rattle.pred_tree.specs.Tree.{Tree, all_of, any_of, negated, null_at, compared, trees_of}
use Rattle.pred_tree.specs.declared.reading.Operator.{Operator}
use Rattle.pred_tree.specs.declared.reading.Operator.TheVariants as operator

map_some : {A B : Type 0} (f : A → B) (o : Option A) (y : B) → option_map f o ≡ Some y → (x : A) × (o ≡ Some x) × (f x ≡ y)
map_some f None y e = absurd (none-some y e)
map_some f (Some x) y e = (x, refl, same_Some (f x) y e)

then_some : {A B : Type 0} (f : A → Option B) (o : Option A) (y : B) → option_and_then f o ≡ Some y → (x : A) × (o ≡ Some x) × (f x ≡ Some y)
then_some f None y e = absurd (none-some y e)
then_some f (Some x) y e = (x, refl, e)

-- ---- no deeper than the levels

each_depth : (f : Data → Option Tree) (n : ℕ) → ((d : Data) (t : Tree) → f d ≡ Some t → depth t ≤ n)
    → (ds : Items) (ts : List Tree) → each f ds ≡ Some ts → greatest_depth (trees_of ts) ≤ n
each_depth f n h no_items ts e = subst (λ us. greatest_depth (trees_of us) ≤ n) (same_Some [] ts e) (omega arith)
each_depth f n h (item d ds) ts e =
    let p = then_some (λ t. option_map (λ us. t ∷ us) (each f ds)) (f d) ts e in
    let q = map_some (λ us. p.0 ∷ us) (each f ds) ts p.2 in
    subst (λ us. greatest_depth (trees_of us) ≤ n) q.2 (omega (arith, h d p.0 p.1, each_depth f n h ds q.0 q.1))

some_depth : (f : Data → Option Tree) (n : ℕ) → ((d : Data) (t : Tree) → f d ≡ Some t → depth t ≤ n)
    → (ds : Items) (ts : List Tree) → some_nodes f ds ≡ Some ts → greatest_depth (trees_of ts) ≤ n
some_depth f n h no_items ts e = absurd (none-some ts e)
some_depth f n h (item d ds) ts e = each_depth f n h (item d ds) ts e

a_level : {X : Type 0} (n : ℕ) (f : Data → Option X) (d : Data) (x : X) → within n f d ≡ Some x → 1 ≤ n
a_level zero f d x e = absurd (none-some x e)
a_level (suc n) f d x e = omega arith

depth_by : (n : ℕ) → ((d : Data) (t : Tree) → node_within n d ≡ Some t → depth t ≤ n)
    → (o : Operator) (ds : Items) (t : Tree) → node_of n o ds ≡ Some t → depth t ≤ suc n
depth_by n h operator.And ds t e =
    let p = map_some (λ ts. all_of (trees_of ts)) (some_nodes (node_within n) ds) t e in
    subst (λ u. depth u ≤ suc n) p.2 (omega (arith, some_depth (node_within n) n h ds p.0 p.1))
depth_by n h operator.Or ds t e =
    let p = map_some (λ ts. any_of (trees_of ts)) (some_nodes (node_within n) ds) t e in
    subst (λ u. depth u ≤ suc n) p.2 (omega (arith, some_depth (node_within n) n h ds p.0 p.1))
depth_by n h operator.Not ds t e =
    let p = map_some negated (option_and_then (node_within n) (only_item ds)) t e in
    let q = then_some (node_within n) (only_item ds) p.0 p.1 in
    subst (λ u. depth u ≤ suc n) p.2 (omega (arith, h q.0 p.0 q.2))
depth_by n h operator.IsNull ds t e =
    let p = map_some {A = List ℕ × PartType} (λ c. null_at c.0) (option_and_then (within n column_in) (only_item ds)) t e in
    let q = then_some (within n column_in) (only_item ds) p.0 p.1 in
    subst (λ u. depth u ≤ suc n) p.2 (omega (arith, a_level n column_in q.0 p.0 q.2))
depth_by n h (operator.Compare c) ds t e =
    let p = then_some (comparison_of (within n leaf_in) c) (two_items ds) t e in
    let q = then_some (λ left. option_and_then (λ right. Some (compared c left right)) (within n leaf_in p.0.1)) (within n leaf_in p.0.0) t p.2 in
    let r = then_some (λ right. Some (compared c q.0 right)) (within n leaf_in p.0.1) t q.2 in
    subst (λ u. depth u ≤ suc n) (same_Some (compared c q.0 r.0) t r.2) (omega (arith, a_level n leaf_in p.0.0 q.0 q.1))

depth_within : (n : ℕ) (d : Data) (t : Tree) → node_within n d ≡ Some t → depth t ≤ n
depth_within zero d t e = absurd (none-some t e)
depth_within (suc n) d t e =
    let p = then_some (λ o. option_and_then (λ ds. node_of n o ds) (children_in d)) (operator_in d) t e in
    let q = then_some (λ ds. node_of n p.0 ds) (children_in d) t p.2 in
    depth_by n (depth_within n) p.0 q.0 t q.2

-- ---- read in as many levels as its depth

each_lifts : (f g : Data → Option Tree) (n : ℕ) → ((d : Data) (t : Tree) → f d ≡ Some t → depth t ≤ n → g d ≡ Some t)
    → (ds : Items) (ts : List Tree) → each f ds ≡ Some ts → greatest_depth (trees_of ts) ≤ n → each g ds ≡ Some ts
each_lifts f g n h no_items ts e low = e
each_lifts f g n h (item d ds) ts e low =
    let p = then_some (λ t. option_map (λ us. t ∷ us) (each f ds)) (f d) ts e in
    let q = map_some (λ us. p.0 ∷ us) (each f ds) ts p.2 in
    let deep : max (depth p.0) (greatest_depth (trees_of q.0)) ≤ n = subst (λ us. greatest_depth (trees_of us) ≤ n) (sym q.2) low in
    rw (h d p.0 p.1 (omega (arith, deep)), each_lifts f g n h ds q.0 q.1 (omega (arith, deep))) (ap Some q.2)

some_lifts : (f g : Data → Option Tree) (n : ℕ) → ((d : Data) (t : Tree) → f d ≡ Some t → depth t ≤ n → g d ≡ Some t)
    → (ds : Items) (ts : List Tree) → some_nodes f ds ≡ Some ts → greatest_depth (trees_of ts) ≤ n → some_nodes g ds ≡ Some ts
some_lifts f g n h no_items ts e low = e
some_lifts f g n h (item d ds) ts e low = each_lifts f g n h (item d ds) ts e low

within_lifts : {X : Type 0} (m n : ℕ) (f : Data → Option X) (d : Data) (x : X) → within m f d ≡ Some x → 1 ≤ n → within n f d ≡ Some x
within_lifts zero n f d x e low = absurd (none-some x e)
within_lifts (suc m) zero f d x e low = absurd (omega (arith, low))
within_lifts (suc m) (suc n) f d x e low = e

lifted_by : (m n : ℕ) → ((d : Data) (t : Tree) → node_within m d ≡ Some t → depth t ≤ n → node_within n d ≡ Some t)
    → (o : Operator) (ds : Items) (t : Tree) → node_of m o ds ≡ Some t → depth t ≤ suc n → node_of n o ds ≡ Some t
lifted_by m n h operator.And ds t e low =
    let p = map_some (λ ts. all_of (trees_of ts)) (some_nodes (node_within m) ds) t e in
    let deep : suc (greatest_depth (trees_of p.0)) ≤ suc n = subst (λ u. depth u ≤ suc n) (sym p.2) low in
    rw (some_lifts (node_within m) (node_within n) n h ds p.0 p.1 (omega (arith, deep))) (ap Some p.2)
lifted_by m n h operator.Or ds t e low =
    let p = map_some (λ ts. any_of (trees_of ts)) (some_nodes (node_within m) ds) t e in
    let deep : suc (greatest_depth (trees_of p.0)) ≤ suc n = subst (λ u. depth u ≤ suc n) (sym p.2) low in
    rw (some_lifts (node_within m) (node_within n) n h ds p.0 p.1 (omega (arith, deep))) (ap Some p.2)
lifted_by m n h operator.Not ds t e low =
    let p = map_some negated (option_and_then (node_within m) (only_item ds)) t e in
    let q = then_some (node_within m) (only_item ds) p.0 p.1 in
    let deep : suc (depth p.0) ≤ suc n = subst (λ u. depth u ≤ suc n) (sym p.2) low in
    rw (q.1, h q.0 p.0 q.2 (omega (arith, deep))) (ap Some p.2)
lifted_by m n h operator.IsNull ds t e low =
    let p = map_some {A = List ℕ × PartType} (λ c. null_at c.0) (option_and_then (within m column_in) (only_item ds)) t e in
    let q = then_some (within m column_in) (only_item ds) p.0 p.1 in
    let deep : 2 ≤ suc n = subst (λ u. depth u ≤ suc n) (sym p.2) low in
    rw (q.1, within_lifts m n column_in q.0 p.0 q.2 (omega (arith, deep))) (ap Some p.2)
lifted_by m n h (operator.Compare c) ds t e low =
    let p = then_some (comparison_of (within m leaf_in) c) (two_items ds) t e in
    let q = then_some (λ left. option_and_then (λ right. Some (compared c left right)) (within m leaf_in p.0.1)) (within m leaf_in p.0.0) t p.2 in
    let r = then_some (λ right. Some (compared c q.0 right)) (within m leaf_in p.0.1) t q.2 in
    let deep : 2 ≤ suc n = subst (λ u. depth u ≤ suc n) (sym (same_Some (compared c q.0 r.0) t r.2)) low in
    rw (p.1, within_lifts m n leaf_in p.0.0 q.0 q.1 (omega (arith, deep)), within_lifts m n leaf_in p.0.1 r.0 r.1 (omega (arith, deep))) r.2

not_flat : (t : Tree) → depth t ≤ 0 → ⊥
not_flat (all_of ts) low = omega (arith, low)
not_flat (any_of ts) low = omega (arith, low)
not_flat (negated t) low = omega (arith, low)
not_flat (null_at name) low = omega (arith, low)
not_flat (compared c left right) low = omega (arith, low)

one_more : (n : ℕ) (d : Data) (o : Operator) (ds : Items) (t : Tree) → operator_in d ≡ Some o → children_in d ≡ Some ds → node_of n o ds ≡ Some t → node_within (suc n) d ≡ Some t
one_more n d o ds t e f g = rw (e, f) g

lifted : (m n : ℕ) (d : Data) (t : Tree) → node_within m d ≡ Some t → depth t ≤ n → node_within n d ≡ Some t
lifted zero n d t e low = absurd (none-some t e)
lifted (suc m) zero d t e low = absurd (not_flat t low)
lifted (suc m) (suc n) d t e low =
    let p = then_some (λ o. option_and_then (λ ds. node_of m o ds) (children_in d)) (operator_in d) t e in
    let q = then_some (λ ds. node_of m p.0 ds) (children_in d) t p.2 in
    one_more n d p.0 q.0 t p.1 q.1 (lifted_by m n (lifted m n) p.0 q.0 t q.2 low)

pub levels_are_depth : LevelsAreDepth
levels_are_depth levels d t = (λ e. ((levels, e), depth_within levels d t e), λ h. lifted h.0.0 levels d t h.0.1 h.1)
