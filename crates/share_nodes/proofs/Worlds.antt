-- What is kept of a world, step after step.
use Rattle.std.proofs.Common.{◌≡◌, ◌≢◌, ℕ, ◌<◌, ◌≤◌, ◌==◌, List, [], ◌∷◌, ◌++◌, length, Bool, true, false, Option, Some, None, refl, sym, ap, ◌∙◌, subst, arith, append_assoc, if◌then◌else◌, map}
use Rattle.std.specs.Prelude.{slice_get, option_map}
use mathlib.Core.List.{IsPrefix}
use Rattle.std.proofs.lemmas.Bool.{eqb-true, eqb-false, eq-eqb, ne_eqb}
use Rattle.std.proofs.lemmas.List.{append-nil, length-map, map-append}
use Rattle.std.proofs.lemmas.Option.{slice_get-map}
use Rattle.share_nodes.specs.Placings.{Placing, commit_of, placing}
use Rattle.share_nodes.specs.Steps.{Named, Node, Restart, Step, World, after, moved, node_at, node_in, nothing, placed, placings, placings_from, with_node, world_from, world_of}
use Rattle.share_nodes.specs.Laws.{Acknowledged}
use Rattle.share_nodes.proofs.Keeping.{IsKept, fresh_kept, kept_more, moved_kept, own_within}

-- ---- nodes by number

own_by : (k : ℕ) (x : Node) (n : Named) (ns : List Named) → node_in k (with_node k x ns) ≡ x → (b : Bool) → n.number == k ≡ b → node_in k (if b then record { number = k; node = x } ∷ ns else n ∷ with_node k x ns) ≡ x
own_by k x n ns later true e = rw (eq-eqb k k refl) refl
own_by k x n ns later false e = rw e later

pub in_own : (k : ℕ) (x : Node) (ns : List Named) → node_in k (with_node k x ns) ≡ x
in_own k x [] = rw (eq-eqb k k refl) refl
in_own k x (n ∷ ns) = own_by k x n ns (in_own k x ns) (n.number == k) refl

other_by : (k m : ℕ) (x : Node) (n : Named) (ns : List Named) → m ≢ k → node_in m (with_node k x ns) ≡ node_in m ns → (b : Bool) → n.number == k ≡ b
    → node_in m (if b then record { number = k; node = x } ∷ ns else n ∷ with_node k x ns) ≡ node_in m (n ∷ ns)
other_by k m x n ns apart later true e =
    let at : n.number ≡ k = eqb-true n.number k e in
    rw (ne_eqb k m (λ q. apart (sym q)), ne_eqb n.number m (λ q. apart (sym q ∙ at))) refl
other_by k m x n ns apart later false e = ap (λ (y : Node). if n.number == m then n.node else y) later

in_other : (k m : ℕ) (x : Node) (ns : List Named) → m ≢ k → node_in m (with_node k x ns) ≡ node_in m ns
in_other k m x [] apart = rw (ne_eqb k m (λ q. apart (sym q))) refl
in_other k m x (n ∷ ns) apart = other_by k m x n ns apart (in_other k m x ns apart) (n.number == k) refl

started : (n k : ℕ) (x : Node) (b : Bool) → x.up ≡ b → b ≡ false → (if b then x else record { up = true; published = n; pending = x.pending; acknowledged = x.acknowledged }).published ≡ n
started n k x true e d = absurd cc
started n k x false e d = refl

-- ---- a world, over what was placed

pub record Fits {C : Type 0} (ps : List (Placing C)) (w : World C) : Type 0 where
  pub store : w.store ≡ map commit_of ps
  pub nodes : (k : ℕ) → IsKept ps k (node_at w k)

module _ {C : Type 0} where
  abbrev pub placed_by : World C → Step C → List (Placing C)
  placed_by w s = map (placing s.node) (placed (length w.store) (node_at w s.node) s.move)

  commits_are : (k : ℕ) (cs : List C) → cs ≡ map commit_of (map (placing k) cs)
  commits_are k [] = refl
  commits_are k (c ∷ cs) = ap (λ (l : List C). c ∷ l) (commits_are k cs)

  as_long : (ps : List (Placing C)) (w : World C) → Fits ps w → length w.store ≡ length ps
  as_long ps w f = ap (λ (l : List C). length l) f.store ∙ length-map ps (commit_of {C = C})

  -- the node that moves, and the others
  node_fits : (ps : List (Placing C)) (w : World C) (s : Step C) → Fits ps w → (m : ℕ) (b : Bool) → m == s.node ≡ b → IsKept (ps ++ placed_by w s) m (node_at (after w s) m)
  node_fits ps w s f m true e =
      let at : m ≡ s.node = eqb-true m s.node e in
      let x : Node = node_at w s.node in
      let kept : IsKept (ps ++ placed_by w s) s.node (moved (length w.store) x s.move) =
      subst (λ (n : ℕ). IsKept (ps ++ map (placing s.node) (placed n x s.move)) s.node (moved n x s.move)) (sym (as_long ps w f)) (moved_kept ps s.node x s.move (f.nodes s.node)) in
      subst (λ (k : ℕ). IsKept (ps ++ placed_by w s) k (node_at (after w s) k)) (sym at)
      (subst (λ (y : Node). IsKept (ps ++ placed_by w s) s.node y) (sym (in_own s.node (moved (length w.store) x s.move) w.nodes)) kept)
  node_fits ps w s f m false e =
      subst (λ (y : Node). IsKept (ps ++ placed_by w s) m y) (sym (in_other s.node m (moved (length w.store) (node_at w s.node) s.move) w.nodes (eqb-false m s.node e)))
      (kept_more ps (placed_by w s) m (node_at w m) (f.nodes m))

  pub fits_after : (ps : List (Placing C)) (w : World C) (s : Step C) → Fits ps w → Fits (ps ++ placed_by w s) (after w s)
  fits_after ps w s f = record {
    store =
        ap (λ (l : List C). l ++ placed (length w.store) (node_at w s.node) s.move) f.store
        ∙ ap (λ (l : List C). map commit_of ps ++ l) (commits_are s.node (placed (length w.store) (node_at w s.node) s.move))
        ∙ sym (map-append commit_of ps (placed_by w s));
    nodes = λ m. node_fits ps w s f m (m == s.node) refl;
  }

  fits_from : (ps : List (Placing C)) (w : World C) (ss : List (Step C)) → Fits ps w → Fits (ps ++ placings_from w ss) (world_from w ss)
  fits_from ps w [] f = subst (λ (l : List (Placing C)). Fits l w) (sym (append-nil ps)) f
  fits_from ps w (s ∷ ss) f =
      subst (λ (l : List (Placing C)). Fits l (world_from (after w s) ss)) (append_assoc ps (placed_by w s) (placings_from (after w s) ss)) (fits_from (ps ++ placed_by w s) (after w s) ss (fits_after ps w s f))

  fits : (steps : List (Step C)) → Fits (placings steps) (world_of steps)
  fits steps = fits_from [] nothing steps (record { store = refl; nodes = λ k. fresh_kept [] k })

  -- ---- what holds of all steps

  pub stores_hold : (steps : List (Step C)) → (world_of steps).store ≡ map commit_of (placings steps)
  stores_hold steps = (fits steps).store

  pub published : (steps : List (Step C)) (k : ℕ) → (node_at (world_of steps) k).published ≤ length (world_of steps).store
  published steps k = let f = fits steps in omega (arith, (f.nodes k).behind, as_long (placings steps) (world_of steps) f)

  pub own : (steps : List (Step C)) (k v : ℕ) → Acknowledged (world_of steps) k v → (c : C) × (slice_get (placings steps) v ≡ Some (placing k c)) × (slice_get (world_of steps).store v ≡ Some c)
  own steps k v h =
      let f = fits steps in
      let o = (f.nodes k).own v h in
      (o.commit, o.is, ap (λ (l : List C). slice_get l v) f.store ∙ slice_get-map commit_of (placings steps) v ∙ ap (option_map commit_of) o.is)

  abbrev pub by_of : Option (Placing C) → ℕ
  by_of None = 0
  by_of (Some p) = p.by

  pub by_one : (steps : List (Step C)) (k m v : ℕ) → Acknowledged (world_of steps) k v → Acknowledged (world_of steps) m v → k ≡ m
  by_one steps k m v h g =
      let f = fits steps in
      let o = (f.nodes k).own v h in
      let p = (f.nodes m).own v g in
      ap by_of (sym o.is ∙ p.is)

  pub from_append : (w : World C) (ss more : List (Step C)) → world_from w (ss ++ more) ≡ world_from (world_from w ss) more
  from_append w [] more = refl
  from_append w (s ∷ ss) more = from_append (after w s) ss more

  store_from : (w : World C) (ss : List (Step C)) → IsPrefix w.store (world_from w ss).store
  store_from w [] = ([], append-nil w.store)
  store_from w (s ∷ ss) =
      let (rest, e) = store_from (after w s) ss in
      let new : List C = placed (length w.store) (node_at w s.node) s.move in
      (new ++ rest, sym (append_assoc w.store new rest) ∙ e)

  pub grows : (steps more : List (Step C)) → IsPrefix (world_of steps).store (world_of (steps ++ more)).store
  grows steps more = subst (λ (w : World C). IsPrefix (world_of steps).store w.store) (sym (from_append nothing steps more)) (store_from (world_of steps) more)

  pub found : (steps : List (Step C)) (k m v : ℕ) → (node_at (world_of steps) k).up ≡ false → Acknowledged (world_of steps) m v
      → v < (node_at (world_of (steps ++ record { node = k; move = Restart } ∷ [])) k).published
  found steps k m v down h =
      let w : World C = world_of steps in
      let f = fits steps in
      let s : Step C = record { node = k; move = Restart } in
      let now : (node_at (world_of (steps ++ s ∷ [])) k).published ≡ length w.store =
      ap (λ (y : World C). (node_at y k).published) (from_append nothing steps (s ∷ []))
      ∙ ap (λ (y : Node). y.published) (in_own k (moved (length w.store) (node_at w k) s.move) w.nodes)
      ∙ started (length w.store) k (node_at w k) (node_at w k).up refl down in
      omega (arith, now, own_within (placings steps) m v ((f.nodes m).own v h), as_long (placings steps) w f)

  -- ---- for the code

  pub ahead : (steps : List (Step C)) (k : ℕ) → (node_at (world_of steps) k).pending ≡ true → (node_at (world_of steps) k).published < length (world_of steps).store
  ahead steps k p =
      let f = fits steps in
      let x : Node = node_at (world_of steps) k in
      omega (arith, own_within (placings steps) k x.published ((f.nodes k).next p), as_long (placings steps) (world_of steps) f)

  pub one_more : (steps : List (Step C)) (s : Step C) → world_of (steps ++ s ∷ []) ≡ after (world_of steps) s
  one_more steps s = from_append nothing steps (s ∷ [])
