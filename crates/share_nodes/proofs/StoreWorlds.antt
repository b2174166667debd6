-- What is kept of a world over a store's objects, step after step.
use Rattle.std.proofs.Common.{◌≡◌, ◌⊎◌, inl, inr, ℕ, ◌+◌, ◌<◌, ◌≤◌, ◌==◌, List, [], ◌∷◌, ◌++◌, length, Bool, true, false, cond, Option, Some, None, suc, length-append, option_map, refl, sym, ap, ◌∙◌, subst, arith, if◌then◌else◌}
use Rattle.std.specs.Prelude.{All, IsSome, slice_get}
use Rattle.std.specs.List.{count_by}
use mathlib.Core.List.{IsPrefix}
use Rattle.std.proofs.lemmas.Bool.{eqb-true, eqb-false, eq-eqb, ne_eqb}
use Rattle.std.proofs.lemmas.Bool.Decides.{leb_tells}
use Rattle.std.proofs.lemmas.List.Elements.{All-head, All-tail}
use Rattle.std.proofs.lemmas.List.Sums.{sum_by-cons}
use Rattle.share_nodes.specs.Placings.{Placing, commit_of, placing, times}
use Rattle.share_nodes.specs.Stores.{Get, Node, Objects, Restart, Step, World, after, is_idle, is_own, moved, nothing, read, stored, world_from, world_of}
use Rattle.share_nodes.specs.StoreLaws.{Acknowledged, HaveOneLog}
use Rattle.share_nodes.proofs.StoreKeeping.{IsKept, NoGap, fresh_kept, kept_more, moved_kept, some_keeps, stored_gap, stored_keeps}

record Fits {C : Type 0} (w : World C) : Type 0 where
  nodes : (k : ℕ) → IsKept w.objects k (w.nodes k)

-- two lists of which no place has two elements
fronts : {X : Type 0} (xs ys : List X) → ((v : ℕ) (c d : X) → slice_get xs v ≡ Some c → slice_get ys v ≡ Some d → c ≡ d) → IsPrefix xs ys ⊎ IsPrefix ys xs
fronts [] ys same = inl (ys, refl)
fronts (x ∷ xs) [] same = inr (x ∷ xs, refl)
fronts {X} (x ∷ xs) (y ∷ ys) same =
    let head : x ≡ y = same 0 x y refl refl in
    elim (fronts xs ys (λ v c d e f. same (suc v) c d e f)) as (λ s. IsPrefix (x ∷ xs) (y ∷ ys) ⊎ IsPrefix (y ∷ ys) (x ∷ xs)) [
      | inl h ↦ inl (h.0, λ i. head i ∷ h.1 i)
      | inr h ↦ inr (h.0, λ i. (sym head) i ∷ h.1 i)
    ]

one_placing : {C : Type 0} (o : Option (Placing C)) (p q : Placing C) → o ≡ Some p → o ≡ Some q → p ≡ q
one_placing o p q e f = cc

module _ {C : Type 0} where
  node_fits : (w : World C) (s : Step C) → Fits w → (m : ℕ) (b : Bool) → m == s.node ≡ b
      → IsKept (stored w.objects s.node (w.nodes s.node) s.move) m (if b then moved w.objects (w.nodes s.node) s.move else w.nodes m)
  node_fits w s f m true e =
      subst (λ (k : ℕ). IsKept (stored w.objects s.node (w.nodes s.node) s.move) k (moved w.objects (w.nodes s.node) s.move)) (sym (eqb-true m s.node e)) (moved_kept w.objects s.node (w.nodes s.node) s.move (f.nodes s.node))
  node_fits w s f m false e = kept_more w.objects (stored w.objects s.node (w.nodes s.node) s.move) m (w.nodes m) (stored_keeps w.objects s.node (w.nodes s.node) s.move) (f.nodes m)

  fits_after : (w : World C) (s : Step C) → Fits w → Fits (after w s)
  fits_after w s f = record { nodes = λ m. node_fits w s f m (m == s.node) refl }

  fits_from : (w : World C) (ss : List (Step C)) → Fits w → Fits (world_from w ss)
  fits_from w [] f = f
  fits_from w (s ∷ ss) f = fits_from (after w s) ss (fits_after w s f)

  nothing_fits : Fits (nothing {C = C})
  nothing_fits = record { nodes = λ k. fresh_kept (λ v. None) k }

  fits : (steps : List (Step C)) → Fits (world_of steps)
  fits steps = fits_from nothing steps nothing_fits

  published : (steps : List (Step C)) (k v : ℕ) (c : C) → slice_get ((world_of steps).nodes k).published v ≡ Some c → option_map commit_of ((world_of steps).objects v) ≡ Some c
  published steps k v c e = let h = ((fits steps).nodes k).stands v c e in ap (option_map commit_of) h.there ∙ ap (λ (d : C). Some d) h.same

  one : (steps : List (Step C)) (k m : ℕ) → IsPrefix ((world_of steps).nodes k).published ((world_of steps).nodes m).published ⊎ IsPrefix ((world_of steps).nodes m).published ((world_of steps).nodes k).published
  one steps k m = fronts ((world_of steps).nodes k).published ((world_of steps).nodes m).published (λ v c d e f.
      let p = ((fits steps).nodes k).stands v c e in
      let q = ((fits steps).nodes m).stands v d f in
      sym p.same ∙ ap (λ (o : Placing C). o.commit) (one_placing ((world_of steps).objects v) p.one q.one p.there q.there) ∙ q.same)

  from_append : (w : World C) (ss more : List (Step C)) → world_from w (ss ++ more) ≡ world_from (world_from w ss) more
  from_append w [] more = refl
  from_append w (s ∷ ss) more = from_append (after w s) ss more

  objects_from : (w : World C) (ss : List (Step C)) (v : ℕ) (p : Placing C) → w.objects v ≡ Some p → (world_from w ss).objects v ≡ Some p
  objects_from w [] v p e = e
  objects_from w (s ∷ ss) v p e = objects_from (after w s) ss v p ((stored_keeps w.objects s.node (w.nodes s.node) s.move).stays v p e)

  stays : (steps more : List (Step C)) (v : ℕ) (p : Placing C) → (world_of steps).objects v ≡ Some p → (world_of (steps ++ more)).objects v ≡ Some p
  stays steps more v p e = subst (λ (w : World C). w.objects v ≡ Some p) (sym (from_append nothing steps more)) (objects_from (world_of steps) more v p e)

  own : (steps : List (Step C)) (k v : ℕ) → Acknowledged (world_of steps) k v → (c : C) × ((world_of steps).objects v ≡ Some (placing k c))
  own steps k v h = let o = ((fits steps).nodes k).told v h in (o.commit, o.own)

  below : (steps : List (Step C)) (k v u : ℕ) → Acknowledged (world_of steps) k v → u ≤ v → IsSome ((world_of steps).objects u)
  below steps k v u h le = ((fits steps).nodes k).below v u h le

  abbrev by_of : Option (Placing C) → ℕ
  by_of None = 0
  by_of (Some p) = p.by

  by_one : (steps : List (Step C)) (k m v : ℕ) → Acknowledged (world_of steps) k v → Acknowledged (world_of steps) m v → k ≡ m
  by_one steps k m v h g = ap by_of (sym (((fits steps).nodes k).told v h).own ∙ (((fits steps).nodes m).told v g).own)

  once : (steps : List (Step C)) (k v : ℕ) → times v ((world_of steps).nodes k).acknowledged ≤ 1
  once steps k v = ((fits steps).nodes k).once v

  abbrev AllOwn : List (Step C) → Type 0
  AllOwn steps = All (λ s. is_own s.move ≡ true) steps

  gap_from : (w : World C) (ss : List (Step C)) → Fits w → AllOwn ss → NoGap w.objects → NoGap (world_from w ss).objects
  gap_from w [] f o g = g
  gap_from w (s ∷ ss) f o g =
      gap_from (after w s) ss (fits_after w s f) (All-tail (λ (t : Step C). is_own t.move ≡ true) s ss o)
      (stored_gap w.objects s.node (w.nodes s.node) s.move (f.nodes s.node) (All-head (λ (t : Step C). is_own t.move ≡ true) s ss o) g)

  gapless : (steps : List (Step C)) (u v : ℕ) → AllOwn steps → u ≤ v → IsSome ((world_of steps).objects v) → IsSome ((world_of steps).objects u)
  gapless steps u v o le s = (gap_from nothing steps nothing_fits o (record { below = λ a b l t. absurd cc })).below u v le s

  -- ---- a node that gets on, while others do what they like

  read_idle : (x : Node C) (o : Option (Placing C)) → is_idle (read x o) ≡ is_idle x
  read_idle x None = refl
  read_idle x (Some p) = refl

  read_far : (m : Objects C) (x : Node C) (v n : ℕ) → ((u : ℕ) → u ≤ v → IsSome (m u)) → v < length x.published + suc n → (o : Option (Placing C)) → m (length x.published) ≡ o → v < length (read x o).published + n
  read_far m x v n all less None e = elim (leb_tells (length x.published) v) as (λ s. v < length x.published + n) [
    | inl h ↦ absurd (let s = all (length x.published) h.1 in cc)
    | inr h ↦ omega (arith, h.1)
  ]
  read_far m x v n all less (Some p) e = omega (arith, less, length-append x.published (p.commit ∷ []))

  -- what a node has got by steps of which so many are its own, and gets
  abbrev Reaches : World C → ℕ → ℕ → List (Step C) → Type 0
  Reaches w k v ss = is_idle (w.nodes k) ≡ true → ((u : ℕ) → u ≤ v → IsSome (w.objects u)) → v < length (w.nodes k).published + count_by (λ s. s.node == k) ss → v < length ((world_from w ss).nodes k).published

  got : (w : World C) (k v n : ℕ) (s : Step C) → s.node ≡ k → s.move ≡ Get → is_idle (w.nodes k) ≡ true → ((u : ℕ) → u ≤ v → IsSome (w.objects u)) → v < length (w.nodes k).published + suc n
      → (is_idle ((after w s).nodes k) ≡ true) × ((u : ℕ) → u ≤ v → IsSome ((after w s).objects u)) × (v < length ((after w s).nodes k).published + n)
  got w k v n s own get idle all less =
      let x : Node C = w.nodes k in
      let o : Option (Placing C) = w.objects (length x.published) in
      let one : Step C = record { node = k; move = Get } in
      let is : s ≡ one = λ i. record { node = own i; move = get i } in
      let now : (after w one).nodes k ≡ read x o = rw (eq-eqb k k refl, idle) refl in
      let far : v < length (read x o).published + n = read_far w.objects x v n all less o refl in
      subst (λ (t : Step C). (is_idle ((after w t).nodes k) ≡ true) × ((u : ℕ) → u ≤ v → IsSome ((after w t).objects u)) × (v < length ((after w t).nodes k).published + n)) (sym is)
      (ap is_idle now ∙ read_idle x o ∙ idle, all, subst (λ (y : Node C). v < length y.published + n) (sym now) far)

  others : (w : World C) (k : ℕ) (s : Step C) → s.node == k ≡ false → (after w s).nodes k ≡ w.nodes k
  others w k s e = rw (ne_eqb k s.node (λ q. eqb-false s.node k e (sym q))) refl

  reaches_by : (w : World C) (k v : ℕ) (s : Step C) (ss : List (Step C)) → (s.node ≡ k → s.move ≡ Get) → Reaches (after w s) k v ss → (b : Bool) → s.node == k ≡ b
      → is_idle (w.nodes k) ≡ true → ((u : ℕ) → u ≤ v → IsSome (w.objects u)) → v < length (w.nodes k).published + (cond b 1 0 + count_by (λ t. t.node == k) ss) → v < length ((world_from w (s ∷ ss)).nodes k).published
  reaches_by w k v s ss get later true e idle all less =
      let at : s.node ≡ k = eqb-true s.node k e in
      let next = got w k v (count_by (λ t. t.node == k) ss) s at (get at) idle all (omega (arith, less)) in
      later next.0 next.1 next.2
  reaches_by w k v s ss get later false e idle all less =
      let same = others w k s e in
      later (ap is_idle same ∙ idle) (λ u le. some_keeps w.objects (after w s).objects u (stored_keeps w.objects s.node (w.nodes s.node) s.move) (all u le))
      (omega (arith, less, ap (λ (x : Node C). length x.published) same))

  reaches : (w : World C) (k v : ℕ) (ss : List (Step C)) → All (λ s. s.node ≡ k → s.move ≡ Get) ss → Reaches w k v ss
  reaches w k v [] gets idle all less = omega (arith, less)
  reaches w k v (s ∷ ss) gets idle all less =
      let split : count_by (λ t. t.node == k) (s ∷ ss) ≡ cond (s.node == k) 1 0 + count_by (λ t. t.node == k) ss = sum_by-cons (λ (t : Step C). cond (t.node == k) 1 0) s ss in
      reaches_by w k v s ss (All-head (λ (t : Step C). t.node ≡ k → t.move ≡ Get) s ss gets) (reaches (after w s) k v ss (All-tail (λ (t : Step C). t.node ≡ k → t.move ≡ Get) s ss gets)) (s.node == k) refl idle all (omega (arith, less, split))

  found : (steps more : List (Step C)) (k m v : ℕ) → ((world_of steps).nodes k).up ≡ false → Acknowledged (world_of steps) m v → All (λ s. s.node ≡ k → s.move ≡ Get) more
      → v < count_by (λ s. s.node == k) more → v < length ((world_of (steps ++ record { node = k; move = Restart } ∷ more)).nodes k).published
  found steps more k m v down h gets less =
      let w : World C = world_of steps in
      let f = fits steps in
      let start : Step C = record { node = k; move = Restart } in
      let free : (w.nodes k).pending ≡ None = ((f.nodes k).down down).1 in
      let idle : is_idle ((after w start).nodes k) ≡ true = rw (eq-eqb k k refl, free) refl in
      subst (λ (y : World C). v < length (y.nodes k).published) (sym (from_append nothing steps (start ∷ more)))
      (reaches (after w start) k v more gets idle (λ u le. (f.nodes m).below v u h le) (omega (arith, less)))

  pub one_log : HaveOneLog C
  one_log = record { published = published; one = one; stays = stays; own = own; below = below; by_one = by_one; once = once; gapless = gapless; found = found }
