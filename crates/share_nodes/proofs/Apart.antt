-- All that was acknowledged, of all nodes together.
use Rattle.std.proofs.Common.{◌≡◌, ℕ, ◌+◌, ◌≤◌, ◌==◌, List, [], ◌∷◌, ◌++◌, length, Bool, true, false, cond, zero, suc, refl, sym, ap, ◌∙◌, subst, arith, append_assoc, if◌then◌else◌}
use Rattle.std.specs.Prelude.{⊤}
use Rattle.std.proofs.lemmas.Bool.{eqb-true, eqb-false, ne_eqb}
use Rattle.std.proofs.lemmas.List.{append-nil}
use Rattle.std.proofs.lemmas.List.Sums.{sum_by-append}
use Rattle.share_nodes.specs.Placings.{Placing, times}
use Rattle.share_nodes.specs.Steps.{Named, Node, Step, World, after, moved, node_at, nothing, placings, placings_from, with_node, world_from, world_of}
use Rattle.share_nodes.specs.Laws.{AcknowledgedStand, all_acknowledged}
use Rattle.share_nodes.proofs.Keeping.{IsKept, IsOwn, fresh_kept, kept_more}
use Rattle.share_nodes.proofs.Worlds.{Fits, by_of, fits_after, in_own, placed_by}
use Rattle.share_nodes.proofs.Worlds as world

-- no node has this number
abbrev IsNew : ℕ → List Named → Type 0
IsNew k [] = ⊤
IsNew k (n ∷ ns) = (n.number == k ≡ false) × IsNew k ns

-- no two nodes have one number
abbrev Apart : List Named → Type 0
Apart [] = ⊤
Apart (n ∷ ns) = IsNew n.number ns × Apart ns

new_by : (j k : ℕ) (x : Node) (n : Named) (ns : List Named) → k == j ≡ false → IsNew j (n ∷ ns) → IsNew j (with_node k x ns) → (b : Bool) → n.number == k ≡ b → IsNew j (if b then record { number = k; node = x } ∷ ns else n ∷ with_node k x ns)
new_by j k x n ns apart new later true e = (apart, new.1)
new_by j k x n ns apart new later false e = (new.0, later)

new_with : (j k : ℕ) (x : Node) (ns : List Named) → k == j ≡ false → IsNew j ns → IsNew j (with_node k x ns)
new_with j k x [] apart new = (apart, tt)
new_with j k x (n ∷ ns) apart new = new_by j k x n ns apart new (new_with j k x ns apart new.1) (n.number == k) refl

apart_by : (k : ℕ) (x : Node) (n : Named) (ns : List Named) → Apart (n ∷ ns) → Apart (with_node k x ns) → (b : Bool) → n.number == k ≡ b → Apart (if b then record { number = k; node = x } ∷ ns else n ∷ with_node k x ns)
apart_by k x n ns a later true e = (subst (λ (j : ℕ). IsNew j ns) (eqb-true n.number k e) a.0, a.1)
apart_by k x n ns a later false e = (new_with n.number k x ns (ne_eqb k n.number (λ q. eqb-false n.number k e (sym q))) a.0, later)

apart_with : (k : ℕ) (x : Node) (ns : List Named) → Apart ns → Apart (with_node k x ns)
apart_with k x [] a = (tt, tt)
apart_with k x (n ∷ ns) a = apart_by k x n ns a (apart_with k x ns a.1) (n.number == k) refl

apart_from : {C : Type 0} (w : World C) (ss : List (Step C)) → Apart w.nodes → Apart (world_from w ss).nodes
apart_from w [] a = a
apart_from w (s ∷ ss) a = apart_from (after w s) ss (apart_with s.node (moved (length w.store) (node_at w s.node) s.move) w.nodes a)

-- of each node this holds
abbrev Each : (ℕ → Node → Type 0) → List Named → Type 0
Each P [] = ⊤
Each P (n ∷ ns) = P n.number n.node × Each P ns

each_by : (P : ℕ → Node → Type 0) (k : ℕ) (x : Node) (n : Named) (ns : List Named) → P k x → Each P (n ∷ ns) → Each P (with_node k x ns) → (b : Bool) → Each P (if b then record { number = k; node = x } ∷ ns else n ∷ with_node k x ns)
each_by P k x n ns p all later true = (p, all.1)
each_by P k x n ns p all later false = (all.0, later)

each_with : (P : ℕ → Node → Type 0) (k : ℕ) (x : Node) (ns : List Named) → P k x → Each P ns → Each P (with_node k x ns)
each_with P k x [] p all = (p, tt)
each_with P k x (n ∷ ns) p all = each_by P k x n ns p all (each_with P k x ns p all.1) (n.number == k)

each_map : (P Q : ℕ → Node → Type 0) (ns : List Named) → ((k : ℕ) (x : Node) → P k x → Q k x) → Each P ns → Each Q ns
each_map P Q [] f all = tt
each_map P Q (n ∷ ns) f all = (f n.number n.node all.0, each_map P Q ns f all.1)

module _ {C : Type 0} where
  each_from : (ps : List (Placing C)) (w : World C) (ss : List (Step C)) → Fits ps w → Each (IsKept ps) w.nodes → Each (IsKept (ps ++ placings_from w ss)) (world_from w ss).nodes
  each_from ps w [] f all = subst (λ (l : List (Placing C)). Each (IsKept l) w.nodes) (sym (append-nil ps)) all
  each_from ps w (s ∷ ss) f all =
      let next : List (Placing C) = ps ++ placed_by w s in
      let later : Fits next (after w s) = fits_after ps w s f in
      let x : Node = moved (length w.store) (node_at w s.node) s.move in
      let own : IsKept next s.node x = subst (λ (y : Node). IsKept next s.node y) (in_own s.node x w.nodes) (later.nodes s.node) in
      let here : Each (IsKept next) (after w s).nodes = each_with (IsKept next) s.node x w.nodes own (each_map (IsKept ps) (IsKept next) w.nodes (λ k y h. kept_more ps (placed_by w s) k y h) all) in
      subst (λ (l : List (Placing C)). Each (IsKept l) (world_from (after w s) ss).nodes) (append_assoc ps (placed_by w s) (placings_from (after w s) ss)) (each_from next (after w s) ss later here)

  -- a version of which another node is the author
  none_by : (ps : List (Placing C)) (v a : ℕ) (n : Named) → n.number == a ≡ false → IsKept ps n.number n.node → IsOwn ps a v → (m : ℕ) → times v n.node.acknowledged ≡ m → m ≡ 0
  none_by ps v a n apart h o zero e = refl
  none_by ps v a n apart h o (suc m) e =
      let p = h.own v (omega (arith, e)) in
      absurd (eqb-false n.number a apart (ap by_of (sym p.is ∙ o.is)))

  none_later : (ps : List (Placing C)) (v a : ℕ) (ns : List Named) → IsNew a ns → Each (IsKept ps) ns → IsOwn ps a v → times v (all_acknowledged ns) ≡ 0
  none_later ps v a [] new all o = refl
  none_later ps v a (n ∷ ns) new all o =
      let both : times v (n.node.acknowledged ++ all_acknowledged ns) ≡ times v n.node.acknowledged + times v (all_acknowledged ns) = sum_by-append (λ (x : ℕ). cond (x == v) 1 0) n.node.acknowledged (all_acknowledged ns) in
      omega (arith, both, none_by ps v a n new.0 all.0 o (times v n.node.acknowledged) refl, none_later ps v a ns new.1 all.1 o)

  once_by : (ps : List (Placing C)) (v : ℕ) (n : Named) (ns : List Named) → IsNew n.number ns → IsKept ps n.number n.node → Each (IsKept ps) ns → times v (all_acknowledged ns) ≤ 1 → (m : ℕ) → times v n.node.acknowledged ≡ m
      → m + times v (all_acknowledged ns) ≤ 1
  once_by ps v n ns new h all later zero e = omega (arith, later)
  once_by ps v n ns new h all later (suc m) e = omega (arith, h.once v, e, none_later ps v n.number ns new all (h.own v (omega (arith, e))))

  all_once : (ps : List (Placing C)) (v : ℕ) (ns : List Named) → Apart ns → Each (IsKept ps) ns → times v (all_acknowledged ns) ≤ 1
  all_once ps v [] a all = omega arith
  all_once ps v (n ∷ ns) a all =
      let both : times v (n.node.acknowledged ++ all_acknowledged ns) ≡ times v n.node.acknowledged + times v (all_acknowledged ns) = sum_by-append (λ (x : ℕ). cond (x == v) 1 0) n.node.acknowledged (all_acknowledged ns) in
      omega (arith, both, once_by ps v n ns a.0 all.0 all.1 (all_once ps v ns a.1 all.1) (times v n.node.acknowledged) refl)

  all_differ : (steps : List (Step C)) (v : ℕ) → times v (all_acknowledged (world_of steps).nodes) ≤ 1
  all_differ steps v =
      all_once (placings steps) v (world_of steps).nodes (apart_from nothing steps tt) (each_from [] nothing steps (record { store = refl; nodes = λ k. fresh_kept [] k }) tt)

  pub acknowledged_stand : AcknowledgedStand C
  acknowledged_stand = record {
    gapless = world.stores_hold;
    grows = world.grows;
    published = world.published;
    own = world.own;
    by_one = world.by_one;
    once = all_differ;
    found = world.found;
  }
