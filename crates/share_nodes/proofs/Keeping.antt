-- What is kept of each node, over all that was placed.
use Rattle.std.proofs.Common.{◌≡◌, ℕ, ◌+◌, ◌<◌, ◌≤◌, ◌==◌, ◌&&◌, not, List, [], ◌∷◌, ◌++◌, length, nat_lt, Bool, true, false, Some, zero, suc, length-append, refl, sym, ap, ◌∙◌, subst, arith, if◌then◌else◌, map}
use Rattle.std.specs.Prelude.{slice_get}
use Rattle.std.proofs.lemmas.Bool.{eqb-true, ltb-true}
use Rattle.std.proofs.lemmas.Option.{slice_get_within}
use Rattle.share_nodes.specs.Placings.{Placing, placing, times}
use Rattle.share_nodes.specs.Steps.{Move, Node, can_place, can_read, fresh, moved, placed, published_one}
use Rattle.share_nodes.specs.Steps.{Read, Place, Publish, Crash, Restart}
use Rattle.share_nodes.proofs.Lists.{slice_get_end, slice_get_left, times_other, times_same}

-- the version is one that this node placed
pub record IsOwn {C : Type 0} (ps : List (Placing C)) (k v : ℕ) : Type 0 where
  pub commit : C
  pub is : slice_get ps v ≡ Some (placing k commit)

-- It has published no more than is stored; what it put and didn't publish is its own, and not acknowledged yet; and what it acknowledged is its own, each
-- version once.
pub record IsKept {C : Type 0} (ps : List (Placing C)) (k : ℕ) (x : Node) : Type 0 where
  pub behind : x.published ≤ length ps
  pub running : x.pending ≡ true → x.up ≡ true
  pub next : x.pending ≡ true → IsOwn ps k x.published
  pub quiet : x.pending ≡ true → times x.published x.acknowledged ≡ 0
  pub own : (v : ℕ) → 0 < times v x.acknowledged → IsOwn ps k v
  pub once : (v : ℕ) → times v x.acknowledged ≤ 1

idle_is : (u p b : Bool) → ((u && not p) && b) ≡ true → (u ≡ true) × (p ≡ false) × (b ≡ true)
idle_is true true b e = absurd cc
idle_is true false b e = (refl, refl, e)
idle_is false p b e = absurd cc

module _ {C : Type 0} where
  own_more : (ps qs : List (Placing C)) (k v : ℕ) → IsOwn ps k v → IsOwn (ps ++ qs) k v
  own_more ps qs k v o = record { commit = o.commit; is = slice_get_left ps qs v (slice_get_within ps v (placing k o.commit) o.is) ∙ o.is }

  pub own_within : (ps : List (Placing C)) (k v : ℕ) → IsOwn ps k v → v < length ps
  own_within ps k v o = slice_get_within ps v (placing k o.commit) o.is

  pub fresh_kept : (ps : List (Placing C)) (k : ℕ) → IsKept ps k fresh
  fresh_kept ps k = record {
    behind = omega arith;
    running = λ e. refl;
    next = λ e. absurd cc;
    quiet = λ e. absurd cc;
    own = λ v h. absurd (omega (arith, h));
    once = λ v. omega arith;
  }

  -- more was placed, and the node did nothing
  pub kept_more : (ps qs : List (Placing C)) (k : ℕ) (x : Node) → IsKept ps k x → IsKept (ps ++ qs) k x
  kept_more ps qs k x h = record {
    behind = omega (arith, h.behind, length-append ps qs);
    running = h.running;
    next = λ e. own_more ps qs k x.published (h.next e);
    quiet = h.quiet;
    own = λ v n. own_more ps qs k v (h.own v n);
    once = h.once;
  }

  -- it went on, or back, to where it has published so many, with nothing put
  kept_at : (ps : List (Placing C)) (k m : ℕ) (up : Bool) (x : Node) → m ≤ length ps → IsKept ps k x → IsKept ps k (record { up = up; published = m; pending = false; acknowledged = x.acknowledged })
  kept_at ps k m up x le h = record {
    behind = le;
    running = λ e. absurd cc;
    next = λ e. absurd cc;
    quiet = λ e. absurd cc;
    own = h.own;
    once = h.once;
  }

  -- a node takes over the next
  read_kept : (ps : List (Placing C)) (k : ℕ) (x : Node) → IsKept ps k x → (b : Bool) → can_read (length ps) x ≡ b
      → IsKept ps k (if b then record { up = x.up; published = x.published + 1; pending = x.pending; acknowledged = x.acknowledged } else x)
  read_kept ps k x h false e = h
  read_kept ps k x h true e =
      let idle = idle_is x.up x.pending (nat_lt x.published (length ps)) e in
      record {
        behind = omega (arith, ltb-true x.published (length ps) idle.2);
        running = h.running;
        next = λ p. absurd (let q = idle.1 in cc);
        quiet = λ p. absurd (let q = idle.1 in cc);
        own = h.own;
        once = h.once;
      }

  none_beyond : (ps : List (Placing C)) (k : ℕ) (x : Node) → IsKept ps k x → (n : ℕ) → times (length ps) x.acknowledged ≡ n → n ≡ 0
  none_beyond ps k x h zero e = refl
  none_beyond ps k x h (suc n) e = absurd (omega (arith, own_within ps k (length ps) (h.own (length ps) (omega (arith, e)))))

  -- a node puts the next, where all is published
  place_kept : (ps : List (Placing C)) (k : ℕ) (c : C) (x : Node) → IsKept ps k x → (b : Bool) → can_place (length ps) x ≡ b
      → IsKept (ps ++ map (placing k) (if b then c ∷ [] else [])) k (if b then record { up = x.up; published = x.published; pending = true; acknowledged = x.acknowledged } else x)
  place_kept ps k c x h false e = kept_more ps [] k x h
  place_kept ps k c x h true e =
      let more = kept_more ps (placing k c ∷ []) k x h in
      let at : x.published ≡ length ps = eqb-true x.published (length ps) (idle_is x.up x.pending (x.published == length ps) e).2 in
      record {
        behind = more.behind;
        running = λ p. (idle_is x.up x.pending (x.published == length ps) e).0;
        next = λ p. record { commit = c; is = slice_get_end ps (placing k c) x.published at };
        quiet = λ p. ap (λ (n : ℕ). times n x.acknowledged) at ∙ none_beyond ps k x h (times (length ps) x.acknowledged) refl;
        own = more.own;
        once = more.once;
      }

  own_last : (ps : List (Placing C)) (k v : ℕ) (x : Node) → IsKept ps k x → x.pending ≡ true → 0 < times v (x.acknowledged ++ x.published ∷ []) → (b : Bool) → x.published == v ≡ b → IsOwn ps k v
  own_last ps k v x h p n true e = subst (λ (m : ℕ). IsOwn ps k m) (eqb-true x.published v e) (h.next p)
  own_last ps k v x h p n false e = h.own v (subst (λ (m : ℕ). 0 < m) (times_other v x.published x.acknowledged e) n)

  once_last : (ps : List (Placing C)) (k v : ℕ) (x : Node) → IsKept ps k x → x.pending ≡ true → (b : Bool) → x.published == v ≡ b → times v (x.acknowledged ++ x.published ∷ []) ≤ 1
  once_last ps k v x h p true e =
      let at : x.published ≡ v = eqb-true x.published v e in
      let none : times v x.acknowledged ≡ 0 = ap (λ (n : ℕ). times n x.acknowledged) (sym at) ∙ h.quiet p in
      omega (arith, times_same v x.published x.acknowledged at, none)
  once_last ps k v x h p false e = omega (arith, times_other v x.published x.acknowledged e, h.once v)

  -- a node publishes what it put, and acknowledges it
  publish_kept : (ps : List (Placing C)) (k : ℕ) (x : Node) → IsKept ps k x → (b : Bool) → x.pending ≡ b → IsKept ps k (if b then published_one x else x)
  publish_kept ps k x h false e = h
  publish_kept ps k x h true e = record {
    behind = omega (arith, own_within ps k x.published (h.next e));
    running = λ p. absurd cc;
    next = λ p. absurd cc;
    quiet = λ p. absurd cc;
    own = λ v n. own_last ps k v x h e n (x.published == v) refl;
    once = λ v. once_last ps k v x h e (x.published == v) refl;
  }

  restart_kept : (ps : List (Placing C)) (k : ℕ) (x : Node) → IsKept ps k x → (b : Bool) → x.up ≡ b
      → IsKept ps k (if b then x else record { up = true; published = length ps; pending = x.pending; acknowledged = x.acknowledged })
  restart_kept ps k x h true e = h
  restart_kept ps k x h false e = record {
    behind = omega arith;
    running = λ p. refl;
    next = λ p. absurd (let r = h.running p in cc);
    quiet = λ p. absurd (let r = h.running p in cc);
    own = h.own;
    once = h.once;
  }

  abbrev the_move : Move C → Move C
  the_move m = m

  -- what its move leaves
  pub moved_kept : (ps : List (Placing C)) (k : ℕ) (x : Node) (m : Move C) → IsKept ps k x → IsKept (ps ++ map (placing k) (placed (length ps) x m)) k (moved (length ps) x m)
  moved_kept ps k x Read h = kept_more ps [] k (moved (length ps) x (the_move Read)) (read_kept ps k x h (can_read (length ps) x) refl)
  moved_kept ps k x (Place c) h = place_kept ps k c x h (can_place (length ps) x) refl
  moved_kept ps k x Publish h = kept_more ps [] k (moved (length ps) x (the_move Publish)) (publish_kept ps k x h x.pending refl)
  moved_kept ps k x Crash h = kept_more ps [] k (moved (length ps) x (the_move Crash)) (kept_at ps k 0 false x (omega arith) h)
  moved_kept ps k x Restart h = kept_more ps [] k (moved (length ps) x (the_move Restart)) (restart_kept ps k x h x.up refl)
