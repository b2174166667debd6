-- What is kept of each node, over the objects of the store.
use Rattle.std.proofs.Common.{◌≡◌, ◌⊎◌, inl, inr, ℕ, ◌+◌, ◌<◌, ◌≤◌, ◌==◌, ◌&&◌, List, [], ◌∷◌, ◌++◌, length, Bool, true, false, Option, Some, None, zero, suc, length-append, refl, sym, ap, ◌∙◌, subst, arith, if◌then◌else◌}
use Rattle.std.specs.Prelude.{slice_get, is_none, IsSome}
use Rattle.std.proofs.lemmas.Bool.{eqb-true, eqb-false, eq-eqb}
use Rattle.std.proofs.lemmas.Option.{slice_get_within}
use Rattle.std.specs.Option.{option_or}
use Rattle.share_nodes.specs.Placings.{Placing, placing, times}
use Rattle.share_nodes.specs.Stores.{Move, Node, Objects, can_put, fresh, is_idle, is_own, moved, put, read, stored, told}
use Rattle.share_nodes.specs.Stores.{Get, Put, Late, Fail, Publish, Crash, Restart, Write}
use Rattle.share_nodes.proofs.Lists.{times_other, times_same}

-- the object of a version is this commit
pub record Has {C : Type 0} (m : Objects C) (v : ℕ) (c : C) : Type 0 where
  pub one : Placing C
  pub there : m v ≡ Some one
  pub same : one.commit ≡ c

pub record Own {C : Type 0} (m : Objects C) (k v : ℕ) : Type 0 where
  pub commit : C
  pub own : m v ≡ Some (placing k commit)

-- What a node has published is the store's. What it was told is stored is its own, next, and not acknowledged yet. What it has acknowledged is its own, once, and nothing below is absent.
pub record IsKept {C : Type 0} (m : Objects C) (k : ℕ) (x : Node C) : Type 0 where
  pub stands : (v : ℕ) (c : C) → slice_get x.published v ≡ Some c → Has m v c
  pub down : x.up ≡ false → (x.published ≡ []) × (x.pending ≡ None)
  pub next : (c : C) → x.pending ≡ Some c → m (length x.published) ≡ Some (placing k c)
  pub quiet : (c : C) → x.pending ≡ Some c → times (length x.published) x.acknowledged ≡ 0
  pub told : (v : ℕ) → 0 < times v x.acknowledged → Own m k v
  pub below : (v u : ℕ) → 0 < times v x.acknowledged → u ≤ v → IsSome (m u)
  pub once : (v : ℕ) → times v x.acknowledged ≤ 1

-- ---- objects

-- what was there is there
pub record Keeps {C : Type 0} (m n : Objects C) : Type 0 where
  pub stays : (v : ℕ) (p : Placing C) → m v ≡ Some p → n v ≡ Some p

idle_is : (u p : Bool) → (u && p) ≡ true → (u ≡ true) × (p ≡ true)
idle_is true p e = (refl, e)
idle_is false p e = absurd cc

none_is : {X : Type 0} (o : Option X) → is_none o ≡ true → o ≡ None
none_is None e = refl
none_is (Some x) e = absurd cc

some_some : {X : Type 0} (o : Option X) (x : X) → o ≡ Some x → IsSome o
some_some None x e = absurd cc
some_some (Some y) x e = refl

some_of : {X : Type 0} (o : Option X) → IsSome o → (x : X) × (o ≡ Some x)
some_of None s = absurd cc
some_of (Some x) s = (x, refl)

snoc_cases : {X : Type 0} (xs : List X) (y : X) (i : ℕ) (z : X) → slice_get (xs ++ y ∷ []) i ≡ Some z → (slice_get xs i ≡ Some z) ⊎ ((i ≡ length xs) × (y ≡ z))
snoc_cases [] y zero z e = inr (refl, cc)
snoc_cases [] y (suc i) z e = absurd cc
snoc_cases (x ∷ xs) y zero z e = inl e
snoc_cases (x ∷ xs) y (suc i) z e = elim (snoc_cases xs y i z e) as (λ s. (slice_get xs i ≡ Some z) ⊎ ((suc i ≡ suc (length xs)) × (y ≡ z))) [ inl h ↦ inl h | inr h ↦ inr (ap (λ k. suc k) h.0, h.1) ]

got : {X : Type 0} (xs : List X) (u : ℕ) → u < length xs → slice_get xs u ≡ None → ⊥
got [] u less e = omega (arith, less)
got (x ∷ xs) zero less e = cc
got (x ∷ xs) (suc u) less e = got xs u (omega (arith, less)) e

length_end : {X : Type 0} (xs : List X) (y : X) → length (xs ++ y ∷ []) ≡ length xs + 1
length_end xs y = length-append xs (y ∷ [])

module _ {C : Type 0} where
  first_some : (o : Option (Placing C)) (p q : Placing C) → o ≡ Some p → option_or o (Some q) ≡ Some p
  first_some None p q e = absurd cc
  first_some (Some x) p q e = e

  put_case : (m : Objects C) (n v : ℕ) (p q : Placing C) → m v ≡ Some p → (b : Bool) → (if b then option_or (m v) (Some q) else m v) ≡ Some p
  put_case m n v p q e true = first_some (m v) p q e
  put_case m n v p q e false = e

  pub put_keeps : (m : Objects C) (n : ℕ) (q : Placing C) → Keeps m (put m n q)
  put_keeps m n q = record { stays = λ v p e. put_case m n v p q e (v == n) }

  put_there : (m : Objects C) (n : ℕ) (q : Placing C) → m n ≡ None → put m n q n ≡ Some q
  put_there m n q e = rw (eq-eqb n n refl, e) refl

  same_keeps : (m : Objects C) → Keeps m m
  same_keeps m = record { stays = λ v p e. e }

  cond_keeps : (m n : Objects C) (b : Bool) → Keeps m n → Keeps m (if b then n else m)
  cond_keeps m n true h = h
  cond_keeps m n false h = same_keeps m

  pub stored_keeps : (m : Objects C) (k : ℕ) (x : Node C) (a : Move C) → Keeps m (stored m k x a)
  stored_keeps m k x Get = same_keeps m
  stored_keeps m k x (Put c) = cond_keeps m (put m (length x.published) (placing k c)) (can_put m x) (put_keeps m (length x.published) (placing k c))
  stored_keeps m k x (Late c) = cond_keeps m (put m (length x.published) (placing k c)) (is_idle x) (put_keeps m (length x.published) (placing k c))
  stored_keeps m k x Fail = same_keeps m
  stored_keeps m k x Publish = same_keeps m
  stored_keeps m k x Crash = same_keeps m
  stored_keeps m k x Restart = same_keeps m
  stored_keeps m k x (Write n c) = put_keeps m n (placing k c)

  pub some_keeps : (m n : Objects C) (v : ℕ) → Keeps m n → IsSome (m v) → IsSome (n v)
  some_keeps m n v h s = let (p, e) = some_of (m v) s in some_some (n v) p (h.stays v p e)

  -- ---- a node, as the store gets more

  pub kept_more : (m n : Objects C) (k : ℕ) (x : Node C) → Keeps m n → IsKept m k x → IsKept n k x
  kept_more m n k x h i = record {
    stands = λ v c e. let s = i.stands v c e in record { one = s.one; there = h.stays v s.one s.there; same = s.same };
    down = i.down;
    next = λ c e. h.stays (length x.published) (placing k c) (i.next c e);
    quiet = i.quiet;
    told = λ v e. let s = i.told v e in record { commit = s.commit; own = h.stays v (placing k s.commit) s.own };
    below = λ v u e l. some_keeps m n u h (i.below v u e l);
    once = i.once;
  }

  pub fresh_kept : (m : Objects C) (k : ℕ) → IsKept m k fresh
  fresh_kept m k = record {
    stands = λ v c e. absurd (omega (arith, slice_get_within [] v c e));
    down = λ e. (refl, refl);
    next = λ c e. absurd cc;
    quiet = λ c e. absurd cc;
    told = λ v e. absurd (omega (arith, e));
    below = λ v u e l. absurd (omega (arith, e));
    once = λ v. omega arith;
  }

  -- ---- what a node does

  stands_end : (m : Objects C) (k : ℕ) (x : Node C) (p : Placing C) → IsKept m k x → m (length x.published) ≡ Some p → (v : ℕ) (c : C) → slice_get (x.published ++ p.commit ∷ []) v ≡ Some c → Has m v c
  stands_end m k x p i there v c e = elim (snoc_cases x.published p.commit v c e) as (λ s. Has m v c) [
    | inl h ↦ i.stands v c h
    | inr h ↦ record { one = p; there = ap m h.0 ∙ there; same = h.1 }
  ]

  read_kept : (m : Objects C) (k : ℕ) (x : Node C) → IsKept m k x → x.pending ≡ None → x.up ≡ true → (o : Option (Placing C)) → m (length x.published) ≡ o → IsKept m k (read x o)
  read_kept m k x i free runs None e = i
  read_kept m k x i free runs (Some p) e = record {
    stands = stands_end m k x p i e;
    down = λ d. absurd (let z = runs in cc);
    next = λ c q. absurd (let z = free in cc);
    quiet = λ c q. absurd (let z = free in cc);
    told = i.told;
    below = i.below;
    once = i.once;
  }

  free_of : (x : Node C) → is_idle x ≡ true → x.pending ≡ None
  free_of x e = none_is x.pending (idle_is x.up (is_none x.pending) e).1

  get_kept : (m : Objects C) (k : ℕ) (x : Node C) → IsKept m k x → (b : Bool) → is_idle x ≡ b → IsKept m k (if b then read x (m (length x.published)) else x)
  get_kept m k x i false e = i
  get_kept m k x i true e = read_kept m k x i (free_of x e) (idle_is x.up (is_none x.pending) e).0 (m (length x.published)) refl

  none_there : (m : Objects C) (k v : ℕ) (x : Node C) → IsKept m k x → m v ≡ None → (n : ℕ) → times v x.acknowledged ≡ n → n ≡ 0
  none_there m k v x i absent zero e = refl
  none_there m k v x i absent (suc n) e = absurd (let o = (i.told v (omega (arith, e))).own in let z = absent in cc)

  put_kept : (m : Objects C) (k : ℕ) (c : C) (x : Node C) → IsKept m k x → (b : Bool) → can_put m x ≡ b
      → IsKept (if b then put m (length x.published) (placing k c) else m) k (if b then record { up = x.up; published = x.published; pending = Some c; acknowledged = x.acknowledged } else x)
  put_kept m k c x i false e = i
  put_kept m k c x i true e =
      let n : ℕ = length x.published in
      let absent : m n ≡ None = none_is (m n) (idle_is (is_idle x) (is_none (m n)) e).1 in
      let more = kept_more m (put m n (placing k c)) k x (put_keeps m n (placing k c)) i in
      record {
        stands = more.stands;
        down = λ d. absurd (let z = (idle_is x.up (is_none x.pending) (idle_is (is_idle x) (is_none (m n)) e).0).0 in cc);
        next = λ d q. put_there m n (placing k c) absent ∙ ap (λ (y : C). Some (placing k y)) (let z = q in cc);
        quiet = λ d q. none_there m k n x i absent (times n x.acknowledged) refl;
        told = more.told;
        below = more.below;
        once = more.once;
      }

  -- all that is published is there
  published_there : (m : Objects C) (k : ℕ) (x : Node C) → IsKept m k x → (u : ℕ) (o : Option C) → slice_get x.published u ≡ o → u < length x.published → IsSome (m u)
  published_there m k x i u (Some c) e less = let h = i.stands u c e in some_some (m u) h.one h.there
  published_there m k x i u None e less = absurd (got x.published u less e)

  all_there : (m : Objects C) (k : ℕ) (x : Node C) → IsKept m k x → (u : ℕ) → u < length x.published → IsSome (m u)
  all_there m k x i u less = published_there m k x i u (slice_get x.published u) refl less

  up_to : (m : Objects C) (n u : ℕ) → ((w : ℕ) → w < n → IsSome (m w)) → IsSome (m n) → u ≤ n → (b : Bool) → u == n ≡ b → IsSome (m u)
  up_to m n u all at le true e = subst (λ (w : ℕ). IsSome (m w)) (sym (eqb-true u n e)) at
  up_to m n u all at le false e = all u (omega (arith, le, eqb-false u n e))

  told_by : (m : Objects C) (k v : ℕ) (c : C) (x : Node C) → IsKept m k x → x.pending ≡ Some c → 0 < times v (x.acknowledged ++ length x.published ∷ []) → (b : Bool) → length x.published == v ≡ b → Own m k v
  told_by m k v c x i p n true e = record { commit = c; own = subst (λ (w : ℕ). m w ≡ Some (placing k c)) (eqb-true (length x.published) v e) (i.next c p) }
  told_by m k v c x i p n false e = i.told v (subst (λ (w : ℕ). 0 < w) (times_other v (length x.published) x.acknowledged e) n)

  below_by : (m : Objects C) (k v u : ℕ) (c : C) (x : Node C) → IsKept m k x → x.pending ≡ Some c → 0 < times v (x.acknowledged ++ length x.published ∷ []) → u ≤ v → (b : Bool) → length x.published == v ≡ b → IsSome (m u)
  below_by m k v u c x i p n le true e =
      let at : length x.published ≡ v = eqb-true (length x.published) v e in
      up_to m (length x.published) u (all_there m k x i) (some_some (m (length x.published)) (placing k c) (i.next c p)) (omega (arith, le, at)) (u == length x.published) refl
  below_by m k v u c x i p n le false e = i.below v u (subst (λ (w : ℕ). 0 < w) (times_other v (length x.published) x.acknowledged e) n) le

  once_by : (m : Objects C) (k v : ℕ) (c : C) (x : Node C) → IsKept m k x → x.pending ≡ Some c → (b : Bool) → length x.published == v ≡ b → times v (x.acknowledged ++ length x.published ∷ []) ≤ 1
  once_by m k v c x i p true e =
      let at : length x.published ≡ v = eqb-true (length x.published) v e in
      let none : times v x.acknowledged ≡ 0 = ap (λ (n : ℕ). times n x.acknowledged) (sym at) ∙ i.quiet c p in
      omega (arith, times_same v (length x.published) x.acknowledged at, none)
  once_by m k v c x i p false e = omega (arith, times_other v (length x.published) x.acknowledged e, i.once v)

  told_kept : (m : Objects C) (k : ℕ) (x : Node C) → IsKept m k x → (o : Option C) → x.pending ≡ o → IsKept m k (told x o)
  told_kept m k x i None e = i
  told_kept m k x i (Some c) e = record {
    stands = stands_end m k x (placing k c) i (i.next c e);
    down = λ d. absurd (let z = (i.down d).1 in cc);
    next = λ d q. absurd cc;
    quiet = λ d q. absurd cc;
    told = λ v n. told_by m k v c x i e n (length x.published == v) refl;
    below = λ v u n le. below_by m k v u c x i e n le (length x.published == v) refl;
    once = λ v. once_by m k v c x i e (length x.published == v) refl;
  }

  crash_kept : (m : Objects C) (k : ℕ) (x : Node C) → IsKept m k x → IsKept m k (record { up = false; published = []; pending = None; acknowledged = x.acknowledged })
  crash_kept m k x i = record {
    stands = λ v c e. absurd (omega (arith, slice_get_within [] v c e));
    down = λ e. (refl, refl);
    next = λ c e. absurd cc;
    quiet = λ c e. absurd cc;
    told = i.told;
    below = i.below;
    once = i.once;
  }

  restart_kept : (m : Objects C) (k : ℕ) (x : Node C) → IsKept m k x → IsKept m k (record { up = true; published = x.published; pending = x.pending; acknowledged = x.acknowledged })
  restart_kept m k x i = record { stands = i.stands; down = λ e. absurd cc; next = i.next; quiet = i.quiet; told = i.told; below = i.below; once = i.once }

  pub moved_kept : (m : Objects C) (k : ℕ) (x : Node C) (a : Move C) → IsKept m k x → IsKept (stored m k x a) k (moved m x a)
  moved_kept m k x Get i = get_kept m k x i (is_idle x) refl
  moved_kept m k x (Put c) i = put_kept m k c x i (can_put m x) refl
  moved_kept m k x (Late c) i = kept_more m (stored m k x (Late c)) k x (stored_keeps m k x (Late c)) i
  moved_kept m k x Fail i = i
  moved_kept m k x Publish i = told_kept m k x i x.pending refl
  moved_kept m k x Crash i = crash_kept m k x i
  moved_kept m k x Restart i = restart_kept m k x i
  moved_kept m k x (Write n c) i = kept_more m (put m n (placing k c)) k x (put_keeps m n (placing k c)) i

  -- ---- no gap

  pub record NoGap (m : Objects C) : Type 0 where
    pub below : (u v : ℕ) → u ≤ v → IsSome (m v) → IsSome (m u)

  some_first : (o : Option (Placing C)) (q : Placing C) → IsSome (option_or o (Some q))
  some_first None q = refl
  some_first (Some p) q = refl

  put_end : (m : Objects C) (n : ℕ) (q : Placing C) → IsSome (put m n q n)
  put_end m n q = rw (eq-eqb n n refl) (some_first (m n) q)

  gap_by : (m : Objects C) (n : ℕ) (q : Placing C) → NoGap m → ((w : ℕ) → w < n → IsSome (m w)) → (u v : ℕ) → u ≤ v → (b : Bool) → v == n ≡ b → IsSome (if b then option_or (m v) (Some q) else m v) → IsSome (put m n q u)
  gap_by m n q g all u v le true e s =
      up_to (put m n q) n u (λ w less. some_keeps m (put m n q) w (put_keeps m n q) (all w less)) (put_end m n q) (omega (arith, le, eqb-true v n e)) (u == n) refl
  gap_by m n q g all u v le false e s = some_keeps m (put m n q) u (put_keeps m n q) (g.below u v le s)

  put_gap : (m : Objects C) (n : ℕ) (q : Placing C) → NoGap m → ((w : ℕ) → w < n → IsSome (m w)) → NoGap (put m n q)
  put_gap m n q g all = record { below = λ u v le s. gap_by m n q g all u v le (v == n) refl s }

  cond_gap : (m n : Objects C) (b : Bool) → NoGap m → NoGap n → NoGap (if b then n else m)
  cond_gap m n true g h = h
  cond_gap m n false g h = g

  pub stored_gap : (m : Objects C) (k : ℕ) (x : Node C) (a : Move C) → IsKept m k x → is_own a ≡ true → NoGap m → NoGap (stored m k x a)
  stored_gap m k x Get i o g = g
  stored_gap m k x (Put c) i o g = cond_gap m (put m (length x.published) (placing k c)) (can_put m x) g (put_gap m (length x.published) (placing k c) g (all_there m k x i))
  stored_gap m k x (Late c) i o g = cond_gap m (put m (length x.published) (placing k c)) (is_idle x) g (put_gap m (length x.published) (placing k c) g (all_there m k x i))
  stored_gap m k x Fail i o g = g
  stored_gap m k x Publish i o g = g
  stored_gap m k x Crash i o g = g
  stored_gap m k x Restart i o g = g
  stored_gap m k x (Write n c) i o g = absurd cc
