-- What a node's reads, its placing and its publishing leave.
use Rattle.std.proofs.Common.{◌≡◌, ℕ, zero, suc, ◌+◌, ◌<◌, ◌≤◌, List, [], ◌∷◌, ◌++◌, length, Bool, true, false, refl, sym, ap, ◌∙◌, arith, if◌then◌else◌, length-append}
use Rattle.std.proofs.lemmas.Bool.{eq-eqb, lt-ltb}
use Rattle.std.proofs.lemmas.List.{append-nil}
use Rattle.share_nodes.specs.Steps.{Move, Node, Place, Publish, Read, Step, World, after, can_place, can_read, moved, node_at, world_from, world_of}
use Rattle.share_nodes.specs.Steps as steps_of_nodes
use Rattle.share_nodes.proofs.Worlds.{from_append, in_own}
use Rattle.share_hub.specs.NodeCalls.{IsAt, PlacesLate, Went, place, puts, reads}

-- what it can do
can_read_at : (n : ℕ) (x : Node) → x.up ≡ true → x.pending ≡ false → x.published < n → can_read n x ≡ true
can_read_at n x up idle less = rw (up, idle, lt-ltb x.published n less) refl

can_place_at : (n : ℕ) (x : Node) → x.up ≡ true → x.pending ≡ false → x.published ≡ n → can_place n x ≡ true
can_place_at n x up idle at = rw (up, idle, eq-eqb x.published n at) refl

module _ {C : Type 0} where
  abbrev step : ℕ → Move C → Step C
  step k m = record { node = k; move = m }

  -- the node that moves
  moved_node : (w : World C) (k : ℕ) (m : Move C) → node_at (after w (step k m)) k ≡ moved (length w.store) (node_at w k) m
  moved_node w k m = in_own k (moved (length w.store) (node_at w k) m) w.nodes

-- ---- reads

-- the node has taken over so many more
pub record HasRead {C : Type 0} (w later : World C) (k n : ℕ) : Type 0 where
  pub store : later.store ≡ w.store
  pub up : (node_at later k).up ≡ true
  pub idle : (node_at later k).pending ≡ false
  pub published : (node_at later k).published ≡ (node_at w k).published + n
  pub acknowledged : (node_at later k).acknowledged ≡ (node_at w k).acknowledged

module _ {C : Type 0} where
  read_one : (w : World C) (k : ℕ) → (node_at w k).up ≡ true → (node_at w k).pending ≡ false → (node_at w k).published < length w.store → HasRead w (after w (step k Read)) k 1
  read_one w k up idle less =
      let x : Node = node_at w k in
      let now : node_at (after w (step k Read)) k ≡ record x { published = x.published + 1 } =
      moved_node w k Read ∙ ap (λ (b : Bool). if b then record x { published = x.published + 1 } else x) (can_read_at (length w.store) x up idle less) in
      record {
        store = append-nil w.store;
        up = ap (λ (y : Node). y.up) now ∙ up;
        idle = ap (λ (y : Node). y.pending) now ∙ idle;
        published = ap (λ (y : Node). y.published) now;
        acknowledged = ap (λ (y : Node). y.acknowledged) now;
      }

  read_then : (w v u : World C) (k n : ℕ) → HasRead w v k 1 → HasRead v u k n → HasRead w u k (suc n)
  read_then w v u k n a b = record {
    store = b.store ∙ a.store;
    up = b.up;
    idle = b.idle;
    published = (let p = a.published in let q = b.published in omega arith);
    acknowledged = b.acknowledged ∙ a.acknowledged;
  }

  pub read_on : (n : ℕ) (w : World C) (k : ℕ) → (node_at w k).up ≡ true → (node_at w k).pending ≡ false → (node_at w k).published + n ≤ length w.store → HasRead w (world_from w (reads k n)) k n
  read_on zero w k up idle within = record { store = refl; up = up; idle = idle; published = omega arith; acknowledged = refl }
  read_on (suc n) w k up idle within =
      let v : World C = after w (step k Read) in
      let one : HasRead w v k 1 = read_one w k up idle (omega (arith, within)) in
      let long : length v.store ≡ length w.store = ap (λ (l : List C). length l) one.store in
      let left : (node_at v k).published + n ≤ length v.store = omega (arith, within, long, one.published) in
      read_then w v (world_from v (reads k n)) k n one (read_on n v k one.up one.idle left)

-- ---- a placing

-- the commit is placed, published and acknowledged
pub record HasPlaced {C : Type 0} (w later : World C) (k : ℕ) (c : C) : Type 0 where
  pub store : later.store ≡ w.store ++ c ∷ []
  pub up : (node_at later k).up ≡ true
  pub idle : (node_at later k).pending ≡ false
  pub published : (node_at later k).published ≡ length w.store + 1
  pub acknowledged : (node_at later k).acknowledged ≡ (node_at w k).acknowledged ++ length w.store ∷ []

module _ {C : Type 0} where
  placed_store : (w : World C) (k : ℕ) (c : C) → (node_at w k).up ≡ true → (node_at w k).pending ≡ false → (node_at w k).published ≡ length w.store → (after w (place k c)).store ≡ w.store ++ c ∷ []
  placed_store w k c up idle at = ap (λ (b : Bool). w.store ++ (if b then c ∷ [] else [])) (can_place_at (length w.store) (node_at w k) up idle at)

  place_on : (w : World C) (k : ℕ) (c : C) → (node_at w k).up ≡ true → (node_at w k).pending ≡ false → (node_at w k).published ≡ length w.store → HasPlaced w (world_from w (puts k (c ∷ []))) k c
  place_on w k c up idle at =
      let x : Node = node_at w k in
      let v : World C = after w (place k c) in
      let y : Node = record x { pending = true } in
      let u : World C = after v (step k Publish) in
      let mid : node_at v k ≡ y = moved_node w k (Place c) ∙ ap (λ (b : Bool). if b then record x { pending = true } else x) (can_place_at (length w.store) x up idle at) in
      let last : node_at u k ≡ record y { published = y.published + 1; pending = false; acknowledged = y.acknowledged ++ y.published ∷ [] } =
      moved_node v k Publish ∙ ap (λ (z : Node). moved {C = C} (length v.store) z Publish) mid in
      record {
        store = append-nil v.store ∙ placed_store w k c up idle at;
        up = ap (λ (z : Node). z.up) last ∙ up;
        idle = ap (λ (z : Node). z.pending) last;
        published = ap (λ (z : Node). z.published) last ∙ ap (λ (n : ℕ). n + 1) at;
        acknowledged = ap (λ (z : Node). z.acknowledged) last ∙ ap (λ (n : ℕ). x.acknowledged ++ n ∷ []) at;
      }

-- ---- a call's steps

module _ {C : Type 0} (w : World C) (k : ℕ) (log found : List C) (a : IsAt w k log) (all : w.store ≡ log ++ found) where
  abbrev mid : World C
  mid = world_from w (reads k (length found))

  -- what the call found is taken over
  taken_over : HasRead w mid k (length found)
  taken_over = read_on (length found) w k a.up a.idle (let p = a.published in let l = ap (λ (x : List C). length x) all in let n = length-append log found in omega arith)

  -- and nothing is placed
  pub read_at : (t : List C) → t ≡ log ++ found → Went w mid k t []
  read_at t is =
      let r = taken_over in
      let store : mid.store ≡ t = r.store ∙ all ∙ sym is in
      record {
        at = record {
          up = r.up;
          idle = r.idle;
          published = (let p = a.published in let q = r.published in let n = length-append log found in let m = ap (λ (x : List C). length x) is in omega arith);
          front = ([], append-nil t ∙ sym store);
        };
        all = store;
        acknowledged = r.acknowledged ∙ sym (append-nil (node_at w k).acknowledged);
      }

  -- or the next version is
  pub placed_at : (v : ℕ) (c : C) (t : List C) → v ≡ length (log ++ found) → t ≡ (log ++ found) ++ c ∷ [] → Went w (world_from mid (puts k (c ∷ []))) k t (v ∷ [])
  placed_at v c t at is =
      let r = taken_over in
      let later : World C = world_from mid (puts k (c ∷ [])) in
      let before : mid.store ≡ log ++ found = r.store ∙ all in
      let long : length mid.store ≡ length (log ++ found) = ap (λ (x : List C). length x) before in
      let full : (node_at mid k).published ≡ length mid.store = (let p = r.published in let q = a.published in let m = length-append log found in omega arith) in
      let p : HasPlaced mid later k c = place_on mid k c r.up r.idle full in
      let store : later.store ≡ t = p.store ∙ ap (λ (l : List C). l ++ c ∷ []) before ∙ sym is in
      record {
        at = record {
          up = p.up;
          idle = p.idle;
          published = (let q = p.published in let n = length-append (log ++ found) (c ∷ []) in let m = ap (λ (x : List C). length x) is in omega arith);
          front = ([], append-nil t ∙ sym store);
        };
        all = store;
        acknowledged = p.acknowledged ∙ (λ i. r.acknowledged i ++ (long ∙ sym at) i ∷ []);
      }

  -- the steps of a call that placed these
  pub call_world : (own : List C) → world_from w (reads k (length found) ++ puts k own) ≡ world_from mid (puts k own)
  call_world own = from_append w (reads k (length found)) (puts k own)

-- ---- a fault

module _ {C : Type 0} where
  pub placed_late : (steps : List (Step C)) (log : List C) (c : C) → (world_of steps).store ≡ log → PlacesLate steps log c
  placed_late steps log c all i is =
      let u : World C = world_of steps in
      let long : length u.store ≡ length log = ap (λ (x : List C). length x) all in
      let none : (node_at u i).published ≡ 0 = ap (λ (x : Node). x.published) is in
      let r = read_on (length log) u i (ap (λ (x : Node). x.up) is) (ap (λ (x : Node). x.pending) is) (omega (arith, long, none)) in
      let mid : World C = world_from u (reads i (length log)) in
      let full : (node_at mid i).published ≡ length mid.store = (let p = r.published in let s = ap (λ (x : List C). length x) r.store in omega arith) in
      ap (λ (x : World C). x.store) (from_append steps_of_nodes.nothing steps (reads i (length log) ++ place i c ∷ []) ∙ from_append u (reads i (length log)) (place i c ∷ []))
      ∙ placed_store mid i c r.up r.idle full ∙ ap (λ (l : List C). l ++ c ∷ []) (r.store ∙ all)
