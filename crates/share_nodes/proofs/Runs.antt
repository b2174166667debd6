-- Worlds of nodes as the code holds them.
use Rattle.std.proofs.Common.{◌≡◌, ℕ, ◌+◌, ◌<◌, List, [], ◌∷◌, ◌++◌, length, refl, sym, ap, ◌∙◌, arith, map, get_or, set, length-append, take, add-one}
use Rattle.std.proofs.lemmas.List.{length-map, map-append, map-set}
use Rattle.std.proofs.Math.ListN.{get_or-map}
use Rattle.std.proofs.Math.Seq.{take-suc}
use Rattle.std.specs.Result.{OnOk}
use Rattle.std.specs.Prelude.{Result, Ok, Err}
use Rattle.share_nodes.specs.Code.{named_of, node_of, place_in}
use Rattle.share_nodes.specs.Steps.{Named, Node, Step, World, after, fresh, moved, node_at, node_in, placed, with_node}
use Rattle.share_nodes.specs.declared.seat.Seat.{Seat}
use Rattle.share_nodes.proofs.Places.{AtPlace, Behind, at_place, behind, place_within}

-- a new node behind the others
pub record Pushed (k : ℕ) (old new : List Seat) : Type 0 where
  pub within : length old < length new
  pub place : place_in k (map named_of new) ≡ length old
  pub node : node_in k (map named_of new) ≡ node_in k (map named_of old)
  pub others : (x : Node) → with_node k x (map named_of new) ≡ with_node k x (map named_of old)

pub pushed : (k : ℕ) (old new : List Seat) (s : Seat) → new ≡ old ++ s ∷ [] → node_of s ≡ fresh → s.number ≡ k → place_in k (map named_of old) ≡ length old → Pushed k old new
pushed k old new s items node number at =
    let one : named_of s ≡ record { number = k; node = fresh } = λ i. record { number = number i; node = node i } in
    let all : map named_of new ≡ map named_of old ++ record { number = k; node = fresh } ∷ [] =
    ap (λ (l : List Seat). map named_of l) items ∙ map-append named_of old (s ∷ []) ∙ ap (λ (n : Named). map named_of old ++ n ∷ []) one in
    let b : Behind k (map named_of old) = behind k (map named_of old) (at ∙ sym (length-map old named_of)) in
    record {
      within = omega (arith, ap (λ (l : List Seat). length l) items, length-append old (s ∷ []));
      place = ap (place_in k) all ∙ b.place ∙ length-map old named_of;
      node = ap (node_in k) all ∙ b.node;
      others = λ x. ap (with_node k x) all ∙ b.sets x;
    }

pub found_within : (k : ℕ) (old : List Seat) (i : ℕ) → i ≡ place_in k (map named_of old) → (i ≡ length old → ⊥) → i < length old
found_within k old i at other = omega (arith, at, place_within k (map named_of old), length-map old named_of, other)

-- the node at its place
pub seat_is : (k : ℕ) (seats : List Seat) (i : ℕ) (d : Seat) → i < length seats → i ≡ place_in k (map named_of seats) → node_of (get_or seats i d) ≡ node_in k (map named_of seats)
seat_is k seats i d less at =
    let a : AtPlace k (map named_of seats) i = at_place k (map named_of seats) i at (omega (arith, less, length-map seats named_of)) in
    ap (λ (n : Named). n.node) (sym (get_or-map named_of seats i d)) ∙ a.node (named_of d)

pub seat_numbered : (k : ℕ) (seats : List Seat) (i : ℕ) (d : Seat) → i < length seats → i ≡ place_in k (map named_of seats) → (get_or seats i d).number ≡ k
seat_numbered k seats i d less at =
    let a : AtPlace k (map named_of seats) i = at_place k (map named_of seats) i at (omega (arith, less, length-map seats named_of)) in
    ap (λ (n : Named). n.number) (sym (get_or-map named_of seats i d)) ∙ a.number (named_of d)

pub seat_set : (k : ℕ) (seats : List Seat) (i : ℕ) (s : Seat) (x : Node) → i < length seats → i ≡ place_in k (map named_of seats) → s.number ≡ k → node_of s ≡ x
    → map named_of (set seats i s) ≡ with_node k x (map named_of seats)
seat_set k seats i s x less at number node =
    let a : AtPlace k (map named_of seats) i = at_place k (map named_of seats) i at (omega (arith, less, length-map seats named_of)) in
    let one : named_of s ≡ record { number = k; node = x } = λ i. record { number = number i; node = node i } in
    map-set named_of seats i s ∙ ap (λ (n : Named). set (map named_of seats) i n) one ∙ a.sets x

-- one step
pub stepped : {C : Type 0} (w now : World C) (s : Step C) (mid : List Named) → now.store ≡ w.store ++ placed (length w.store) (node_at w s.node) s.move
    → node_in s.node mid ≡ node_in s.node w.nodes → ((x : Node) → with_node s.node x mid ≡ with_node s.node x w.nodes)
    → now.nodes ≡ with_node s.node (moved (length w.store) (node_in s.node mid) s.move) mid → now ≡ after w s
stepped w now s mid store node others nodes =
    let all : now.nodes ≡ with_node s.node (moved (length w.store) (node_at w s.node) s.move) w.nodes =
    nodes ∙ ap (λ (x : Node). with_node s.node (moved (length w.store) x s.move) mid) node ∙ others (moved (length w.store) (node_at w s.node) s.move) in
    λ i. record { store = store i; nodes = all i }

pub on_ok : {X E : Type 0} {P Q : Type 0} (r : Result X E) → (P → Q) → OnOk r P → OnOk r Q
on_ok (Ok x) f h = f h
on_ok (Err e) f h = h

taken_all : {X : Type 0} (xs ys : List X) → take (length xs) (xs ++ ys) ≡ xs
taken_all [] ys = refl
taken_all (x ∷ xs) ys = ap (λ l. x ∷ l) (taken_all xs ys)

pub taken : {X : Type 0} (n : ℕ) (xs ys : List X) → length xs ≡ n → take n (xs ++ ys) ≡ xs
taken n xs ys e = ap (λ (k : ℕ). take k (xs ++ ys)) (sym e) ∙ taken_all xs ys

pub take_next : {X : Type 0} (xs : List X) (i : ℕ) (x : X) → i < length xs → x ≡ get_or xs i x → take (i + 1) xs ≡ take i xs ++ x ∷ []
take_next xs i x less is = rw (add-one i) (take-suc xs i x less ∙ ap (λ y. take i xs ++ y ∷ []) (sym is))
