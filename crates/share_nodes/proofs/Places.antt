-- Nodes by their places.
use Rattle.std.proofs.Common.{◌≡◌, ℕ, ◌+◌, ◌<◌, ◌≤◌, ◌==◌, List, [], ◌∷◌, ◌++◌, length, Bool, true, false, zero, suc, refl, ap, arith, if◌then◌else◌, get_or, set}
use Rattle.std.proofs.lemmas.Bool.{eqb-true, eq-eqb}
use Rattle.share_nodes.specs.Code.{place_in}
use Rattle.share_nodes.specs.Steps.{Named, Node, fresh, node_in, with_node}

abbrev named : ℕ → Node → Named
named k x = record { number = k; node = x }

place_by : (k : ℕ) (n : Named) (ns : List Named) → place_in k ns ≤ length ns → (b : Bool) → n.number == k ≡ b → (if b then 0 else place_in k ns + 1) ≤ length (n ∷ ns)
place_by k n ns h true e = omega arith
place_by k n ns h false e = omega (arith, h)

pub place_within : (k : ℕ) (ns : List Named) → place_in k ns ≤ length ns
place_within k [] = omega arith
place_within k (n ∷ ns) = place_by k n ns (place_within k ns) (n.number == k) refl

-- what stands at its place
pub record AtPlace (k : ℕ) (ns : List Named) (i : ℕ) : Type 0 where
  pub number : (d : Named) → (get_or ns i d).number ≡ k
  pub node : (d : Named) → (get_or ns i d).node ≡ node_in k ns
  pub sets : (x : Node) → set ns i (named k x) ≡ with_node k x ns

at_by : (k : ℕ) (n : Named) (ns : List Named) (i : ℕ) (b : Bool) → n.number == k ≡ b → i ≡ (if b then 0 else place_in k ns + 1) → i < length (n ∷ ns)
    → ((j : ℕ) → j ≡ place_in k ns → j < length ns → AtPlace k ns j) → AtPlace k (n ∷ ns) i
at_by k n ns zero true e at less later = record {
  number = λ d. eqb-true n.number k e;
  node = λ d. rw e refl;
  sets = λ x. rw e refl;
}
at_by k n ns (suc i) true e at less later = absurd (omega (arith, at))
at_by k n ns zero false e at less later = absurd (omega (arith, at))
at_by k n ns (suc i) false e at less later =
    let rest : AtPlace k ns i = later i (omega (arith, at)) (omega (arith, less)) in
    record {
      number = rest.number;
      node = λ d. rw e (rest.node d);
      sets = λ x. rw e (ap (λ (l : List Named). n ∷ l) (rest.sets x));
    }

pub at_place : (k : ℕ) (ns : List Named) (i : ℕ) → i ≡ place_in k ns → i < length ns → AtPlace k ns i
at_place k [] i at less = absurd (omega (arith, less))
at_place k (n ∷ ns) i at less = at_by k n ns i (n.number == k) refl at less (at_place k ns)

-- a node that no step named stands behind the others
pub record Behind (k : ℕ) (ns : List Named) : Type 0 where
  pub place : place_in k (ns ++ named k fresh ∷ []) ≡ length ns
  pub node : node_in k (ns ++ named k fresh ∷ []) ≡ node_in k ns
  pub sets : (x : Node) → with_node k x (ns ++ named k fresh ∷ []) ≡ with_node k x ns

behind_by : (k : ℕ) (n : Named) (ns : List Named) (b : Bool) → n.number == k ≡ b → (if b then 0 else place_in k ns + 1) ≡ length (n ∷ ns) → (place_in k ns ≡ length ns → Behind k ns) → Behind k (n ∷ ns)
behind_by k n ns true e at later = absurd (omega (arith, at))
behind_by k n ns false e at later =
    let rest : Behind k ns = later (omega (arith, at)) in
    record {
      place = rw e (omega (arith, rest.place));
      node = rw e rest.node;
      sets = λ x. rw e (ap (λ (l : List Named). n ∷ l) (rest.sets x));
    }

pub behind : (k : ℕ) (ns : List Named) → place_in k ns ≡ length ns → Behind k ns
behind k [] at = record { place = rw (eq-eqb k k refl) refl; node = rw (eq-eqb k k refl) refl; sets = λ x. rw (eq-eqb k k refl) refl }
behind k (n ∷ ns) at = behind_by k n ns (n.number == k) refl at (behind k ns)
