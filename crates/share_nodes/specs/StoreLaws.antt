-- What holds of nodes over a store of objects, of which calls fail and to which others write.
use Rattle.std.specs.Prelude.{◌≡◌, ◌⊎◌, ℕ, ◌<◌, ◌≤◌, ◌==◌, List, ◌∷◌, ◌++◌, All, true, false, Some, IsSome, length, option_map, slice_get}
use Rattle.std.specs.List.{count_by}
use mathlib.Core.List.{IsPrefix}
use Rattle.share_nodes.specs.Placings.{Placing, commit_of, placing, times}
use Rattle.share_nodes.specs.Stores.{Get, Restart, Step, World, is_own, world_of}

-- that node has acknowledged that version
abbrev pub Acknowledged : {C : Type 0} → World C → ℕ → ℕ → Type 0
Acknowledged w k v = 0 < times v (w.nodes k).acknowledged

-- All nodes have one log, whatever steps were made.
pub record HaveOneLog (C : Type 0) : Type 0 where
  -- each version that a node has published is the store's
  pub published : (steps : List (Step C)) (k v : ℕ) (c : C) → slice_get ((world_of steps).nodes k).published v ≡ Some c → option_map commit_of ((world_of steps).objects v) ≡ Some c
  -- of two nodes one has published a beginning of what the other has
  pub one : (steps : List (Step C)) (k m : ℕ) → IsPrefix ((world_of steps).nodes k).published ((world_of steps).nodes m).published ⊎ IsPrefix ((world_of steps).nodes m).published ((world_of steps).nodes k).published
  -- what was stored stays
  pub stays : (steps more : List (Step C)) (v : ℕ) (p : Placing C) → (world_of steps).objects v ≡ Some p → (world_of (steps ++ more)).objects v ≡ Some p
  -- a version that a node acknowledged is the commit that this node put there
  pub own : (steps : List (Step C)) (k v : ℕ) → Acknowledged (world_of steps) k v → (c : C) × ((world_of steps).objects v ≡ Some (placing k c))
  -- and no version below it is absent, whatever others wrote
  pub below : (steps : List (Step C)) (k v u : ℕ) → Acknowledged (world_of steps) k v → u ≤ v → IsSome ((world_of steps).objects u)
  -- a version is acknowledged by one node at most
  pub by_one : (steps : List (Step C)) (k m v : ℕ) → Acknowledged (world_of steps) k v → Acknowledged (world_of steps) m v → k ≡ m
  -- and once
  pub once : (steps : List (Step C)) (k v : ℕ) → times v ((world_of steps).nodes k).acknowledged ≤ 1
  -- where nobody else writes, no version below one that is there is absent
  pub gapless : (steps : List (Step C)) (u v : ℕ) → All (λ s. is_own s.move ≡ true) steps → u ≤ v → IsSome ((world_of steps).objects v) → IsSome ((world_of steps).objects u)
  -- A node that crashed, starts again and gets on has published each version that was acknowledged before, whoever acknowledged it, and whatever the others do meanwhile.
  pub found : (steps more : List (Step C)) (k m v : ℕ) → ((world_of steps).nodes k).up ≡ false → Acknowledged (world_of steps) m v
      → All (λ s. s.node ≡ k → s.move ≡ Get) more → v < count_by (λ s. s.node == k) more
      → v < length ((world_of (steps ++ record { node = k; move = Restart } ∷ more)).nodes k).published
