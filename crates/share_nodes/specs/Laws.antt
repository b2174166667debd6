-- What holds of nodes over one log.
use Rattle.std.specs.Prelude.{◌≡◌, ℕ, ◌<◌, ◌≤◌, List, [], ◌∷◌, ◌++◌, false, Some, length, map, slice_get}
use mathlib.Core.List.{IsPrefix}
use Rattle.share_nodes.specs.Placings.{commit_of, placing, times}
use Rattle.share_nodes.specs.Steps.{Named, Restart, Step, World, node_at, placings, world_of}

-- that node has acknowledged that version
abbrev pub Acknowledged : {C : Type 0} → World C → ℕ → ℕ → Type 0
Acknowledged w k v = 0 < times v (node_at w k).acknowledged

-- what these nodes acknowledged, all together
abbrev pub all_acknowledged : List Named → List ℕ
all_acknowledged [] = []
all_acknowledged (n ∷ ns) = n.node.acknowledged ++ all_acknowledged ns

-- What was acknowledged stands, whatever steps were made.
pub record AcknowledgedStand (C : Type 0) : Type 0 where
  -- the log is what was placed, in that order: no version is left out or taken twice
  pub gapless : (steps : List (Step C)) → (world_of steps).store ≡ map commit_of (placings steps)
  -- what was stored stays, at its version
  pub grows : (steps more : List (Step C)) → IsPrefix (world_of steps).store (world_of (steps ++ more)).store
  -- no node has published more than is stored
  pub published : (steps : List (Step C)) (k : ℕ) → (node_at (world_of steps) k).published ≤ length (world_of steps).store
  -- a version that a node acknowledged is the commit that this node placed there
  pub own : (steps : List (Step C)) (k v : ℕ) → Acknowledged (world_of steps) k v → (c : C) × (slice_get (placings steps) v ≡ Some (placing k c)) × (slice_get (world_of steps).store v ≡ Some c)
  -- a version is acknowledged by one node at most
  pub by_one : (steps : List (Step C)) (k m v : ℕ) → Acknowledged (world_of steps) k v → Acknowledged (world_of steps) m v → k ≡ m
  -- and once: all acknowledged versions, of all nodes together, differ
  pub once : (steps : List (Step C)) (v : ℕ) → times v (all_acknowledged (world_of steps).nodes) ≤ 1
  -- a node that starts again publishes each version that was acknowledged before, whoever acknowledged it
  pub found : (steps : List (Step C)) (k m v : ℕ) → (node_at (world_of steps) k).up ≡ false → Acknowledged (world_of steps) m v
      → v < (node_at (world_of (steps ++ record { node = k; move = Restart } ∷ [])) k).published
