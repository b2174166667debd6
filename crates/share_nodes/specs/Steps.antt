-- Nodes: servers over one store, each of which reads one log and adds to it (Delta Lake PROTOCOL.md, "Delta Log Entries"). The store has that log; nodes know of it what they read.
use Rattle.std.specs.Prelude.{ℕ, ◌+◌, ◌==◌, ◌&&◌, Bool, true, false, not, List, [], ◌∷◌, ◌++◌, length, map, nat_lt, if◌then◌else◌}
use Rattle.share_nodes.specs.Placings.{Placing, placing}

-- What a node does: it takes over the next stored commit; places one as the next version; publishes and acknowledges what it placed; crashes; starts again.
pub data Move (C : Type 0) : Type 0 where
  Read : Move C
  Place : C → Move C
  Publish : Move C
  Crash : Move C
  Restart : Move C

pub record Step (C : Type 0) : Type 0 where
  pub node : ℕ
  pub move : Move C

-- A node: whether it runs, how many versions it has published, whether it has placed the next one and not published it yet, and which it acknowledged.
pub record Node : Type 0 where
  pub up : Bool
  pub published : ℕ
  pub pending : Bool
  pub acknowledged : List ℕ

-- a node that has done nothing yet
abbrev pub fresh : Node
fresh = record { up = true; published = 0; pending = false; acknowledged = [] }

abbrev pub is_idle : Node → Bool
is_idle x = x.up && not x.pending

-- it takes over a version that it hasn't published, of a log of n versions
abbrev pub can_read : ℕ → Node → Bool
can_read n x = is_idle x && nat_lt x.published n

-- it places the next version where it has published all; else its put finds that version taken
abbrev pub can_place : ℕ → Node → Bool
can_place n x = is_idle x && x.published == n

abbrev pub published_one : Node → Node
published_one x = record x { published = x.published + 1; pending = false; acknowledged = x.acknowledged ++ x.published ∷ [] }

-- The node after its move, over a log of n versions. A crash takes away what it published, and not what it acknowledged. A move that it can't make changes nothing.
abbrev pub moved : {C : Type 0} → ℕ → Node → Move C → Node
moved n x Read = if can_read n x then record x { published = x.published + 1 } else x
moved n x (Place c) = if can_place n x then record x { pending = true } else x
moved n x Publish = if x.pending then published_one x else x
moved n x Crash = record x { up = false; published = 0; pending = false }
moved n x Restart = if x.up then x else record x { up = true; published = n }

-- the commit that its move adds to the log
abbrev pub placed : {C : Type 0} → ℕ → Node → Move C → List C
placed n x (Place c) = if can_place n x then c ∷ [] else []
placed n x _ = []

-- ---- worlds

pub record Named : Type 0 where
  pub number : ℕ
  pub node : Node

-- the log in the store, version 0 first, and the nodes, in the order in which steps first name them
pub record World (C : Type 0) : Type 0 where
  pub store : List C
  pub nodes : List Named

abbrev pub node_in : ℕ → List Named → Node
node_in k [] = fresh
node_in k (n ∷ ns) = if n.number == k then n.node else node_in k ns

abbrev pub node_at : {C : Type 0} → World C → ℕ → Node
node_at w k = node_in k w.nodes

-- that node stands so, at its place, or behind the others where no step named it
abbrev pub with_node : ℕ → Node → List Named → List Named
with_node k x [] = record { number = k; node = x } ∷ []
with_node k x (n ∷ ns) = if n.number == k then record { number = k; node = x } ∷ ns else n ∷ with_node k x ns

abbrev pub after : {C : Type 0} → World C → Step C → World C
after w s = record {
  store = w.store ++ placed (length w.store) (node_at w s.node) s.move;
  nodes = with_node s.node (moved (length w.store) (node_at w s.node) s.move) w.nodes;
}

abbrev pub world_from : {C : Type 0} → World C → List (Step C) → World C
world_from w [] = w
world_from w (s ∷ ss) = world_from (after w s) ss

abbrev pub nothing : {C : Type 0} → World C
nothing = record { store = []; nodes = [] }

-- what steps leave, one after another
abbrev pub world_of : {C : Type 0} → List (Step C) → World C
world_of steps = world_from nothing steps

-- ---- who placed what

abbrev pub placings_from : {C : Type 0} → World C → List (Step C) → List (Placing C)
placings_from w [] = []
placings_from w (s ∷ ss) = map (placing s.node) (placed (length w.store) (node_at w s.node) s.move) ++ placings_from (after w s) ss

-- all that the steps placed, in order
abbrev pub placings : {C : Type 0} → List (Step C) → List (Placing C)
placings steps = placings_from nothing steps
