-- What the code's values stand for.
use Rattle.std.specs.Prelude.{◌≡◌, ℕ, ◌+◌, ◌<◌, ◌==◌, List, [], ◌∷◌, true, length, map, if◌then◌else◌}
use Rattle.std.specs.Arc.{arc_value}
use Rattle.std.specs.declared.alloc.Global.{Global}
use Rattle.std.specs.declared.sync.Arc.{Arc}
use Rattle.log_actions.specs.declared.actions.Action.{Action}
use Rattle.share_nodes.specs.Steps.{Move, Named, Node, Step, World, node_at}
use Rattle.share_nodes.specs.Steps as steps
use Rattle.share_nodes.specs.declared.run.NodeState.{NodeState}
use Rattle.share_nodes.specs.declared.seat.Seat.{Seat}
use Rattle.share_nodes.specs.declared.step.NodeMove.{NodeMove}
use Rattle.share_nodes.specs.declared.step.NodeMove.TheVariants as a_move
use Rattle.share_nodes.specs.declared.step.NodeStep.{NodeStep}

abbrev pub move_of : NodeMove → Move (List Action)
move_of a_move.Read = steps.Read
move_of (a_move.Place c) = steps.Place (arc_value c)
move_of a_move.Publish = steps.Publish
move_of a_move.Crash = steps.Crash
move_of a_move.Restart = steps.Restart

abbrev pub step_of : NodeStep → Step (List Action)
step_of s = record { node = s.node; move = move_of s.move_ }

-- what is told of a node
abbrev pub told_of : Named → ℕ × List ℕ
told_of n = (n.node.published, n.node.acknowledged)

abbrev pub state_told : NodeState → ℕ × List ℕ
state_told s = (s.published, s.acknowledged.items)

-- ---- within the crate

abbrev pub node_of : Seat → Node
node_of s = record { up = s.is_up; published = s.published; pending = s.is_pending; acknowledged = s.acknowledged.items }

abbrev pub named_of : Seat → Named
named_of s = record { number = s.number; node = node_of s }

-- the place of a node, or of the next where there is none of that number
abbrev pub place_in : ℕ → List Named → ℕ
place_in k [] = 0
place_in k (n ∷ ns) = if n.number == k then 0 else place_in k ns + 1

abbrev pub world_in : List (Arc (List Action) Global) → List Seat → World (List Action)
world_in store seats = record { store = map arc_value store; nodes = map named_of seats }

-- what a node placed and didn't publish is stored
abbrev pub IsAhead : World (List Action) → Type 0
IsAhead w = (k : ℕ) → (node_at w k).pending ≡ true → (node_at w k).published < length w.store
