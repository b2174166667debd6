-- Nodes one level lower, where no one log is given: each gets and puts objects of one store, by version (Delta Lake PROTOCOL.md, "Delta Log Entries"). Calls fail, and others write.
use Rattle.std.specs.Prelude.{ℕ, ◌==◌, ◌&&◌, Bool, true, false, List, [], ◌∷◌, ◌++◌, Option, Some, None, is_none, length, if◌then◌else◌}
use Rattle.std.specs.Option.{option_or}
use Rattle.share_nodes.specs.Placings.{Placing, placing}

-- What a node does. It gets the next object, and publishes it where it is there. It puts a commit as the next, and is told that it was stored, or that the version is taken.
-- Its put fails, but stands. A get or a put fails, and nothing is stored. It publishes what it was told is stored, and acknowledges that version. It crashes, and starts again,
-- knowing nothing. Or a put of any version lands that is none of these: somebody else's, or one that was given up.
pub data Move (C : Type 0) : Type 0 where
  Get : Move C
  Put : C → Move C
  Late : C → Move C
  Fail : Move C
  Publish : Move C
  Crash : Move C
  Restart : Move C
  Write : ℕ → C → Move C

pub record Step (C : Type 0) : Type 0 where
  pub node : ℕ
  pub move : Move C

-- the object of each version, with who put it
abbrev pub Objects : Type 0 → Type 0
Objects C = ℕ → Option (Placing C)

-- a put stores only where nothing is
abbrev pub put : {C : Type 0} → Objects C → ℕ → Placing C → Objects C
put m n p v = if v == n then option_or (m v) (Some p) else m v

-- whether it runs, what it has published, what it was told is stored and hasn't published yet, and which versions it acknowledged
pub record Node (C : Type 0) : Type 0 where
  pub up : Bool
  pub published : List C
  pub pending : Option C
  pub acknowledged : List ℕ

-- a node that has done nothing yet
abbrev pub fresh : {C : Type 0} → Node C
fresh = record { up = true; published = []; pending = None; acknowledged = [] }

abbrev pub is_idle : {C : Type 0} → Node C → Bool
is_idle x = x.up && is_none x.pending

-- the version after all that it has published
abbrev pub next : {C : Type 0} → Node C → ℕ
next x = length x.published

-- its put is stored: the next version is absent
abbrev pub can_put : {C : Type 0} → Objects C → Node C → Bool
can_put m x = is_idle x && is_none (m (next x))

-- it publishes what it got, if that is there
abbrev pub read : {C : Type 0} → Node C → Option (Placing C) → Node C
read x None = x
read x (Some p) = record x { published = x.published ++ p.commit ∷ [] }

-- it publishes what was stored, if it put something, and acknowledges that version
abbrev pub told : {C : Type 0} → Node C → Option C → Node C
told x None = x
told x (Some c) = record x { published = x.published ++ c ∷ []; pending = None; acknowledged = x.acknowledged ++ next x ∷ [] }

-- the node after its move
abbrev pub moved : {C : Type 0} → Objects C → Node C → Move C → Node C
moved m x Get = if is_idle x then read x (m (next x)) else x
moved m x (Put c) = if can_put m x then record x { pending = Some c } else x
moved m x Publish = told x x.pending
moved m x Crash = record x { up = false; published = []; pending = None }
moved m x Restart = record x { up = true }
moved m x _ = x

-- the objects after the move of node k
abbrev pub stored : {C : Type 0} → Objects C → ℕ → Node C → Move C → Objects C
stored m k x (Put c) = if can_put m x then put m (next x) (placing k c) else m
stored m k x (Late c) = if is_idle x then put m (next x) (placing k c) else m
stored m k x (Write n c) = put m n (placing k c)
stored m k x _ = m

-- ---- worlds

-- No node sees another's state.
pub record World (C : Type 0) : Type 0 where
  pub objects : Objects C
  pub nodes : ℕ → Node C

abbrev pub with_node : {C : Type 0} → (ℕ → Node C) → ℕ → Node C → ℕ → Node C
with_node nodes k x m = if m == k then x else nodes m

abbrev pub after : {C : Type 0} → World C → Step C → World C
after w s = record {
  objects = stored w.objects s.node (w.nodes s.node) s.move;
  nodes = with_node w.nodes s.node (moved w.objects (w.nodes s.node) s.move);
}

abbrev pub world_from : {C : Type 0} → World C → List (Step C) → World C
world_from w [] = w
world_from w (s ∷ ss) = world_from (after w s) ss

abbrev pub nothing : {C : Type 0} → World C
nothing = record { objects = λ v. None; nodes = λ k. fresh }

-- what steps leave, one after another
abbrev pub world_of : {C : Type 0} → List (Step C) → World C
world_of steps = world_from nothing steps

-- it is no such put of any version
abbrev pub is_own : {C : Type 0} → Move C → Bool
is_own (Write n c) = false
is_own _ = true
