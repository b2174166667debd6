-- The parts of a session's side, put together.
use Rattle.std.specs.Prelude.{ℕ, Bool, true, List, Option}
use Rattle.edge_core.specs.Objects.{Objects}
use Rattle.http_wire.specs.Streams.{Buffer}
use Rattle.hub_calls.specs.Calls.{P}
use Rattle.share_serve.specs.Turns.{Hold, Shelf, Side, State}

abbrev pub shelf : Option Objects → Bool → ℕ → ℕ → Shelf
shelf objects alone faults stored = record { objects = objects; alone = alone; faults = faults; stored = stored }

abbrev pub hold : P → Shelf → Hold
hold pass shelf = record { pass = pass; shelf = shelf }

abbrev pub side : Option (List ℕ) → Hold → Option (List ℕ) → List ℕ → Side
side coming h written kept = record { coming = coming; hold = h; written = written; kept = kept }

-- where a session stands that goes on, by its wire's buffer and what its source has left
abbrev pub state_at : Buffer → Option (List ℕ) → ℕ → Side → State
state_at buffer left served s = record { buffer = buffer; left = left; served = served; goes = true; side = s }

-- a store, and a pass with it, by what the store's type tells
abbrev pub shelved : {S : Type 0} → (objects : S → Option Objects) → (alone : S → Bool) → (faults : S → ℕ) → (stored : S → ℕ) → S → Shelf
shelved objects alone faults stored store = shelf (objects store) (alone store) (faults store) (stored store)

abbrev pub held : {S : Type 0} → (objects : S → Option Objects) → (alone : S → Bool) → (faults : S → ℕ) → (stored : S → ℕ) → P → S → Hold
held objects alone faults stored pass store = hold pass (shelved objects alone faults stored store)
