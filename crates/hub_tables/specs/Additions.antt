-- What a call leaves in a store that puts at most one object.
use Rattle.std.specs.Prelude.{◌≡◌, ◌⊎◌, ℕ, List, Bool, true, Option, Some, IfSome}
use Rattle.std.specs.Bool.{OnTrue}
use Rattle.std.specs.FinMap as finmap
use Rattle.edge_core.specs.Objects.{Grows, Lacks, Objects, with_object}
use Rattle.log_store.specs.Backed.{WasPut}

-- one object more, under a name that no object had
abbrev pub IsOneMore : Option Objects → Option Objects → List ℕ → List ℕ → Type 0
IsOneMore old new name bytes = Lacks name old × (new ≡ with_object name bytes old)

-- The name has these bytes, which were put. Nothing else is new in a store that nobody else writes.
pub record Places (old new : Option Objects) (was is : Bool) (name bytes : List ℕ) : Type 0 where
  pub grows : Grows old new
  pub there : IfSome new (λ os. finmap.get os name ≡ Some bytes)
  pub put : WasPut old new name bytes
  pub one : OnTrue was (IsOneMore old new name bytes)
  pub stays : OnTrue was (is ≡ true)

-- A store that nobody else writes is as it was, or has more in this way.
pub record AtMost (old new : Option Objects) (was is : Bool) (More : Type 0) : Type 0 where
  pub grows : Grows old new
  pub one : OnTrue was ((new ≡ old) ⊎ More)
  pub stays : OnTrue was (is ≡ true)
