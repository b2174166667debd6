-- What the steps of a query do, one after another.
use Rattle.std.specs.Prelude.{◌≡◌, ℕ, List, Result, Ok, Err, Vec}
use Rattle.std.specs.Bool.{OnTrue}
use Rattle.std.specs.declared.alloc.Global.{Global}
use Rattle.edge_core.specs.Objects.{Grows}
use Rattle.query_command.specs.Answer.{IsAnswer, QueryRuns}
use Rattle.query_command.specs.Outside.{Outside}
use Rattle.query_command.specs.declared.ends.End.{End}

-- The lines of a table were found, and nothing is written yet.
pub record Found (location : List ℕ) (old new : Outside) (text : List ℕ) : Type 0 where
  pub answers : IsAnswer location old new (Ok text)
  pub grows : Grows old.objects new.objects
  pub same : OnTrue old.alone (new.objects ≡ old.objects)
  pub stored : new.stored ≡ old.stored
  pub held : new.held ≡ old.held
  pub write_faults : new.write_faults ≡ old.write_faults
  pub notes : new.noted ≡ old.noted
  pub note_faults : new.note_faults ≡ old.note_faults

abbrev pub Finds : List ℕ → Outside → Outside → Result (Vec ℕ Global) End → Type 0
Finds location old new (Ok text) = Found location old new text.items
Finds location old new (Err end) = QueryRuns location old new end
