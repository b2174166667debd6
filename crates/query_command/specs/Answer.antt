-- What a query of a table in a folder is answered (Delta Sharing PROTOCOL.md, "Read Data from a Table", of a folder in place of a share).
use Rattle.std.specs.Prelude.{◌≡◌, ℕ, ◌&&◌, List, take, Option, Some, None, IfSome, Result, Ok, Err, if◌then◌else◌}
use Rattle.std.specs.Bool.{OnTrue}
use Rattle.edge_core.specs.Faults.{Rose}
use Rattle.edge_core.specs.Names.{is_name}
use Rattle.edge_core.specs.Objects.{Grows, Between}
use Rattle.share_catalog.specs.Locations.{is_location}
use Rattle.query_body.specs.declared.query.QueryBody.{QueryBody}
use Rattle.query_command.specs.Outside.{Outside}
use Rattle.query_command.specs.Query.{IsReadToEnd, asked_in}
use Rattle.query_command.specs.Table.{lines_in}
use Rattle.query_command.specs.Writing.{Writes, WritesNothing}
use Rattle.query_command.specs.declared.ends.TableRefusal.{TableRefusal}
use Rattle.query_command.specs.declared.ends.End.{End}
use Rattle.query_command.specs.declared.ends.End.TheVariants as ends

-- the place of a table: a name that isn't the server's own
abbrev pub location_in : List ℕ → Option (List ℕ)
location_in text = if is_name text && is_location text then Some text else None

-- The input asks that; it asks nothing that is a query of the whole answer; each where it tells.
abbrev pub Asks : Outside → QueryBody → Type 0
Asks outside query = IfSome outside.left (λ input. asked_in input ≡ Some query)

abbrev pub AsksNothing : Outside → Type 0
AsksNothing outside = IfSome outside.left (λ input. asked_in input ≡ None)

-- The query's input was read to its end, and this is the answer: the lines of the table as the store was at one moment of the call, or why there are none.
abbrev pub IsAnswer : List ℕ → Outside → Outside → Result (List ℕ) TableRefusal → Type 0
IsAnswer location old new answer = (query : QueryBody) × Asks old query × IsReadToEnd old.left new.left × Between old.objects new.objects (λ objects. lines_in location query objects ≡ answer)

-- Why a query ends so, and what it has written to the output then. Want of memory needs no cause.
abbrev pub QueryEnds : List ℕ → Outside → Outside → End → Type 0
QueryEnds location old new ends.Input = AsksNothing old × WritesNothing old new
QueryEnds location old new ends.ReadFault = Rose old.read_faults new.read_faults × WritesNothing old new
QueryEnds location old new (ends.Table why) = IsAnswer location old new (Err why) × WritesNothing old new
QueryEnds location old new ends.StoreFault = ((query : QueryBody) × Asks old query) × Rose old.store_faults new.store_faults × WritesNothing old new
QueryEnds location old new ends.WriteFault = Rose old.write_faults new.write_faults × ((text : List ℕ) × IsAnswer location old new (Ok text) × ((n : ℕ) × Writes old new (take n text)))
QueryEnds location old new ends.NoMemory = WritesNothing old new
QueryEnds location old new ends.Done = (text : List ℕ) × IsAnswer location old new (Ok text) × Writes old new text
QueryEnds location old new other = ⊥

-- One query: why it ended so, that nothing was stored, and that nothing is noted yet.
pub record QueryRuns (location : List ℕ) (old new : Outside) (end : End) : Type 0 where
  pub means : QueryEnds location old new end
  pub notes : new.noted ≡ old.noted
  pub note_faults : new.note_faults ≡ old.note_faults
  pub grows : Grows old.objects new.objects
  pub same : OnTrue old.alone (new.objects ≡ old.objects)
  pub stored : new.stored ≡ old.stored
