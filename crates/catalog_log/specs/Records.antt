-- The records of a catalogue's log: JSON objects of an edit, and version 1 or 2 (RFC 8259; the fields
-- are this server's own).
use Rattle.std.specs.Prelude.{◌≡◌, ℕ, ◌-◌, ◌==◌, List, Bool, true, false, Option, Some, None, Result, Ok, Err, ⊤, if◌then◌else◌, length, take, slice_get, pos, codes}
use Rattle.serde_json.specs.Data.{Data}
use Rattle.json_tree.specs.Fields.{present}
use Rattle.json_tree.specs.Gives.{Answers}
use Rattle.json_tree.specs.Tree.{tree_in}
use Rattle.json_tree.specs.declared.tree.TreeFault.{TreeFault}
use Rattle.json_tree.specs.declared.tree.TreeFault.TheVariants as tree
use Rattle.share_catalog.specs.declared.edit.Edit.{Edit}
use Rattle.json_tree.specs.Options.{◌>>=◌}
use Rattle.catalog_log.specs.Reading.{edit_by, natural}
use Rattle.catalog_log.specs.declared.fault.RecordFault.{RecordFault}
use Rattle.catalog_log.specs.declared.fault.RecordFault.TheVariants as fault
use Rattle.catalog_log.specs.declared.version.RecordVersion.{RecordVersion}
use Rattle.catalog_log.specs.declared.version.RecordVersion.TheVariants as version

-- the version of that number, none where no record of it is read
abbrev pub version_of : ℕ → Option RecordVersion
version_of n = if n == 1 then Some version.One else if n == 2 then Some version.Two else None

abbrev pub version_in : Data → Option RecordVersion
version_in d = present (codes "version") d >>= natural >>= version_of

-- the edit of a record's object
abbrev pub edit_of_record : Data → Option Edit
edit_of_record d = do
  v ← version_in d
  edit ← present (codes "edit") d
  edit_by v edit

abbrev pub is_line_feed : Option ℕ → Bool
is_line_feed None = false
is_line_feed (Some b) = b == 10

-- the bytes without a line feed at their end, which is white space in JSON
abbrev pub without_line_feed : List ℕ → List ℕ
without_line_feed bytes = if is_line_feed (slice_get bytes (length bytes - 1)) then take (length bytes - 1) bytes else bytes

abbrev pub or_bad : Option Edit → Result Edit RecordFault
or_bad None = Err fault.BadRecord
or_bad (Some e) = Ok e

abbrev pub of_tree : Result Data TreeFault → Result Edit RecordFault
of_tree (Ok d) = or_bad (edit_of_record d)
of_tree (Err tree.NotUtf8) = Err fault.NotUtf8
of_tree (Err tree.NotJson) = Err fault.NotJson
of_tree (Err tree.NoMemory) = Err fault.NoMemory

-- the edit of a record, or why it isn't one: UTF-8 first, then JSON's grammar, then the fields
abbrev pub record_in : List ℕ → Result Edit RecordFault
record_in bytes = of_tree (tree_in (without_line_feed bytes))

-- The answer is what is read of a value, and BadRecord where that is nothing. Want of memory says
-- nothing.
abbrev pub Gives : {X : Type 0} → Result X RecordFault → Option X → Type 0
Gives (Ok x) read = read ≡ Some x
Gives (Err fault.NotUtf8) read = ⊥
Gives (Err fault.NotJson) read = ⊥
Gives (Err fault.BadRecord) read = read ≡ None
Gives (Err fault.NoMemory) read = ⊤

abbrev pub lacks_memory : RecordFault → Bool
lacks_memory fault.NoMemory = true
lacks_memory _ = false

-- The answer is the edit or the fault of a record. Want of memory says nothing.
abbrev pub GivesRecord : Result Edit RecordFault → Result Edit RecordFault → Type 0
GivesRecord result record_read = Answers lacks_memory result record_read
