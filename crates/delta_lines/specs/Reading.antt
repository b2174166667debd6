-- The lines that JSON objects stand for (Delta Sharing PROTOCOL.md, "API Response Format in Delta"). What a log says is read as in a log (Delta Lake PROTOCOL.md, "Actions"). A field that is null counts as absent; fields that the kind doesn't print are passed over.
use Rattle.std.specs.Prelude.{◌≡◌, ℕ, ◌+◌, ◌^◌, ◌==◌, List, Bool, Option, Some, None, Result, Ok, Err, ⊤, if◌then◌else◌, codes}
use Rattle.serde_json.specs.Data.{Data}
use Rattle.serde_json.specs.Find.{as_str}
use Rattle.json_tree.specs.Fields.{count_of, field, present, whole}
use Rattle.json_tree.specs.Options.{◌>>=◌}
use Rattle.log_actions.specs.Lines.{action_of_data}
use Rattle.log_actions.specs.Reading.{count, meta_data_of, protocol_of}
use Rattle.log_actions.specs.declared.actions.Action.{Action}
use Rattle.log_actions.specs.declared.actions.Action.TheVariants as logged
use Rattle.log_actions.specs.declared.actions.MetaData.{MetaData}
use Rattle.log_actions.specs.declared.actions.Protocol.{Protocol}
use Rattle.log_actions.specs.declared.line_fault.NoAction.{NoAction}
use Rattle.log_actions.specs.declared.line_fault.NoAction.TheVariants as none
use Rattle.share_lines.specs.Reading.{end_of, optional, required}
use Rattle.delta_lines.specs.Delta.{path_of}
use Rattle.delta_lines.specs.declared.faults.LineFault.{LineFault}
use Rattle.delta_lines.specs.declared.faults.LineFault.TheVariants as fault
use Rattle.delta_lines.specs.declared.kinds.FileAction.{FileAction}
use Rattle.delta_lines.specs.declared.kinds.FileAction.TheVariants as action
use Rattle.delta_lines.specs.declared.kinds.DeltaFile.{DeltaFile}
use Rattle.delta_lines.specs.declared.kinds.DeltaLine.{DeltaLine}
use Rattle.delta_lines.specs.declared.kinds.DeltaLine.TheVariants as line

-- what is found of a log's words, whatever the fault is where nothing is
abbrev pub found : {X F : Type 0} → Result X F → Option X
found (Err e) = None
found (Ok x) = Some x

-- ---- the values of the kinds

-- "Protocol"
unfoldable pub protocol_in : Data → Option Protocol
protocol_in d = present (codes "deltaProtocol") d >>= λ p. found (protocol_of p)

-- "Metadata"
unfoldable pub meta_in : Data → Option MetaData
meta_in d = present (codes "deltaMetadata") d >>= λ m. found (meta_data_of m)

abbrev pub unless : Bool → FileAction → Option FileAction
unless vector a = if vector then None else Some a

-- the action of a file, where it has no deletion vector
abbrev pub file_action : Action → Option FileAction
file_action (logged.Add f) = unless f.vector (action.Add f)
file_action (logged.Cdc f) = Some (action.Cdc f)
file_action (logged.Remove f) = unless f.vector (action.Remove f)
file_action _ = None

abbrev pub file_action_or : Option Action → Option FileAction
file_action_or None = None
file_action_or (Some a) = file_action a

-- the one action of an object
unfoldable pub single_action : Data → Option FileAction
single_action d = found (action_of_data d) >>= file_action_or

-- the same action with that path
abbrev pub with_path : List ℕ → FileAction → FileAction
with_path path (action.Add f) = action.Add (record f { path = path })
with_path path (action.Cdc f) = action.Cdc (record f { path = path })
with_path path (action.Remove f) = action.Remove (record f { path = path })

-- "File": the action's path is the link, and the identifier is its path in the log
unfoldable pub delta_file_of : Data → Option DeltaFile
delta_file_of d = do
  single ← present (codes "deltaSingleAction") d
  a ← single_action single
  id ← required (field as_str (codes "id") d)
  expires ← optional (field (count (2 ^ 63)) (codes "expirationTimestamp") d)
  time ← optional (field whole (codes "timestamp") d)
  version ← optional (field (count (2 ^ 63)) (codes "version") d)
  Some (record { id = id; url = path_of a; action = with_path id a; expires = expires; time = time; version = version })

-- ---- a line's object

-- how many of the four kinds have a member that isn't null
abbrev pub kind_count : Data → ℕ
kind_count d = count_of (codes "protocol") d + count_of (codes "metaData") d + count_of (codes "file") d + count_of (codes "endStreamAction") d

abbrev pub kind_or : Option Data → (Data → Option DeltaLine) → Option DeltaLine → Option DeltaLine
kind_or None reads other = other
kind_or (Some d) reads other = reads d

-- what is read of the kind that has a member
abbrev pub kind_in : Data → Option DeltaLine
kind_in d =
    kind_or (present (codes "protocol") d) (λ v. protocol_in v >>= λ p. Some (line.Protocol p))
    (kind_or (present (codes "metaData") d) (λ v. meta_in v >>= λ m. Some (line.MetaData m))
    (kind_or (present (codes "file") d) (λ v. delta_file_of v >>= λ f. Some (line.File f))
    (kind_or (present (codes "endStreamAction") d) (λ v. end_of v >>= λ e. Some (line.End e)) None)))

-- the line of an object: exactly one of the four kinds has a member that isn't null; other members are passed over
abbrev pub delta_line_in : Data → Option DeltaLine
delta_line_in d = if kind_count d == 1 then kind_in d else None

-- ---- answers

-- a protocol, where it is one
abbrev pub protocol_or : Option Action → Option Protocol
protocol_or (Some (logged.Protocol p)) = Some p
protocol_or _ = None

-- a metaData, where it is one
abbrev pub meta_or : Option Action → Option MetaData
meta_or (Some (logged.MetaData m)) = Some m
meta_or _ = None

abbrev pub fault_of : NoAction → LineFault
fault_of (none.Fault f) = fault.Bad
fault_of none.NoMemory = fault.NoMemory

-- The answer is what is read, and Bad where that is nothing. Want of memory says nothing.
abbrev pub Gives : {X : Type 0} → Result X LineFault → Option X → Type 0
Gives (Ok x) read = read ≡ Some x
Gives (Err fault.Bad) read = read ≡ None
Gives (Err fault.NoMemory) read = ⊤
