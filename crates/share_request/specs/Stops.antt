-- What private readers answer, and what the faults of lower readers make of a request.
use Rattle.std.specs.Prelude.{◌≡◌, Option, Some, None, Result, Ok, Err, ⊤}
use Rattle.catalog_log.specs.declared.fault.RecordFault.{RecordFault}
use Rattle.catalog_log.specs.declared.fault.RecordFault.TheVariants as record_fault
use Rattle.json_tree.specs.declared.tree.TreeFault.{TreeFault}
use Rattle.json_tree.specs.declared.tree.TreeFault.TheVariants as tree
use Rattle.log_actions.specs.declared.line_fault.NoAction.{NoAction}
use Rattle.log_actions.specs.declared.line_fault.NoAction.TheVariants as none
use Rattle.share_request.specs.Faults.{parameter_of}
use Rattle.share_request.specs.declared.fault.RequestFault.{RequestFault}
use Rattle.share_request.specs.declared.fault.RequestFault.TheVariants as fault
use Rattle.share_request.specs.declared.fault.Stop.{Stop}
use Rattle.share_request.specs.declared.fault.Stop.TheVariants as stop
use Rattle.query_body.specs.declared.query.QueryFault.{QueryFault}
use Rattle.query_body.specs.declared.query.QueryFault.TheVariants as query

-- The answer is what was read, or why it is refused. Want of memory says nothing.
abbrev pub Gives : {X : Type 0} → Result X Stop → Result X RequestFault → Type 0
Gives (Ok x) read = read ≡ Ok x
Gives (Err (stop.Refused f)) read = read ≡ Err f
Gives (Err stop.NoMemory) read = ⊤

abbrev pub query_stop : QueryFault → Stop
query_stop query.BadBody = stop.Refused fault.BadBody
query_stop (query.BadParameter field) = stop.Refused (fault.BadParameter (parameter_of field))
query_stop query.NoMemory = stop.NoMemory

abbrev pub tree_stop : TreeFault → Stop
tree_stop tree.NotUtf8 = stop.Refused fault.BadBody
tree_stop tree.NotJson = stop.Refused fault.BadBody
tree_stop tree.NoMemory = stop.NoMemory

abbrev pub record_stop : RecordFault → Stop
record_stop record_fault.NoMemory = stop.NoMemory
record_stop _ = stop.Refused fault.BadBody

abbrev pub action_stop : NoAction → Stop
action_stop (none.Fault f) = stop.Refused fault.BadBody
action_stop none.NoMemory = stop.NoMemory

-- The same of a reader of a body, whose one fault is a bad body.
abbrev pub GivesBody : {X : Type 0} → Result X Stop → Option X → Type 0
GivesBody (Ok x) read = read ≡ Some x
GivesBody (Err (stop.Refused f)) read = (read ≡ None) × (f ≡ fault.BadBody)
GivesBody (Err stop.NoMemory) read = ⊤
