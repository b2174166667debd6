-- What a store has as the record of an edit.
use Rattle.std.specs.Prelude.{◌≡◌, ℕ, ◌^◌, List, Option, Some, None, Result, Ok, Err, ⊤, IfSome, option_map, length, nat_le, if◌then◌else◌}
use Rattle.std.specs.FinMap as finmap
use Rattle.edge_core.specs.Objects.{Objects}
use Rattle.catalog_log.specs.RecordNames.{record_name_of}
use Rattle.catalog_log.specs.Records.{record_in}
use Rattle.catalog_log.specs.declared.fault.RecordFault.{RecordFault}
use Rattle.catalog_log.specs.declared.fault.RecordFault.TheVariants as fault
use Rattle.log_store.specs.Loads.{IsFetched}
use Rattle.log_store.specs.declared.reading.Fetched.{Fetched}
use Rattle.log_store.specs.declared.refusal.LoadRefusal.{LoadRefusal}
use Rattle.share_catalog.specs.declared.edit.Edit.{Edit}
use Rattle.hub_catalog.specs.declared.record.Read.{Read}
use Rattle.hub_catalog.specs.declared.record.Read.TheVariants as read

-- the edit of an object of at most 16 MiB, or why it is no record
abbrev pub stored_record : List ℕ → Result Edit RecordFault
stored_record bytes = if nat_le (length bytes) (2 ^ 24) then record_in bytes else Err fault.BadRecord

-- what the objects have as the record of a number
abbrev pub record_at : Objects → ℕ → Option (Result Edit RecordFault)
record_at objects number = option_map stored_record (finmap.get objects (record_name_of number))

-- the objects have the record of an edit under a number
abbrev pub HasRecord : Option Objects → ℕ → Edit → Type 0
HasRecord objects number e = IfSome objects (λ os. record_at os number ≡ Some (Ok e))

-- what a record is read as
abbrev pub IsRead : Option (Result Edit RecordFault) → Result Read LoadRefusal → Type 0
IsRead stored (Ok read.Absent) = stored ≡ None
IsRead stored (Ok (read.Edit e)) = stored ≡ Some (Ok e)
IsRead stored (Ok (read.Bad f)) = stored ≡ Some (Err f)
IsRead stored (Err refusal) = ⊤

-- what was fetched is read so
abbrev pub ReadsAs : Fetched → Result Read LoadRefusal → Type 0
ReadsAs f r = (found : Option (List ℕ)) → IsFetched (2 ^ 24) found (Ok f) → IsRead (option_map stored_record found) r
