-- What providers and the administrator are answered, by the answers of the hub's calls.
use Rattle.std.specs.Prelude.{ℕ, List, ◌++◌, Option, Some, None, Result, Ok, Err, codes}
use Rattle.std.specs.Fmt.{decimal}
use Rattle.case_table.specs.declared.refuse.Refusal.{Refusal}
use Rattle.case_table.specs.declared.refuse.Refusal.TheVariants as refusal
use Rattle.commit_check.specs.declared.conflict.Conflict.{Conflict}
use Rattle.commit_check.specs.declared.conflict.Conflict.TheVariants as conflict
use Rattle.share_catalog.specs.declared.edit.EditRefusal.{EditRefusal}
use Rattle.share_catalog.specs.declared.edit.EditRefusal.TheVariants as edit_refusal
use Rattle.hub_tables.specs.declared.commit.CommitRefusal.{CommitRefusal}
use Rattle.hub_tables.specs.declared.commit.CommitRefusal.TheVariants as commit_refusal
use Rattle.hub_catalog.specs.declared.edit.EditEnd.{EditEnd}
use Rattle.hub_catalog.specs.declared.edit.EditEnd.TheVariants as edit_end
use Rattle.hub_tables.specs.declared.refresh.RefreshRefusal.{RefreshRefusal}
use Rattle.hub_tables.specs.declared.refresh.RefreshRefusal.TheVariants as refresh_refusal
use Rattle.hub_tables.specs.declared.refresh.Refreshed.{Refreshed}
use Rattle.share_reply.specs.Refusing.{Refused, plain}
use Rattle.share_serve.specs.Responses.{json_response, refusal_response}
use Rattle.share_serve.specs.declared.response.Response.{Response}

abbrev pub with_detail : Refusal → List ℕ → Refused
with_detail which detail = record { refusal = which; detail = detail }

-- a conflict's name, and behind a space the action or the version that it tells
abbrev pub conflict_text : Conflict → List ℕ
conflict_text (conflict.ReadAhead None) = codes "ReadAhead none"
conflict_text (conflict.ReadAhead (Some head)) = codes "ReadAhead " ++ decimal head
conflict_text conflict.WriterUnsupported = codes "WriterUnsupported"
conflict_text (conflict.BadOffer n) = codes "BadOffer " ++ decimal n
conflict_text conflict.AppendOnly = codes "AppendOnly"
conflict_text (conflict.RemoveAbsent n) = codes "RemoveAbsent " ++ decimal n
conflict_text (conflict.ProtocolChanged version) = codes "ProtocolChanged " ++ decimal version
conflict_text (conflict.MetadataChanged version) = codes "MetadataChanged " ++ decimal version
conflict_text (conflict.ConcurrentTransaction version) = codes "ConcurrentTransaction " ++ decimal version
conflict_text (conflict.ConcurrentDeleteDelete version) = codes "ConcurrentDeleteDelete " ++ decimal version
conflict_text (conflict.ConcurrentAddAdd version) = codes "ConcurrentAddAdd " ++ decimal version
conflict_text (conflict.ConcurrentDeleteRead version) = codes "ConcurrentDeleteRead " ++ decimal version
conflict_text (conflict.ConcurrentAppend version) = codes "ConcurrentAppend " ++ decimal version

-- the refusal that a call's is told as; want of memory is told as none
abbrev pub commit_refused : CommitRefusal → Option Refused
commit_refused commit_refusal.NotLoaded = Some (plain refusal.NotFound)
commit_refused (commit_refusal.Blocked n) = Some (plain refusal.UnsupportedTable)
commit_refused commit_refusal.Contended = Some (plain refusal.Contended)
commit_refused (commit_refusal.Conflict c) = Some (with_detail refusal.Conflict (conflict_text c))
commit_refused commit_refusal.Limit = Some (with_detail refusal.Limit (codes "67108864"))
commit_refused commit_refusal.StoreFault = Some (plain refusal.StoreFault)
commit_refused commit_refusal.NoMemory = None

abbrev pub edit_refused_by : EditRefusal → Refused
edit_refused_by edit_refusal.Missing = with_detail refusal.Conflict (codes "Missing")
edit_refused_by edit_refusal.Taken = with_detail refusal.Conflict (codes "Taken")
edit_refused_by edit_refusal.TokenTaken = with_detail refusal.Conflict (codes "TokenTaken")
edit_refused_by (edit_refusal.Full limit) = with_detail refusal.Limit (decimal limit)

abbrev pub edit_refused : EditEnd → Option Refused
edit_refused (edit_end.CatalogBlocked n) = Some (with_detail refusal.CatalogBlocked (decimal n))
edit_refused edit_end.Contended = Some (plain refusal.Contended)
edit_refused (edit_end.Refused r) = Some (edit_refused_by r)
edit_refused edit_end.StoreFault = Some (plain refusal.StoreFault)
edit_refused edit_end.NoMemory = None

abbrev pub refresh_refused : RefreshRefusal → Option Refused
refresh_refused refresh_refusal.NotLoaded = Some (plain refusal.NotFound)
refresh_refused refresh_refusal.StoreFault = Some (plain refusal.StoreFault)
refresh_refused refresh_refusal.NoMemory = None

-- ---- texts

abbrev pub version_text : ℕ → List ℕ
version_text v = codes "{\"version\":" ++ (decimal v ++ codes "}")

abbrev pub record_text : ℕ → List ℕ
record_text n = codes "{\"record\":" ++ (decimal n ++ codes "}")

abbrev pub number_or_null : Option ℕ → List ℕ
number_or_null None = codes "null"
number_or_null (Some n) = decimal n

abbrev pub refreshed_text : Refreshed → List ℕ
refreshed_text r = codes "{\"blocked\":" ++ (number_or_null r.block ++ (codes ",\"found\":" ++ (decimal r.found ++ (codes ",\"kept\":" ++ (decimal r.kept ++ codes "}")))))

-- ---- responses; want of memory has none

abbrev pub refused_or_none : Option Refused → Option Response
refused_or_none None = None
refused_or_none (Some r) = Some (refusal_response r)

abbrev pub commit_response : Result ℕ CommitRefusal → Option Response
commit_response (Ok v) = Some (json_response (version_text v))
commit_response (Err r) = refused_or_none (commit_refused r)

abbrev pub edit_response : Result ℕ EditEnd → Option Response
edit_response (Ok n) = Some (json_response (record_text n))
edit_response (Err r) = refused_or_none (edit_refused r)

abbrev pub refresh_response : Result Refreshed RefreshRefusal → Option Response
refresh_response (Ok r) = Some (json_response (refreshed_text r))
refresh_response (Err r) = refused_or_none (refresh_refused r)
