-- What requests by token ask for (Delta Sharing PROTOCOL.md, "REST APIs"): first the query string is read, then the body, then the names
-- in the path.
use Rattle.std.specs.Prelude.{ℕ, List, Option, Result, Ok, Err}
use Rattle.case_table.specs.declared.routing.Route.{Route}
use Rattle.case_table.specs.declared.routing.Route.TheVariants as route
use Rattle.json_tree.specs.Results.{◌>>=◌}
use Rattle.share_request.specs.Bodies.{edit_in, offer_in, refresh_in}
use Rattle.share_request.specs.Faults.{or_bad_body, parameter_of}
use Rattle.share_request.specs.Parameters.{at_in, from_in, max_files_in, moment_at, page_in, to_in, token_in}
use Rattle.share_request.specs.Paths.{name_at, table_at}
use Rattle.query_body.specs.Query.{query_in}
use Rattle.share_request.specs.declared.asked.What.{What}
use Rattle.share_request.specs.declared.asked.What.TheVariants as what
use Rattle.share_request.specs.declared.fault.Parameter.TheVariants as parameter
use Rattle.share_request.specs.declared.fault.RequestFault.{RequestFault}
use Rattle.share_request.specs.declared.fault.RequestFault.TheVariants as fault
use Rattle.share_request.specs.declared.parameter.QueryPair.{QueryPair}
use Rattle.query_body.specs.declared.query.QueryBody.{QueryBody}
use Rattle.query_body.specs.declared.query.QueryFault.{QueryFault}
use Rattle.query_body.specs.declared.query.QueryFault.TheVariants as query_fault

abbrev pub list_shares : List QueryPair → Result What RequestFault
list_shares pairs = page_in pairs >>= λ page. Ok (what.ListShares page)

abbrev pub get_share : List (List ℕ) → Result What RequestFault
get_share segments = name_at 1 segments >>= λ share. Ok (what.GetShare share)

abbrev pub list_schemas : List (List ℕ) → List QueryPair → Result What RequestFault
list_schemas segments pairs = do
  page ← page_in pairs
  share ← name_at 1 segments
  Ok (what.ListSchemas share page)

abbrev pub list_tables : List (List ℕ) → List QueryPair → Result What RequestFault
list_tables segments pairs = do
  page ← page_in pairs
  share ← name_at 1 segments
  schema ← name_at 3 segments
  Ok (what.ListTables share schema page)

abbrev pub list_all : List (List ℕ) → List QueryPair → Result What RequestFault
list_all segments pairs = do
  page ← page_in pairs
  share ← name_at 1 segments
  Ok (what.ListAll share page)

abbrev pub version : List (List ℕ) → List QueryPair → Result What RequestFault
version segments pairs = do
  from ← moment_at parameter.StartingTimestamp pairs
  table ← table_at segments
  Ok (what.Version table from)

abbrev pub metadata : List (List ℕ) → List QueryPair → Result What RequestFault
metadata segments pairs = do
  at ← at_in pairs
  table ← table_at segments
  Ok (what.Metadata table at)

-- a query's body, its faults told as a request's; none of them is want of memory
abbrev pub as_fault : Result QueryBody QueryFault → Result QueryBody RequestFault
as_fault (Ok body) = Ok body
as_fault (Err query_fault.BadBody) = Err fault.BadBody
as_fault (Err (query_fault.BadParameter field)) = Err (fault.BadParameter (parameter_of field))
as_fault (Err query_fault.NoMemory) = Err fault.BadBody

abbrev pub query : List (List ℕ) → List ℕ → Result What RequestFault
query segments bytes = do
  body ← as_fault (query_in bytes)
  table ← table_at segments
  Ok (what.Query table body)

abbrev pub changes_from : List (List ℕ) → List QueryPair → Option (List ℕ) → Result What RequestFault
changes_from segments pairs token = do
  from ← from_in pairs token
  to ← to_in pairs
  max ← max_files_in pairs
  table ← table_at segments
  Ok (what.Changes table from to max token)

abbrev pub changes : List (List ℕ) → List QueryPair → Result What RequestFault
changes segments pairs = changes_from segments pairs (token_in pairs)

abbrev pub commit : List ℕ → Result What RequestFault
commit body = or_bad_body (offer_in body) >>= λ offer. Ok (what.Commit offer)

abbrev pub refresh : List ℕ → Result What RequestFault
refresh body = or_bad_body (refresh_in body) >>= λ location. Ok (what.Refresh location)

abbrev pub edit : List ℕ → Result What RequestFault
edit body = or_bad_body (edit_in body) >>= λ edit. Ok (what.Edit edit)

-- by a route; no request by token has that of links
abbrev pub what_at : Route → List (List ℕ) → List QueryPair → List ℕ → Result What RequestFault
what_at route.ListShares segments pairs body = list_shares pairs
what_at route.GetShare segments pairs body = get_share segments
what_at route.ListSchemas segments pairs body = list_schemas segments pairs
what_at route.ListTables segments pairs body = list_tables segments pairs
what_at route.ListAll segments pairs body = list_all segments pairs
what_at route.Version segments pairs body = version segments pairs
what_at route.Metadata segments pairs body = metadata segments pairs
what_at route.Query segments pairs body = query segments body
what_at route.Changes segments pairs body = changes segments pairs
what_at route.Commit segments pairs body = commit body
what_at route.Refresh segments pairs body = refresh body
what_at route.Edit segments pairs body = edit body
what_at route.File segments pairs body = Err fault.NotFound
