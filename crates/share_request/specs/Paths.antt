-- The routes that paths name, and the names in them (Delta Sharing PROTOCOL.md, "REST APIs"; the routes below `provider` and `admin`
-- are our own).
use Rattle.std.specs.Prelude.{ℕ, Bool, ◌&&◌, ◌==◌, List, [], ◌∷◌, Option, Some, None, Result, Ok, Err, map, slice_get, bytes_eq, if◌then◌else◌, codes}
use Rattle.std.specs.Char.{to_ascii_lowercase}
use Rattle.std.specs.List.{slice_split}
use Rattle.std.specs.Str.Lossy.{utf8_lossy}
use Rattle.percent_encoding.specs.Percent.{percent_decode}
use Rattle.case_table.specs.declared.routing.Route.{Route}
use Rattle.case_table.specs.declared.routing.Route.TheVariants as route
use Rattle.json_tree.specs.Results.{◌>>=◌}
use Rattle.share_catalog.specs.Grammar.{is_catalog_name}
use Rattle.share_catalog.specs.declared.table_name.TableName.{TableName}
use Rattle.share_request.specs.declared.fault.RequestFault.{RequestFault}
use Rattle.share_request.specs.declared.fault.RequestFault.TheVariants as fault

-- a segment unescaped, with U+FFFD for what isn't UTF-8
abbrev pub segment_text : List ℕ → List ℕ
segment_text segment = utf8_lossy (percent_decode segment)

-- the segments of a path below the endpoint
abbrev pub segments_in : List ℕ → List (List ℕ)
segments_in path = map segment_text (slice_split (λ b. b == 47) path)

-- ---- routes

abbrev pub is_shares : List ℕ → Bool
is_shares word = bytes_eq word (codes "shares")

abbrev pub provider_route : List ℕ → Option Route
provider_route word =
    if bytes_eq word (codes "commit") then Some route.Commit
    else if bytes_eq word (codes "refresh") then Some route.Refresh
    else None

abbrev pub admin_route : List ℕ → Option Route
admin_route word = if bytes_eq word (codes "edit") then Some route.Edit else None

abbrev pub pair_route : List ℕ → List ℕ → Option Route
pair_route first second =
    if is_shares first then Some route.GetShare
    else if bytes_eq first (codes "provider") then provider_route second
    else if bytes_eq first (codes "admin") then admin_route second
    else None

abbrev pub share_route : List ℕ → Option Route
share_route word =
    if bytes_eq word (codes "schemas") then Some route.ListSchemas
    else if bytes_eq word (codes "all-tables") then Some route.ListAll
    else None

abbrev pub table_route : List ℕ → Option Route
table_route word =
    if bytes_eq word (codes "version") then Some route.Version
    else if bytes_eq word (codes "metadata") then Some route.Metadata
    else if bytes_eq word (codes "query") then Some route.Query
    else if bytes_eq word (codes "changes") then Some route.Changes
    else None

abbrev pub is_table_path : List ℕ → List ℕ → List ℕ → Bool
is_table_path a c e = is_shares a && bytes_eq c (codes "schemas") && bytes_eq e (codes "tables")

-- shares; shares/SHARE; shares/SHARE/schemas; shares/SHARE/all-tables; shares/SHARE/schemas/SCHEMA/tables;
-- shares/SHARE/schemas/SCHEMA/tables/TABLE/ and version, metadata, query or changes; provider/commit; provider/refresh; admin/edit
abbrev pub route_of : List (List ℕ) → Option Route
route_of (a ∷ []) = if is_shares a then Some route.ListShares else None
route_of (a ∷ b ∷ []) = pair_route a b
route_of (a ∷ share ∷ c ∷ []) = if is_shares a then share_route c else None
route_of (a ∷ share ∷ c ∷ schema ∷ e ∷ []) = if is_table_path a c e then Some route.ListTables else None
route_of (a ∷ share ∷ c ∷ schema ∷ e ∷ table ∷ g ∷ []) = if is_table_path a c e then table_route g else None
route_of _ = None

-- ---- names

-- the name that the text is, with its letters lowered
abbrev pub name_of : List ℕ → Result (List ℕ) RequestFault
name_of text =
    if is_catalog_name (map to_ascii_lowercase text) then Ok (map to_ascii_lowercase text) else Err fault.NotFound

abbrev pub name_or_not : Option (List ℕ) → Result (List ℕ) RequestFault
name_or_not None = Err fault.NotFound
name_or_not (Some text) = name_of text

-- the name that the segment at the index is
abbrev pub name_at : ℕ → List (List ℕ) → Result (List ℕ) RequestFault
name_at index segments = name_or_not (slice_get segments index)

-- the name of the table that the segments name
abbrev pub table_at : List (List ℕ) → Result TableName RequestFault
table_at segments = do
  share ← name_at 1 segments
  schema ← name_at 3 segments
  table ← name_at 5 segments
  Ok (record { share = share; schema = schema; table = table })
