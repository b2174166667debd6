-- The requests for the pages of a table (Delta Sharing PROTOCOL.md, "Read Data from a Table" and "Read Change Data Feed from a Table").
use Rattle.std.specs.Prelude.{ℕ, List, [], ◌++◌, Option, Some, None, decimal, codes}
use Rattle.share_config.specs.Profiles.{without_slash}
use Rattle.share_client.specs.Bodies.{body_sent}
use Rattle.text_forms.specs.Escape.{escaped}
use Rattle.share_client.specs.Requests.{capability_line, post_text}
use Rattle.share_client.specs.Routes.{route_text}
use Rattle.share_client.specs.declared.listing.SharedTable.{SharedTable}
use Rattle.share_client.specs.declared.server.Server.{Server}
use Rattle.share_client.specs.declared.table_request.TableRequest.{TableRequest}
use Rattle.share_client.specs.declared.table_request.TableRequest.TheVariants as request

abbrev pub table_route : SharedTable → List ℕ
table_route t = codes "/shares/" ++ escaped t.share ++ codes "/schemas/" ++ escaped t.schema ++ codes "/tables/" ++ escaped t.table

-- a POST of the body, from the second page on with the token in it
abbrev pub query_with : (more : List ℕ) → Server → SharedTable → (body : List ℕ) → Option (List ℕ) → List ℕ
query_with more server t body token =
    post_text (without_slash server.target.path ++ (table_route t ++ codes "/query")) server.target.host_field (Some server.bearer) more (body_sent body token)

abbrev pub query_text : Server → SharedTable → (body : List ℕ) → Option (List ℕ) → List ℕ
query_text server t body token = query_with [] server t body token

-- the same for the delta format
abbrev pub delta_query_text : Server → SharedTable → (body : List ℕ) → Option (List ℕ) → List ℕ
delta_query_text server t body token = query_with capability_line server t body token

-- the last parameter of a query string, where there is a token
abbrev pub later_token : Option (List ℕ) → List ℕ
later_token None = []
later_token (Some token) = codes "&pageToken=" ++ escaped token

-- a GET of the changes from a version to another
abbrev pub changes_text : Server → SharedTable → (from to : ℕ) → Option (List ℕ) → List ℕ
changes_text server t from to token =
    route_text server (table_route t ++ codes "/changes?startingVersion=" ++ decimal from ++ codes "&endingVersion=" ++ decimal to ++ later_token token)

-- the request for the page with that token
abbrev pub request_text : Server → TableRequest → Option (List ℕ) → List ℕ
request_text server (request.Query t body) token = query_text server t.now body.now token
request_text server (request.Delta t body) token = delta_query_text server t.now body.now token
request_text server (request.Changes t from to) token = changes_text server t.now from to token
