-- The requests for lists (Delta Sharing PROTOCOL.md, "REST APIs"), below the path of the server's address.
use Rattle.std.specs.Prelude.{ℕ, List, [], ◌++◌, Option, Some, None, codes}
use Rattle.share_config.specs.Profiles.{without_slash}
use Rattle.text_forms.specs.Escape.{escaped}
use Rattle.share_client.specs.Requests.{get_text}
use Rattle.share_client.specs.declared.server.Server.{Server}

-- the first parameter of a query string, where there is a token
abbrev pub first_token : Option (List ℕ) → List ℕ
first_token None = []
first_token (Some token) = codes "?pageToken=" ++ escaped token

-- a GET of a route of the server: behind its path, without a slash at its end, as that of `http://host` has one
abbrev pub route_text : Server → (route : List ℕ) → List ℕ
route_text server route = get_text (without_slash server.target.path ++ route) server.target.host_field (Some server.bearer)

abbrev pub list_text : Server → (route : List ℕ) → Option (List ℕ) → List ℕ
list_text server route token = route_text server (route ++ first_token token)

abbrev pub shares_route : List ℕ
shares_route = codes "/shares"

abbrev pub tables_route : List ℕ → List ℕ
tables_route share = codes "/shares/" ++ escaped share ++ codes "/all-tables"
