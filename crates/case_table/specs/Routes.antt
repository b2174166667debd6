-- What a request can ask for: the REST APIs of Delta Sharing PROTOCOL.md, and four of our own.
use Rattle.std.specs.Prelude.{ℕ, List, [], ◌∷◌, codes}
use Rattle.case_table.specs.declared.routing.Method.{Method}
use Rattle.case_table.specs.declared.routing.Method.TheVariants.{Get, Post, GetOrHead}
use Rattle.case_table.specs.declared.routing.Route.{Route}
use Rattle.case_table.specs.declared.routing.Route.TheVariants.{ListShares, GetShare, ListSchemas, ListTables, ListAll, Version, Metadata, Query, Changes, File, Commit, Refresh, Edit}

-- number, name and methods
pub record RouteRow : Type 0 where
  pub code : ℕ
  pub word : List ℕ
  pub method : Method

abbrev row : ℕ → List ℕ → Method → RouteRow
row code word method = record { code = code; word = word; method = method }

abbrev pub route_row : Route → RouteRow
route_row ListShares = row 1 (codes "ListShares") Get
route_row GetShare = row 2 (codes "GetShare") Get
route_row ListSchemas = row 3 (codes "ListSchemas") Get
route_row ListTables = row 4 (codes "ListTables") Get
route_row ListAll = row 5 (codes "ListAll") Get
route_row Version = row 6 (codes "Version") Get
route_row Metadata = row 7 (codes "Metadata") Get
route_row Query = row 8 (codes "Query") Post
route_row Changes = row 9 (codes "Changes") Get
route_row File = row 10 (codes "File") GetOrHead
route_row Commit = row 11 (codes "Commit") Post
route_row Refresh = row 12 (codes "Refresh") Post
route_row Edit = row 13 (codes "Edit") Post

-- all of them, by number
abbrev pub all_routes : List Route
all_routes =
    ListShares ∷ GetShare ∷ ListSchemas ∷ ListTables ∷ ListAll ∷ Version ∷ Metadata ∷ Query ∷ Changes ∷ File ∷ Commit
    ∷ Refresh ∷ Edit ∷ []
