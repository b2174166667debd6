-- The fields of a query's body that are read (Delta Sharing PROTOCOL.md, "Read Data from a Table").
use Rattle.std.specs.Prelude.{◌≡◌, ℕ, List, [], ◌∷◌, All, codes}
use Rattle.json_tree.specs.Fields.{present}
use Rattle.serde_json.specs.Data.{Data}

-- the two have the same members of these names, null being none
abbrev pub SameMembers : List (List ℕ) → Data → Data → Type 0
SameMembers names d e = All (λ name. present name d ≡ present name e) names

abbrev pub query_fields : List (List ℕ)
query_fields =
    codes "maxFiles" ∷ codes "version" ∷ codes "timestamp" ∷ codes "jsonPredicateHints" ∷ codes "pageToken" ∷ codes "startingVersion"
    ∷ codes "endingVersion" ∷ codes "refreshToken" ∷ []
