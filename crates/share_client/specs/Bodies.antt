-- The body of a query (Delta Sharing PROTOCOL.md, "Read Data from a Table"): a JSON object, here without a number that isn't whole.
use Rattle.std.specs.Prelude.{ℕ, List, [], Bool, false, not, ◌&&◌, is_some, Option, Some, None, Result, Ok, Err, if◌then◌else◌, codes}
use Rattle.serde_json.specs.Data.{Data, string, object, put}
use Rattle.serde_json.specs.Find.{as_object}
use Rattle.serde_json.specs.Written.{compact_text, has_float}
use Rattle.json_tree.specs.Tree.{tree_in}
use Rattle.json_tree.specs.declared.tree.TreeFault.{TreeFault}

-- an object without a float
abbrev pub is_query : Data → Bool
is_query d = is_some (as_object d) && not (has_float d)

abbrev pub is_query_tree : Result Data TreeFault → Bool
is_query_tree (Ok d) = is_query d
is_query_tree (Err e) = false

-- the text is such an object's
abbrev pub is_query_text : List ℕ → Bool
is_query_text text = is_query_tree (tree_in text)

abbrev pub query_in : List ℕ → Option (List ℕ)
query_in text = if is_query_text text then Some text else None

-- the object with that page token
abbrev pub with_token : List ℕ → Data → Data
with_token token (object ms) = object (put (codes "pageToken") (string token) ms)
with_token token d = d

abbrev pub printed : List ℕ → Result Data TreeFault → List ℕ
printed token (Ok d) = compact_text (with_token token d)
printed token (Err e) = []

-- The body that is sent: as it was given for the first page, and then with the token set and printed compact.
abbrev pub body_sent : List ℕ → Option (List ℕ) → List ℕ
body_sent text None = text
body_sent text (Some token) = printed token (tree_in text)
