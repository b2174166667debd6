-- Lists of a server (Delta Sharing PROTOCOL.md, "List Shares" and "List All Tables in a Share"): an object with `items`, which may be
-- absent, and `nextPageToken`, which may be absent or empty where no page is left. Other members are passed over.
use Rattle.std.specs.Prelude.{ℕ, List, [], ◌∷◌, Option, Some, None, Result, Ok, Err, option_map, codes}
use Rattle.serde_json.specs.Data.{Data, Items, no_items, item}
use Rattle.serde_json.specs.Find.{as_array, as_object, as_str}
use Rattle.json_tree.specs.Fields.{field, present}
use Rattle.json_tree.specs.Options.{◌>>=◌, unless_empty}
use Rattle.json_tree.specs.Tree.{tree_in}
use Rattle.json_tree.specs.declared.tree.TreeFault.{TreeFault}
use Rattle.json_tree.specs.declared.fields.FieldFault.{FieldFault}
use Rattle.share_client.specs.declared.listing.SharedTable.{SharedTable}

-- what a page of a list has: its items, and the token of the next page
abbrev pub Listing : Type 0 → Type 0
Listing X = List X × Option (List ℕ)

-- a text that has to be there
abbrev pub name_in : List ℕ → Data → Option (List ℕ)
name_in name d = present name d >>= as_str

-- a share
abbrev pub share_in : Data → Option (List ℕ)
share_in d = name_in (codes "name") d

-- a table, with its schema and its share
unfoldable pub table_in : Data → Option SharedTable
table_in d = do
  share ← name_in (codes "share") d
  schema ← name_in (codes "schema") d
  table ← name_in (codes "name") d
  Some (record { share = share; schema = schema; table = table })

abbrev pub or_other_kind : Result (Option (List ℕ)) FieldFault → Option (Option (List ℕ))
or_other_kind (Ok text) = Some (unless_empty text)
or_other_kind (Err e) = None

-- the token of the next page
abbrev pub token_in : Data → Option (Option (List ℕ))
token_in d = or_other_kind (field as_str (codes "nextPageToken") d)

module _ {X : Type 0} (reads : Data → Option X) where
  -- each element is read
  abbrev pub all_in : Items → Option (List X)
  all_in no_items = Some []
  all_in (item d ds) = reads d >>= λ x. option_map (λ xs. x ∷ xs) (all_in ds)

  abbrev pub or_empty : Option Data → Option (List X)
  or_empty None = Some []
  or_empty (Some d) = as_array d >>= all_in

  abbrev pub items_in : Data → Option (List X)
  items_in d = or_empty (present (codes "items") d)

  unfoldable pub list_in : Data → Option (Listing X)
  list_in d = do
    members ← as_object d
    items ← items_in d
    token ← token_in d
    Some (items, token)

  abbrev pub list_of_tree : Result Data TreeFault → Option (Listing X)
  list_of_tree (Ok d) = list_in d
  list_of_tree (Err e) = None

  -- the page of a body
  abbrev pub page_in : List ℕ → Option (Listing X)
  page_in body = list_of_tree (tree_in body)
