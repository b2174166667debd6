-- Laws of what a recipient sees of a catalogue.
use Rattle.std.specs.Prelude.{◌≡◌, ℕ, List, [], ◌∷◌, true, false, Option, map}
use Rattle.std.specs.FinMap as maps
use Rattle.share_catalog.specs.declared.edit.Edit.{Edit}
use Rattle.share_catalog.specs.declared.listing.Bound.{Bound}
use Rattle.share_catalog.specs.declared.listing.Granted.{Granted}
use Rattle.share_catalog.specs.declared.table_name.TableName.{TableName}
use Rattle.share_catalog.specs.Catalogue.{IsHolder, credential, granted}
use Rattle.share_catalog.specs.Laws.{names_recipient, names_share, with}
use Rattle.share_catalog.specs.Listed.{bound_entry, grant_entry}
use Rattle.share_catalog.specs.Listing.{ListsBindings, ListsGrants}
use Rattle.share_catalog.specs.TableNames.{parts_of}
use Rattle.share_catalog.specs.Views.{Who, binding, bindings_of, grant, grants_of, joined, name_of, shared, table_of, tables_of, token, view_of}

-- a share has in the map of grants what the edits say of it
abbrev pub GrantsAreShown : Type 0
GrantsAreShown = (edits : List Edit) (r s : List ℕ) → maps.get (grants_of edits r) (s ∷ []) ≡ grant edits r s

-- so a table in the map of its share's bindings
abbrev pub BindingsAreShown : Type 0
BindingsAreShown = (edits : List Edit) (s schema table : List ℕ) → maps.get (bindings_of edits s) (schema ∷ table ∷ []) ≡ binding edits (table_of s (schema, table))

-- and in the map of the tables that a recipient sees
abbrev pub TablesAreShown : Type 0
TablesAreShown = (edits : List Edit) (r : List ℕ) (t : TableName) → maps.get (tables_of edits r) (parts_of t) ≡ shared edits r t

-- what is listed of a recipient's grants is the map of them
abbrev pub GrantsAreListed : Type 0
GrantsAreListed = (edits : List Edit) (r : List ℕ) (items : List Granted) → ListsGrants edits r items → map grant_entry items ≡ maps.entries (grants_of edits r)

-- what is listed of a share's bindings is the map of them
abbrev pub BindingsAreListed : Type 0
BindingsAreListed = (edits : List Edit) (s : List ℕ) (items : List Bound) → ListsBindings edits s items → map bound_entry items ≡ maps.entries (bindings_of edits s)

-- the bindings of each share that is listed as granted, one share after the other, are the tables that the recipient sees
abbrev pub TablesAreJoined : Type 0
TablesAreJoined = (edits : List Edit) (r : List ℕ) (items : List Granted) → ListsGrants edits r items → joined edits items ≡ maps.entries (tables_of edits r)

-- A view holds no more than what it shows: where credential, grants and tables are the same, views are.
abbrev pub ViewsAreShown : Type 0
ViewsAreShown = (edits others : List Edit) (r : List ℕ) → credential edits r ≡ credential others r → ((s : List ℕ) → grant edits r s ≡ grant others r s)
    → ((t : TableName) → shared edits r t ≡ shared others r t) → view_of edits r ≡ view_of others r

-- An edit that names neither a recipient nor a share that it is granted leaves the recipient's view.
abbrev pub EditsLeaveViews : Type 0
EditsLeaveViews = (edits : List Edit) (e : Edit) (r : List ℕ) → names_recipient r e ≡ false → ((s : List ℕ) → names_share s e ≡ true → granted edits r s ≡ false)
    → view_of (with edits e) r ≡ view_of edits r

-- the recipient that a token finds is the one that holds its digest, or none where none does
abbrev pub HoldersAreFound : Type 0
HoldersAreFound = (edits : List Edit) (digest : List ℕ) (o : Option (List ℕ)) → IsHolder edits digest o → name_of edits (token digest) ≡ o
