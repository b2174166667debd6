-- What a recipient sees of a catalogue, as functions of the edits alone: itself, the shares that it is
-- granted, and the tables that are bound in them (Delta Sharing PROTOCOL.md, "List Shares", "List all
-- Tables in a Share"). Nothing of other recipients and of other shares is in it, and no log.
use Rattle.std.specs.Prelude.{ℕ, List, [], ◌∷◌, ◌++◌, Bool, Option, Some, None, bytes_eq, filter_map, map, option_and_then, option_map, if◌then◌else◌}
use Rattle.std.specs.List.{find}
use Rattle.std.specs.FinMap as maps
use Rattle.share_catalog.specs.declared.credential.Credential.{Credential}
use Rattle.share_catalog.specs.declared.edit.Binding.{Binding}
use Rattle.share_catalog.specs.declared.edit.Edit.{Edit}
use Rattle.share_catalog.specs.declared.listing.Granted.{Granted}
use Rattle.share_catalog.specs.declared.table_name.TableName.{TableName}
use Rattle.share_catalog.specs.Catalogue.{binding_edition, bound, credential, grant_edition, granted, has_digest, pairs_granted, recipients_made, said, tables_bound}
use Rattle.share_catalog.specs.TableNames.{parts_of, texts_cmp}

-- A table as a recipient sees it: the editions of its share's grant and of its binding, whether earlier
-- versions are shared, the first version that is, what of each is, and where its log is stored.
pub record Spot : Type 0 where
  pub grant : ℕ
  pub binding : ℕ
  pub history : Bool
  pub first : ℕ
  pub only : Option (List ℕ)
  pub location : List ℕ

-- the edition of a grant that holds
abbrev pub grant : List Edit → List ℕ → List ℕ → Option ℕ
grant edits r s = said (granted edits r s) (grant_edition edits r s)

-- a binding that holds, with its edition
abbrev pub binding : List Edit → TableName → Option (Binding × ℕ)
binding edits t = option_map (λ b. (b, binding_edition edits t)) (bound edits t)

abbrev pub spot_with : ℕ → Binding × ℕ → Spot
spot_with edition b = record { grant = edition; binding = b.1; history = b.0.history; first = b.0.first; only = b.0.only; location = b.0.location }

-- a table that is bound in a share that the recipient is granted
abbrev pub shared : List Edit → List ℕ → TableName → Option Spot
shared edits r t = option_and_then (λ edition. option_map (spot_with edition) (binding edits t)) (grant edits r t.share)

-- the second of a pair whose first is the recipient
abbrev pub share_for : List ℕ → List ℕ × List ℕ → Option (List ℕ)
share_for r pair = said (bytes_eq pair.0 r) pair.1

-- the shares that the recipient was ever granted
abbrev pub shares_granted : List Edit → List ℕ → List (List ℕ)
shares_granted edits r = filter_map (share_for r) (pairs_granted edits)

-- schema and table of a table of the share
abbrev pub name_in : List ℕ → TableName → Option (List ℕ × List ℕ)
name_in s t = said (bytes_eq t.share s) (t.schema, t.table)

-- schema and table of each table that was ever bound in the share
abbrev pub names_bound : List Edit → List ℕ → List (List ℕ × List ℕ)
names_bound edits s = filter_map (name_in s) (tables_bound edits)

-- what a function gives, by keys
abbrev pub keyed : {A K V : Type 0} → (A → K) → (A → Option V) → List A → List (K × V)
keyed key f xs = filter_map (λ x. option_map (λ v. (key x, v)) (f x)) xs

abbrev pub share_key : List ℕ → List (List ℕ)
share_key s = s ∷ []

abbrev pub name_key : List ℕ × List ℕ → List (List ℕ)
name_key n = n.0 ∷ n.1 ∷ []

-- the table of that share, schema and name
abbrev pub table_of : List ℕ → List ℕ × List ℕ → TableName
table_of s n = record { share = s; schema = n.0; table = n.1 }

-- the editions of the grants that hold, by share
abbrev pub grants_of : List Edit → List ℕ → maps.FinMap texts_cmp ℕ
grants_of edits r = maps.from_entries (keyed share_key (grant edits r) (shares_granted edits r))

-- the bindings of a share that hold, with their editions, by schema and table
abbrev pub bindings_of : List Edit → List ℕ → maps.FinMap texts_cmp (Binding × ℕ)
bindings_of edits s = maps.from_entries (keyed name_key (λ n. binding edits (table_of s n)) (names_bound edits s))

-- the tables that the recipient sees, by share, schema and table
abbrev pub tables_of : List Edit → List ℕ → maps.FinMap texts_cmp Spot
tables_of edits r = maps.from_entries (keyed parts_of (shared edits r) (tables_bound edits))

pub record CatalogView : Type 0 where
  pub recipient : List ℕ
  pub credential : Credential
  pub grants : maps.FinMap texts_cmp ℕ
  pub tables : maps.FinMap texts_cmp Spot

abbrev pub view_with : List Edit → List ℕ → Credential → CatalogView
view_with edits r c = record { recipient = r; credential = c; grants = grants_of edits r; tables = tables_of edits r }

-- the view of a recipient, none where it isn't there
abbrev pub view_of : List Edit → List ℕ → Option CatalogView
view_of edits r = option_map (view_with edits r) (credential edits r)

-- by what a recipient is found: by the digest of its token, or by its name
pub data Who : Type 0 where
  token : List ℕ → Who
  named : List ℕ → Who

-- the recipient that has the digest, or that name
abbrev pub name_of : List Edit → Who → Option (List ℕ)
name_of edits (token digest) = find (has_digest edits digest) (recipients_made edits)
name_of edits (named r) = Some r

abbrev pub view_among : List Edit → Who → Option CatalogView
view_among edits who = option_and_then (view_of edits) (name_of edits who)

-- a table of a share that is listed as granted, by its whole name
abbrev pub behind : Granted → List (List ℕ) × (Binding × ℕ) → List (List ℕ) × Spot
behind g b = (g.share.now ∷ b.0, spot_with g.edition.now b.1)

-- the tables of the listed shares, one share after the other
abbrev pub joined : List Edit → List Granted → List (List (List ℕ) × Spot)
joined edits [] = []
joined edits (g ∷ gs) = map (behind g) (maps.entries (bindings_of edits g.share.now)) ++ joined edits gs
