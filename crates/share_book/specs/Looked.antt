-- What the code knows when it looks: a table's log, and what is found of edits and logs.
use Rattle.std.specs.Prelude.{ℕ, ◌<◌, ⊤, List, ◌∷◌, Option, Some, None, length, map}
use Rattle.std.specs.FinMap as maps
use Rattle.std.specs.List.{flat_map}
use Rattle.log_actions.specs.declared.actions.Action.{Action}
use Rattle.share_catalog.specs.Views as catalog
use Rattle.share_catalog.specs.declared.edit.Edit.{Edit}
use Rattle.share_catalog.specs.declared.listing.Granted.{Granted}
use Rattle.share_catalog.specs.declared.table_name.TableName.{TableName}
use Rattle.share_book.specs.History.{edits}
use Rattle.share_book.specs.NamesView.{NamesView}
use Rattle.share_book.specs.Looks.{share_of, table_commits, table_found, table_of}
use Rattle.share_book.specs.Views.{Log, log_at, seen_log}
use Rattle.share_book.specs.declared.entry.Entry.{Entry}
use Rattle.share_book.specs.declared.look.Found.{Found}
use Rattle.share_book.specs.declared.look.Found.TheVariants as found
use Rattle.share_book.specs.declared.look.Part.{Part}
use Rattle.share_book.specs.declared.look.PartFound.{PartFound}
use Rattle.share_book.specs.declared.look.PartFound.TheVariants as part_found
use Rattle.share_book.specs.declared.look.Want.{Want}
use Rattle.share_book.specs.declared.look.Want.TheVariants as want

-- the names that edits show a recipient
abbrev pub names_by : List Edit → List ℕ → NamesView
names_by es r = record { shares = map (λ e. share_of e.0) (maps.entries (catalog.grants_of es r)); tables = map (λ e. table_of e.0) (maps.entries (catalog.tables_of es r)) }

-- the tables that are bound in a share
abbrev pub tables_in : List Edit → List ℕ → List TableName
tables_in es share = map (λ e. table_of (share ∷ e.0)) (maps.entries (catalog.bindings_of es share))

-- the tables that are bound in the shares of grants, one share after the other
abbrev pub tables_of_grants : List Edit → List Granted → List TableName
tables_of_grants es grants = flat_map (λ g. tables_in es g.share.now) grants

-- the log of a table at its spot
abbrev pub log_by : List Entry → Option catalog.Spot → Log
log_by history None = seen_log None
log_by history (Some s) = log_at history s.location

abbrev pub table_by : (catalog.Spot → Log → Part → PartFound) → List Entry → Part → Option catalog.Spot → Found
table_by find history p spot = table_found find (log_by history spot) p spot

-- what a recipient that is there finds
abbrev pub found_by : (catalog.Spot → Log → Part → PartFound) → List Entry → List ℕ → Want → Found
found_by find history r want.Names = found.Names (names_by (edits history) r)
found_by find history r (want.Table t p) = table_by find history p (catalog.shared (edits history) r t)

-- the commits of which its files are made
abbrev pub commits_by : List Entry → List ℕ → Want → Option (List (List Action))
commits_by history r want.Names = None
commits_by history r (want.Table t p) = let spot = catalog.shared (edits history) r t in table_commits (log_by history spot) p spot

-- a version that was found is kept
abbrev pub IsKept : Log → PartFound → Type 0
IsKept log (part_found.Version version) = version < length log.commits
IsKept log _ = ⊤
