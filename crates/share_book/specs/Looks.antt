-- What is taken out of a book in one turn for one request: a plain function of the recipient's view and of what is asked (Delta Sharing PROTOCOL.md, "REST APIs"). No number of a log is in it.
use Rattle.std.specs.Prelude.{◌≡◌, ℕ, List, [], ◌∷◌, Option, Some, None, map, option_and_then, option_map, unwrap_or}
use Rattle.std.specs.FinMap as maps
use Rattle.log_actions.specs.declared.actions.Action.{Action}
use Rattle.log_replay.specs.State.{state_of}
use Rattle.share_catalog.specs.TableNames.{parts_of}
use Rattle.share_catalog.specs.Views as catalog
use Rattle.share_catalog.specs.declared.table_name.TableName.{TableName}
use Rattle.share_book.specs.NamesView.{NamesView}
use Rattle.share_book.specs.Parts.{commits_for, files_of, found_of, version_of}
use Rattle.share_book.specs.Views.{Log, View, held_view, seen_log}
use Rattle.share_book.specs.declared.entry.Entry.{Entry}
use Rattle.share_book.specs.declared.look.Found.{Found}
use Rattle.share_book.specs.declared.look.Found.TheVariants as found
use Rattle.share_book.specs.declared.look.Part.{Part}
use Rattle.share_book.specs.declared.look.PartFound.{PartFound}
use Rattle.share_book.specs.declared.look.PartFound.TheVariants as part_found
use Rattle.share_book.specs.declared.look.Seen.{Seen}
use Rattle.share_book.specs.declared.look.Want.{Want}
use Rattle.share_book.specs.declared.look.Want.TheVariants as want
use Rattle.share_book.specs.declared.look.Who.{Who}
use Rattle.share_book.specs.declared.look.Who.TheVariants as who

-- by what a recipient is found
abbrev pub who_of : Who → catalog.Who
who_of (who.Token digest) = catalog.token digest
who_of (who.Named name) = catalog.named name

-- ---- names

abbrev pub share_of : List (List ℕ) → List ℕ
share_of [] = []
share_of (share ∷ rest) = share

abbrev pub table_of : List (List ℕ) → TableName
table_of [] = record { share = []; schema = []; table = [] }
table_of (share ∷ []) = record { share = share; schema = []; table = [] }
table_of (share ∷ schema ∷ []) = record { share = share; schema = schema; table = [] }
table_of (share ∷ schema ∷ table ∷ rest) = record { share = share; schema = schema; table = table }

-- the shares and the tables of a view, in byte order
abbrev pub names_in : View → NamesView
names_in view = record { shares = map (λ e. share_of e.0) (maps.entries view.catalog.grants); tables = map (λ e. table_of e.0) (maps.entries view.catalog.tables) }

-- ---- what is found

-- the log of a table that is seen
abbrev pub log_in : View → TableName → Log
log_in view t = unwrap_or (maps.get view.logs (parts_of t)) (seen_log None)

-- a table that isn't bound in a granted share, and one that isn't there, are one and the same
abbrev pub table_found : (catalog.Spot → Log → Part → PartFound) → Log → Part → Option catalog.Spot → Found
table_found find log p None = found.NoTable
table_found find log p (Some s) = found.Table s (find s log p)

abbrev pub found_in : (catalog.Spot → Log → Part → PartFound) → View → Want → Found
found_in find view want.Names = found.Names (names_in view)
found_in find view (want.Table t p) = table_found find (log_in view t) p (maps.get view.catalog.tables (parts_of t))

abbrev pub seen_in : (catalog.Spot → Log → Part → PartFound) → Want → View → Seen
seen_in find w view = record { recipient = view.catalog.recipient; expires = view.catalog.credential.expires; found = found_in find view w }

-- what is seen of a view, if there is one
abbrev pub look_of : Option View → Want → Option Seen
look_of view w = option_map (seen_in found_of w) view

-- ---- before the files are made

-- the same with a version in place of its files
abbrev pub glance_of : Option View → Want → Option Seen
glance_of view w = option_map (seen_in version_of w) view

abbrev pub table_commits : Log → Part → Option catalog.Spot → Option (List (List Action))
table_commits log p None = None
table_commits log p (Some s) = commits_for log p (version_of s log p)

abbrev pub commits_in : Want → View → Option (List (List Action))
commits_in want.Names view = None
commits_in (want.Table t p) view = table_commits (log_in view t) p (maps.get view.catalog.tables (parts_of t))

-- the commits of which the files are made, none where none are asked or no version is found
abbrev pub commits_of : Option View → Want → Option (List (List Action))
commits_of view w = option_and_then (commits_in w) view

-- ---- and when they are made

abbrev pub part_with : Option (List (List Action)) → PartFound → PartFound
part_with (Some commits) (part_found.Version version) = files_of version (state_of commits)
part_with _ p = p

abbrev pub found_with : Option (List (List Action)) → Found → Found
found_with commits (found.Names names) = found.Names names
found_with commits found.NoTable = found.NoTable
found_with commits (found.Table spot p) = found.Table spot (part_with commits p)

-- what is found with the files that the commits make
abbrev pub seen_with : Option (List (List Action)) → Seen → Seen
seen_with commits seen = record { recipient = seen.recipient; expires = seen.expires; found = found_with commits seen.found }

-- a glance with the files that its commits make is the look
abbrev pub GlancesBecomeLooks : Type 0
GlancesBecomeLooks = (history : List Entry) (who : catalog.Who) (w : Want) → option_map (seen_with (commits_of (held_view history who) w)) (glance_of (held_view history who) w) ≡ look_of (held_view history who) w
