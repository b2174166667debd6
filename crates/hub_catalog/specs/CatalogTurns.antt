-- What is done of the catalogue within one turn.
use Rattle.std.specs.Prelude.{◌≡◌, ℕ, ◌≤◌, ◌<◌, Bool, true, false, List, [], ◌∷◌, ◌++◌, Option, Some, None, option_map, ⊤, IfSome, IsSome, length, slice_index}
use Rattle.edge_core.specs.Objects.{Between, Objects}
use Rattle.log_store.specs.Log.{log_in}
use Rattle.log_store.specs.declared.loaded.Loaded.{Loaded}
use Rattle.share_catalog.specs.declared.edit.Edit.{Edit}
use Rattle.share_catalog.specs.Catalogue.{bound_location, refusal_of}
use Rattle.share_book.specs.Legal.{Follows, IsKeptLog, has_log}
use Rattle.share_book.specs.BookView.{BookView}
use Rattle.share_book.specs.Books.{OthersRest}
use Rattle.share_book.specs.declared.entry.Entry.{Entry}
use Rattle.share_book.specs.declared.entry.Act.{Act}
use Rattle.share_book.specs.declared.entry.LogStart.{LogStart}
use Rattle.share_book.specs.declared.entry.Act.TheVariants.{Begin, FoundEdit, Load, Abort}
use Rattle.share_book.specs.History.{edit_of, edits, entry, open_on, pending}
use Rattle.hub_catalog.specs.declared.catalog_turns.Checked.{Checked}
use Rattle.hub_catalog.specs.declared.catalog_turns.Checked.TheVariants as checked
use Rattle.hub_catalog.specs.declared.catalog_turns.NewEdit.{NewEdit}
use Rattle.hub_catalog.specs.declared.catalog_turns.Opened.{Opened}
use Rattle.hub_catalog.specs.declared.catalog_turns.Opened.TheVariants as opened
use Rattle.hub_catalog.specs.declared.catalog_turns.Published.{Published}
use Rattle.hub_catalog.specs.declared.catalog_turns.Published.TheVariants as published
use Rattle.hub_catalog.specs.declared.new_log.Allowed.{Allowed}
use Rattle.hub_catalog.specs.declared.new_log.Allowed.TheVariants as allowed

-- the entry of a log that was loaded, if one was
abbrev pub load_entries : ℕ → Option LogStart → List Entry
load_entries k None = []
load_entries k (Some s) = entry k 0 (Load s) ∷ []

-- the entries of a log that was loaded, if one was, and of the act that follows
abbrev pub loading : ℕ → Option LogStart → Act → List Entry
loading k None a = entry k 0 a ∷ []
loading k (Some s) a = entry k 0 (Load s) ∷ entry k 0 a ∷ []

-- a log that was loaded from a location
abbrev pub start_of_loaded : List ℕ → Loaded → LogStart
start_of_loaded location l = record { location = location; commits = l.commits; block = option_map (λ b. b.version) l.block }

-- a table's log as the objects have it at a location
abbrev pub start_from : List ℕ → Objects → LogStart
start_from location os = start_of_loaded location (log_in location os)

-- The log that is loaded for an edit stands at the location that the edit binds, and is the objects' at a moment between these.
abbrev pub LoadOf : Option Objects → Option Objects → Edit → Option LogStart → Type 0
LoadOf old new e None = ⊤
LoadOf old new e (Some s) = (bound_location e ≡ Some s.location) × Between old new (λ os. s ≡ start_from s.location os)

abbrev pub Opens : Opened → ℕ → List Entry → List Entry → Type 0
Opens (opened.Open n) k h h' = (h' ≡ h ++ entry k 0 Begin ∷ []) × (n ≡ length (edits h))
Opens opened.Held k h h' = (h' ≡ h) × IsSome (open_on 0 h)
Opens opened.NoMemory k h h' = h' ≡ h

-- the edit was added after its log, and then perhaps the Begin ended
abbrev pub Publishes : Published → ℕ → Edit → Option LogStart → List Entry → List Entry → Type 0
Publishes (published.Open n) k e l h h' = (h' ≡ h ++ loading k l (FoundEdit e)) × (n ≡ length (edits h'))
Publishes published.NoMemory k e l h h' = h' ≡ h ++ (loading k l (FoundEdit e) ++ entry k 0 Abort ∷ [])

abbrev pub located_by : List Entry → Option (List ℕ) → Bool
located_by h None = true
located_by h (Some location) = has_log h location

-- a table that the edit binds has a log
abbrev pub is_located : List Entry → Edit → Bool
is_located h e = located_by h (bound_location e)

abbrev pub ChecksIn : Checked → Edit → List Entry → Type 0
ChecksIn checked.Located e h = (refusal_of (edits h) e ≡ None) × (is_located h e ≡ true)
ChecksIn checked.Unlocated e h = (refusal_of (edits h) e ≡ None) × (is_located h e ≡ false)
ChecksIn (checked.Refused r) e h = refusal_of (edits h) e ≡ Some r

-- a table that the edit binds has a log, or gets this one
abbrev pub LoadFits : List Entry → Edit → Option LogStart → Type 0
LoadFits h e None = is_located h e ≡ true
LoadFits h e (Some s) = (bound_location e ≡ Some s.location) × (has_log h s.location ≡ false) × IsKeptLog s.commits

-- The edit may be added after its log, and its shared copy is given.
abbrev pub TakesEdit : List Entry → NewEdit → Type 0
TakesEdit h n = (n.shared ≡ n.edit) × (refusal_of (edits h) n.edit ≡ None) × LoadFits h n.edit n.load

-- the edit may be added after this log, or why not
abbrev pub AllowsIn : Allowed → Edit → Option Objects → Option Objects → List Entry → Type 0
AllowsIn (allowed.Fits l) e old new h = (refusal_of (edits h) e ≡ None) × LoadFits h e l × LoadOf old new e l
AllowsIn (allowed.Refused r) e old new h = refusal_of (edits h) e ≡ Some r
AllowsIn (allowed.Failed r) e old new h = ⊤

-- A log was loaded for an edit, if one was needed: now the edit may be added.
pub record IsReadyFor (k : ℕ) (e : Edit) (l : Option LogStart) (b b' : BookView) : Type 0 where
  pub history : b'.past.history ≡ b.past.history ++ load_entries k l
  pub edits : edits b'.past.history ≡ edits b.past.history
  pub holder : open_on 0 b'.past.history ≡ Some k
  pub located : IfSome (bound_location e) (λ location. has_log b'.past.history location ≡ true)
  pub follows : (a : Act) → edit_of a ≡ Some e → Follows (pending b'.past.history) a
  pub lines : 0 < length b'.past.rooms
  pub room : 2 ≤ slice_index b'.past.rooms 0
  pub spare : 1 ≤ b'.edit_room
  pub others : OthersRest 0 b'

abbrev pub GoesOn : Published → ℕ → List Entry → List Entry → Type 0
GoesOn (published.Open n) k h h' = (h' ≡ h) × (n ≡ length (edits h))
GoesOn published.NoMemory k h h' = h' ≡ h ++ entry k 0 Abort ∷ []
