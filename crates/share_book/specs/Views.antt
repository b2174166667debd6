-- What a recipient sees of a server at a point of its history: what the catalogue shows it, and the logs of the tables that it sees, each as its binding shows it. Nothing of other recipients, of other shares, of numbers of logs is in it.
use Rattle.std.specs.Prelude.{ℕ, List, [], Bool, false, Option, Some, None, Result, Ok, Err, filter, is_some, map, option_and_then, option_map}
use Rattle.std.specs.FinMap as maps
use Rattle.log_actions.specs.declared.actions.Action.{Action}
use Rattle.log_replay.specs.State.{State, state_of}
use Rattle.log_replay.specs.Times.{fronts, marks_in}
use Rattle.log_replay.specs.declared.refusal.ReplayRefusal.{ReplayRefusal}
use Rattle.log_replay.specs.declared.times.Mark.{Mark}
use Rattle.pred_tree.specs.Shown.{shows}
use Rattle.share_catalog.specs.Catalogue.{tables_bound}
use Rattle.share_catalog.specs.TableNames.{parts_of, texts_cmp}
use Rattle.share_catalog.specs.Views.{CatalogView, Spot, Who, keyed, shared, view_among}
use Rattle.share_catalog.specs.declared.edit.Edit.{Edit}
use Rattle.share_catalog.specs.declared.table_name.TableName.{TableName}
use Rattle.share_book.specs.History.{edits, table_on}
use Rattle.share_book.specs.Legal.{log_at as number_at}
use Rattle.share_book.specs.TableView.{TableLog}
use Rattle.share_book.specs.declared.entry.Entry.{Entry}

-- ---- a log

-- A table's log by what is asked of it: of each version that is kept its mark and its state, the commits, and whether its further versions are blocked.
pub record Log : Type 0 where
  pub marks : List Mark
  pub states : List (Result State ReplayRefusal)
  pub commits : List (List Action)
  pub blocked : Bool

-- the log of some commits, version 0 first
abbrev pub whole_log : List (List Action) → Bool → Log
whole_log commits blocked = record { marks = marks_in commits; states = map state_of (fronts commits); commits = commits; blocked = blocked }

abbrev pub seen_log : Option TableLog → Log
seen_log None = whole_log [] false
seen_log (Some t) = whole_log t.commits (is_some t.block)

-- the log of a location, empty where none was loaded
abbrev pub log_at : List Entry → List ℕ → Log
log_at history location = seen_log (option_and_then (λ number. table_on number history) (number_at history location))

-- ---- what is shown of it

-- a version's time alone
abbrev pub bare : Mark → Mark
bare m = record { time = m.time; feed = false; meta_at = 0; protocol_at = 0 }

-- what a restriction shows of a state: its version, its protocol, its metaData and the files that it shows
abbrev pub shown_state : Option (List ℕ) → State → State
shown_state None s = s
shown_state (Some text) s = record s { files = filter (shows (Some text) s.meta) s.files; txns = [] }

abbrev pub shown_result : Option (List ℕ) → Result State ReplayRefusal → Result State ReplayRefusal
shown_result only (Ok s) = Ok (shown_state only s)
shown_result only (Err why) = Err why

-- What is shown of a log: all of it; through a restriction, of each version its time and what is shown of its state, whether further versions are blocked, and no commit.
abbrev pub shown_log : Option (List ℕ) → Log → Log
shown_log None log = log
shown_log (Some text) log = record { marks = map bare log.marks; states = map (shown_result (Some text)) log.states; commits = []; blocked = log.blocked }

-- ---- a view

-- the log of a spot as it is kept
abbrev pub held : (List ℕ → Log) → Spot → Log
held logs spot = logs spot.location

-- and as its binding shows it
abbrev pub shown : (List ℕ → Log) → Spot → Log
shown logs spot = shown_log spot.only (logs spot.location)

-- the log of a table that the recipient sees
abbrev pub log_of : List Edit → (Spot → Log) → List ℕ → TableName → Option Log
log_of edits log r t = option_map log (shared edits r t)

-- the logs of the tables that a recipient sees, by share, schema and table
abbrev pub logs_of : List Edit → (Spot → Log) → List ℕ → maps.FinMap texts_cmp Log
logs_of edits log r = maps.from_entries (keyed parts_of (log_of edits log r) (tables_bound edits))

pub record View : Type 0 where
  pub catalog : CatalogView
  pub logs : maps.FinMap texts_cmp Log

abbrev pub view_with : List Edit → (Spot → Log) → CatalogView → View
view_with edits log catalog = record { catalog = catalog; logs = logs_of edits log catalog.recipient }

-- the view of whom a token's digest or a name finds, none where it finds none, with each table's log in one of these two ways
abbrev pub view_as : ((List ℕ → Log) → Spot → Log) → List Edit → (List ℕ → Log) → Who → Option View
view_as way edits logs who = option_map (view_with edits (way logs)) (view_among edits who)

-- What a book has of a recipient's tables: whole logs, of which all bindings of a location make use.
abbrev pub held_view : List Entry → Who → Option View
held_view history who = view_as held (edits history) (log_at history) who

-- what the recipient sees
abbrev pub view_by : List Entry → Who → Option View
view_by history who = view_as shown (edits history) (log_at history) who
