-- How a book stands for the events up to a point.
use Rattle.std.specs.Prelude.{◌≡◌, ⊤, ℕ, ◌<◌, List, [], ◌∷◌, ◌++◌, true, false, Option, Some, None, bytes_eq, filter_map, length, option_and_then}
use Rattle.std.specs.List.{list_any}
use Rattle.log_actions.specs.declared.actions.Action.{Action}
use Rattle.share_catalog.specs.Catalogue.{distinct, locations_bound}
use Rattle.share_catalog.specs.declared.edit.Edit.{Edit}
use Rattle.share_book.specs.BookView.{BookView}
use Rattle.share_book.specs.Books.{loaded}
use Rattle.share_book.specs.History as history
use Rattle.share_book.specs.History.{block_on, commit_on, entry, open_on, pending, starts}
use Rattle.share_book.specs.Legal.{IsKeptLog, has_log}
use Rattle.share_book.specs.Looks.{look_of, who_of}
use Rattle.share_book.specs.Views.{held_view, log_at}
use Rattle.share_book.specs.declared.entry.Act.TheVariants.{Abort, Begin, Found, Load, OwnEdit}
use Rattle.share_book.specs.declared.entry.Entry.{Entry}
use Rattle.share_book.specs.declared.entry.LogStart.{LogStart}
use Rattle.share_book.specs.declared.look.Ask.{Ask}
use Rattle.share_book.specs.declared.look.Seen.{Seen}
use Rattle.share_world.specs.Worlds.{commits_of, edits_of, log_of}
use Rattle.share_world.specs.declared.event.Event.{Event}

-- no log is waited for, none is begun on, and each location that was bound has one
pub record IsIdle (h : List Entry) : Type 0 where
  pub settled : pending h ≡ None
  pub closed : (j : ℕ) → open_on j h ≡ None
  pub beyond : (j : ℕ) → length (starts h) < j → (filter_map (commit_on j) h ≡ []) × (filter_map (block_on j) h ≡ [])
  pub bound : (l : List ℕ) → has_log h l ≡ list_any (bytes_eq l) (locations_bound (history.edits h))
  pub count : length (starts h) ≡ length (distinct bytes_eq (locations_bound (history.edits h)))

-- its edits are those that are kept of the events, and each of its logs is the events'
pub record Stands (h : List Entry) (events : List Event) : Type 0 where
  pub idle : IsIdle h
  pub edits : history.edits h ≡ edits_of events
  pub logs : (l : List ℕ) → has_log h l ≡ true → log_at h l ≡ log_of events l

-- what is found at a point for what is asked
abbrev pub seen_at : List Entry → Option Ask → Option Seen
seen_at h ask = option_and_then (λ a. look_of (held_view h (who_of a.who)) a.want) ask

-- a log more, if one is loaded
abbrev pub loaded_by : Option LogStart → BookView → BookView
loaded_by None b = b
loaded_by (Some s) b = loaded b 0 s

-- the history after an edit, and the log that it needs
abbrev pub edited_history : List Entry → Option LogStart → Edit → List Entry
edited_history h None e = (h ++ entry 0 0 Begin ∷ []) ++ entry 0 0 (OwnEdit e) ∷ []
edited_history h (Some s) e = ((h ++ entry 0 0 Begin ∷ []) ++ entry 0 0 (Load s) ∷ []) ++ entry 0 0 (OwnEdit e) ∷ []

-- the history after a commit on a log
abbrev pub committed_history : List Entry → ℕ → List Action → List Entry
committed_history h j c = ((h ++ entry 0 j Begin ∷ []) ++ entry 0 j (Found c) ∷ []) ++ entry 0 j Abort ∷ []

-- the log that events leave at a location, as it is loaded
abbrev pub start_of : List Event → List ℕ → LogStart
start_of events l = record { location = l; commits = commits_of events l; block = None }

-- a location that an edit binds has a log, or gets this one
abbrev pub LoadFits : List Entry → Option (List ℕ) → Option LogStart → Type 0
LoadFits h None None = ⊤
LoadFits h (Some l) None = has_log h l ≡ true
LoadFits h o (Some s) = (o ≡ Some s.location) × (has_log h s.location ≡ false) × IsKeptLog s.commits
