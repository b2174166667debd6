-- Worlds: edits of a catalogue and commits to tables' logs, in one order and without any concurrency (Delta Lake PROTOCOL.md, "Delta Log Entries"; Delta Sharing PROTOCOL.md, "Concepts").
use Rattle.std.specs.Prelude.{ℕ, ◌^◌, ◌&&◌, List, [], ◌∷◌, ◌++◌, Bool, false, Option, is_none, nat_le, bytes_eq, option_and_then, if◌then◌else◌}
use Rattle.std.specs.List.{fold}
use Rattle.log_actions.specs.declared.actions.Action.{Action}
use Rattle.log_actions.specs.CommitTexts.{printed_bytes}
use Rattle.log_replay.specs.Support as support
use Rattle.share_book.specs.Looks.{look_of, who_of}
use Rattle.share_book.specs.Views.{Log, View, held, shown, view_as, whole_log}
use Rattle.share_book.specs.declared.look.Ask.{Ask}
use Rattle.share_book.specs.declared.look.Seen.{Seen}
use Rattle.share_catalog.specs.Catalogue.{refusal_of}
use Rattle.share_catalog.specs.Views.{Who}
use Rattle.share_catalog.specs.declared.edit.Edit.{Edit}
use Rattle.share_world.specs.declared.event.Event.{Event}
use Rattle.share_world.specs.declared.event.Event.TheVariants as event

-- ---- the catalogue and the logs

-- an edit that the catalogue refuses is passed over
abbrev pub edits_with : List Edit → Event → List Edit
edits_with edits (event.Edit e) = if is_none (refusal_of edits e) then edits ++ e ∷ [] else edits
edits_with edits (event.Commit location c) = edits
edits_with edits (event.Ask request now) = edits

-- the edits that are kept
abbrev pub edits_of : List Event → List Edit
edits_of events = fold edits_with [] events

-- a log takes a commit with which it is read and its printed texts have at most 64 MiB
abbrev pub takes : List (List Action) → List Action → Bool
takes log c = is_none (support.refusal_of (log ++ c ∷ [])) && nat_le (printed_bytes (log ++ c ∷ [])) (2 ^ 26)

-- a commit that the log doesn't take is passed over
abbrev pub with_commit : List (List Action) → List Action → List (List Action)
with_commit log c = if takes log c then log ++ c ∷ [] else log

abbrev pub commits_with : List ℕ → List (List Action) → Event → List (List Action)
commits_with location log (event.Commit place c) = if bytes_eq place location then with_commit log c.value else log
commits_with location log (event.Edit e) = log
commits_with location log (event.Ask request now) = log

-- the commits that are kept at a location
abbrev pub commits_of : List Event → List ℕ → List (List Action)
commits_of events location = fold (commits_with location) [] events

-- the log of a location, whose further versions aren't blocked
abbrev pub log_of : List Event → List ℕ → Log
log_of events location = whole_log (commits_of events location) false

-- ---- views

-- the view of whom a token's digest or a name finds behind these events, none where it finds none
abbrev pub view_of : List Event → Who → Option View
view_of events who = view_as shown (edits_of events) (log_of events) who

-- the whole logs of its tables
abbrev pub held_of : List Event → Who → Option View
held_of events who = view_as held (edits_of events) (log_of events) who

-- what is found in these behind the events for what is asked
abbrev pub looked : List Event → Option Ask → Option Seen
looked events ask = option_and_then (λ a. look_of (held_of events (who_of a.who)) a.want) ask
