-- The requests of a world, each with the view that it is answered from (Delta Sharing PROTOCOL.md, "REST APIs").
use Rattle.std.specs.Prelude.{ℕ, List, [], ◌∷◌, ◌++◌, Bool, false, Option, Some, None, bytes_eq, option_and_then, option_to_list}
use Rattle.share_book.specs.Looks.{who_of}
use Rattle.share_book.specs.Views.{View}
use Rattle.share_book.specs.declared.look.Ask.{Ask}
use Rattle.share_reply.specs.Asking.{ask_of}
use Rattle.share_reply.specs.declared.keys.ReplyKeys.{ReplyKeys}
use Rattle.share_request.specs.declared.asked.Request.{Request}
use Rattle.share_world.specs.Worlds.{view_of}
use Rattle.share_world.specs.declared.event.Event.{Event}
use Rattle.share_world.specs.declared.event.Event.TheVariants as event

abbrev pub view_asked : List Event → Ask → Option View
view_asked events ask = view_of events (who_of ask.who)

-- the view that a request is answered from
abbrev pub view_for : ReplyKeys → List Event → Request → Option View
view_for keys events request = option_and_then (view_asked events) (ask_of keys request)

-- a request with its moment and the view that it is answered from
pub record Asked : Type 0 where
  pub request : Request
  pub moment : ℕ
  pub view : Option View

abbrev pub asked_by : ReplyKeys → List Event → Event → Option Asked
asked_by keys before (event.Ask request now) = Some (record { request = request; moment = now; view = view_for keys before request })
asked_by keys before (event.Commit location c) = None
asked_by keys before (event.Edit e) = None

-- the requests among later events, each with the view at its point
abbrev pub asks_from : ReplyKeys → List Event → List Event → List Asked
asks_from keys before [] = []
asks_from keys before (e ∷ later) = option_to_list (asked_by keys before e) ++ asks_from keys (before ++ e ∷ []) later

-- all requests, in order
abbrev pub asks_of : ReplyKeys → List Event → List Asked
asks_of keys events = asks_from keys [] events

-- it is answered from that recipient's view
abbrev pub is_view_of : List ℕ → Option View → Bool
is_view_of recipient None = false
is_view_of recipient (Some v) = bytes_eq v.catalog.recipient recipient

abbrev pub is_of : List ℕ → Asked → Bool
is_of recipient a = is_view_of recipient a.view
