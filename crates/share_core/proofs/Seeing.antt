-- What is seen for a request tells whose it is.
use Rattle.std.proofs.Common.{◌≡◌, ℕ, List, Option, Some, None, option_and_then, option_map, refl}
use Rattle.share_book.specs.Looks.{who_of}
use Rattle.share_book.specs.Shown.{show}
use Rattle.share_book.specs.Views.{View}
use Rattle.share_book.specs.declared.look.Ask.{Ask}
use Rattle.share_reply.specs.Asking.{ask_of}
use Rattle.share_reply.specs.Replies.{seen_for, seen_in}
use Rattle.share_reply.specs.declared.keys.ReplyKeys.{ReplyKeys}
use Rattle.share_request.specs.declared.asked.Request.{Request}
use Rattle.share_world.specs.Worlds.{edits_of, log_of, looked}
use Rattle.share_world.specs.declared.event.Event.{Event}
use Rattle.share_core.specs.Asks.{is_view_of, view_asked, view_for}
use Rattle.share_core.specs.Seen.{is_chosen_by, is_seen_by}
use Rattle.share_book.specs.declared.look.Seen.{Seen}
use Rattle.share_book.proofs.Showing.{looks_are_shown}

shown_by : (events : List Event) (o : Option Ask) → option_map show (looked events o) ≡ option_and_then (seen_in (option_and_then (view_asked events) o)) o
shown_by events None = refl
shown_by events (Some ask) = looks_are_shown (edits_of events) (log_of events) (who_of ask.who) ask.want

-- what is found for a request, as it is shown, is what its view shows
pub shown_for : (keys : ReplyKeys) (events : List Event) (request : Request) → option_map show (looked events (ask_of keys request)) ≡ seen_for keys request (view_for keys events request)
shown_for keys events request = shown_by events (ask_of keys request)

-- it is the same recipient's as it is shown
pub whose_shown : (recipient : Option (List ℕ)) (seen : Option Seen) → is_chosen_by recipient seen ≡ is_chosen_by recipient (option_map show seen)
whose_shown None seen = refl
whose_shown (Some r) None = refl
whose_shown (Some r) (Some seen) = refl

seen_view : (recipient : List ℕ) (ask : Ask) (v : Option View) → is_seen_by recipient (seen_in v ask) ≡ is_view_of recipient v
seen_view recipient ask None = refl
seen_view recipient ask (Some v) = refl

-- of what is seen for a request it is known whose it is
seen_whose_by : (events : List Event) (recipient : List ℕ) (o : Option Ask) → is_seen_by recipient (option_and_then (seen_in (option_and_then (view_asked events) o)) o) ≡ is_view_of recipient (option_and_then (view_asked events) o)
seen_whose_by events recipient None = refl
seen_whose_by events recipient (Some ask) = seen_view recipient ask (view_asked events ask)

pub seen_whose : (keys : ReplyKeys) (events : List Event) (request : Request) (recipient : List ℕ) → is_seen_by recipient (seen_for keys request (view_for keys events request)) ≡ is_view_of recipient (view_for keys events request)
seen_whose keys events request recipient = seen_whose_by events recipient (ask_of keys request)
