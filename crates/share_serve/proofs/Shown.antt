-- What is shown of what is seen for a request is what its view shows.
use Rattle.std.proofs.Common.{◌≡◌, List, Option, Some, option_map, option_and_then, ap, ◌∙◌}
use Rattle.share_book.specs.History.{edits}
use Rattle.share_book.specs.Looks.{look_of, who_of}
use Rattle.share_book.specs.Shown.{show}
use Rattle.share_book.specs.Views.{held_view, log_at}
use Rattle.share_book.specs.declared.entry.Entry.{Entry}
use Rattle.share_book.specs.declared.look.Ask.{Ask}
use Rattle.share_book.specs.declared.look.Seen.{Seen}
use Rattle.share_book.proofs.Showing.{looks_are_shown}
use Rattle.share_request.specs.declared.asked.Request.{Request}
use Rattle.share_reply.specs.Asking.{ask_of}
use Rattle.share_reply.specs.Replies.{seen_for, seen_in, view_asked, view_for}
use Rattle.share_reply.specs.declared.keys.ReplyKeys.{ReplyKeys}

-- what the view of whom is asked for shows
abbrev shown_by : List Entry → Option Ask → Option Seen
shown_by point o = option_and_then (seen_in (option_and_then (view_asked point) o)) o

-- what was seen of whole logs
pub look_shown : (keys : ReplyKeys) (asked : Request) (point : List Entry) (ask : Ask) (seen : Option Seen) → Some ask ≡ ask_of keys asked → seen ≡ look_of (held_view point (who_of ask.who)) ask.want
    → option_map show seen ≡ seen_for keys asked (view_for keys asked point)
look_shown keys asked point ask seen is looked = ap (option_map show) looked ∙ looks_are_shown (edits point) (log_at point) (who_of ask.who) ask.want ∙ ap (shown_by point) is
