-- What a request asks of a server's shared state: whose view, and what of it (Delta Sharing PROTOCOL.md, "REST APIs").
use Rattle.std.specs.Prelude.{ℕ, ℤ, List, Option, Some, None, Result, Ok, Err}
use Rattle.log_replay.specs.declared.times.Bound.{Bound}
use Rattle.log_replay.specs.declared.times.Bound.TheVariants as bound
use Rattle.page_token.specs.Cursors.{cursor_of}
use Rattle.page_token.specs.declared.cursor.Asked.{Asked}
use Rattle.page_token.specs.declared.cursor.Asked.TheVariants as asked
use Rattle.page_token.specs.declared.cursor.Cursor.{Cursor}
use Rattle.page_token.specs.declared.cursor.Cursor.TheVariants as cursor
use Rattle.share_book.specs.declared.look.Ask.{Ask}
use Rattle.share_book.specs.declared.look.Part.{Part}
use Rattle.share_book.specs.declared.look.Part.TheVariants as part
use Rattle.share_book.specs.declared.look.Want.{Want}
use Rattle.share_book.specs.declared.look.Want.TheVariants as want
use Rattle.share_book.specs.declared.look.Who.TheVariants as who
use Rattle.share_request.specs.declared.asked.Bound.{Bound as At}
use Rattle.share_request.specs.declared.asked.Bound.TheVariants as at
use Rattle.share_request.specs.declared.asked.Request.{Request}
use Rattle.share_request.specs.declared.asked.Request.TheVariants as request
use Rattle.share_request.specs.declared.asked.What.{What}
use Rattle.share_request.specs.declared.asked.What.TheVariants as what
use Rattle.share_request.specs.declared.fault.RequestFault.{RequestFault}
use Rattle.query_body.specs.declared.query.QueryBody.{QueryBody}
use Rattle.signed_link.specs.Parts.{parts_of}
use Rattle.signed_link.specs.declared.parts.LinkParts.{LinkParts}
use Rattle.share_reply.specs.declared.keys.ReplyKeys.{ReplyKeys}

-- ---- which version

abbrev pub asked_by : Option ℕ → Option ℤ → Asked
asked_by (Some version) moment = asked.Version version
asked_by None (Some moment) = asked.Moment moment
asked_by None None = asked.Latest

-- what isn't given is the latest version
abbrev pub asked_at : Option At → Asked
asked_at None = asked.Latest
asked_at (Some (at.Version version)) = asked.Version version
asked_at (Some (at.Moment moment)) = asked.Moment moment

-- a state, and the end of a range, is the last version at or before its moment
abbrev pub last_bound : Asked → Bound
last_bound asked.Latest = bound.Latest
last_bound (asked.Version version) = bound.Version version
last_bound (asked.Moment moment) = bound.AtOrBefore moment

-- a range begins with the first version at or after its moment
abbrev pub first_bound : Asked → Bound
first_bound asked.Latest = bound.Latest
first_bound (asked.Version version) = bound.Version version
first_bound (asked.Moment moment) = bound.AtOrAfter moment

-- "Query Table Version": the first version at or after a moment
abbrev pub from_bound : Option ℤ → Bound
from_bound None = bound.Latest
from_bound (Some moment) = bound.AtOrAfter moment

-- ---- which part of a table's log

-- a token tells the version that its first page was of
abbrev pub files_by : Option Cursor → Part
files_by (Some (cursor.Files c)) = part.PinnedFiles c.version
files_by _ = part.Place

abbrev pub files_part : ReplyKeys → QueryBody → Option (List ℕ) → Part
files_part keys q None = part.Files (last_bound (asked_by q.version q.moment))
files_part keys q (Some token) = files_by (cursor_of keys.token token)

abbrev pub feed_by : Option Cursor → Part
feed_by (Some (cursor.Feed c)) = part.PinnedFeed c.from c.to
feed_by _ = part.Place

abbrev pub feed_part : ReplyKeys → Option At → Option At → Option (List ℕ) → Part
feed_part keys from to None = part.Feed (first_bound (asked_at from)) (last_bound (asked_at to))
feed_part keys from to (Some token) = feed_by (cursor_of keys.token token)

-- ---- what

-- the part that is asked of a table, else names; a commit, a refresh and an edit are no recipient's
abbrev pub want_of : ReplyKeys → What → Want
want_of keys (what.Version table from) = want.Table table (part.Head (from_bound from))
want_of keys (what.Metadata table at) = want.Table table (part.Files (last_bound (asked_at at)))
want_of keys (what.Query table body) = want.Table table (files_part keys body body.token)
want_of keys (what.Changes table from to max token) = want.Table table (feed_part keys from to token)
want_of keys _ = want.Names

-- a request at fault is refused once it is known who asks
abbrev pub want_or_names : ReplyKeys → Result What RequestFault → Want
want_or_names keys (Ok w) = want_of keys w
want_or_names keys (Err fault) = want.Names

abbrev pub ask_by : Option LinkParts → Option Ask
ask_by None = None
ask_by (Some parts) = Some (record { who = who.Named parts.recipient; want = want.Table parts.table part.Place })

-- whose view a request is answered from, and what of it; none where it is answered alike whoever asks
abbrev pub ask_of : ReplyKeys → Request → Option Ask
ask_of keys (request.TurnedAway why) = None
ask_of keys (request.ByToken r) = Some (record { who = who.Token r.digest; want = want_or_names keys r.asked })
ask_of keys (request.ByLink by) = ask_by (parts_of keys.link by.target)
