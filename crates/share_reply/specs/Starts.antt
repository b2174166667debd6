-- Where pages begin, as private functions have it.
use Rattle.std.specs.Prelude.{ℕ, ◌+◌, ◌-◌, List, [], ◌∷◌, Bool, Option, Some, None, Result, length, nat_le, nat_lt, if◌then◌else◌}
use Rattle.std.specs.Fmt.{decimal}
use Rattle.case_table.specs.declared.refuse.Refusal.TheVariants.{ChangesNotEnabled, TokenAhead}
use Rattle.change_feed.specs.Changes.{ChangedFile}
use Rattle.log_actions.specs.declared.actions.MetaData.{MetaData}
use Rattle.log_actions.specs.declared.actions.Protocol.{Protocol}
use Rattle.page_token.specs.declared.cursor.TableAccess.{TableAccess}
use Rattle.page_token.specs.declared.cursor.FilesCursor.{FilesCursor}
use Rattle.share_book.specs.declared.look.FeedPart.{FeedPart}
use Rattle.share_lines.specs.declared.kinds.EndLine.{EndLine}
use Rattle.query_body.specs.declared.query.QueryBody.{QueryBody}
use Rattle.share_reply.specs.Answer.{Ending, Page}
use Rattle.share_reply.specs.Bodies.{end_line, page_lines}
use Rattle.share_reply.specs.Feeds as feeds
use Rattle.share_reply.specs.Feeds.{ChangesQuery, FeedStart}
use Rattle.share_reply.specs.Files as files
use Rattle.share_reply.specs.Files.{FilesStart}
use Rattle.share_reply.specs.declared.feeds.ChangesAsked.{ChangesAsked}
use Rattle.share_reply.specs.declared.feeds.FeedBegin.{FeedBegin}
use Rattle.share_reply.specs.declared.files.FilesBegin.{FilesBegin}
use Rattle.share_reply.specs.Refusing.{where_all}
use Rattle.share_reply.specs.declared.keys.ReplyKeys.{ReplyKeys}
use Rattle.share_reply.specs.declared.page.Paged.{Paged}
use Rattle.share_reply.specs.Refusing.{Refused}

abbrev pub files_start : FilesBegin → FilesStart
files_start s = record { asked = s.asked; version = s.version; hint = s.hint; place = s.place }

-- with a token, where that tells; else at the version that is found
abbrev pub files_start_by : QueryBody → Option FilesCursor → ℕ → FilesStart
files_start_by q None version = files.first_start q version
files_start_by q (Some c) version = files.start_at c

abbrev pub query_in : ChangesAsked → ChangesQuery
query_in q = record { from = q.from; to = q.to; max = q.max; token = q.token.now }

abbrev pub feed_start : FeedBegin → FeedStart
feed_start s = record { asked_from = s.asked_from; asked_to = s.asked_to; from = s.from; to = s.to; place = s.place }

-- where a token tells, else at the first change that is found
abbrev pub feed_start_by : ChangesQuery → Option FeedBegin → FeedPart → FeedStart
feed_start_by q None f = feeds.first_start q f
feed_start_by q (Some b) f = feed_start b

-- the end, where pages are asked for
abbrev pub end_of : ReplyKeys → Bool → Ending → Option EndLine
end_of keys is_paged e = if is_paged then Some (end_line keys e) else None

-- a page as its version and its lines
abbrev pub paged : ReplyKeys → Page → Paged
paged keys p = record { version = p.version; lines = page_lines keys p }

-- the page of the changes that are found, with what holds at the last version
abbrev pub page_of_changes : ReplyKeys → TableAccess → ℕ → ChangesQuery → FeedStart → Option Protocol → Option MetaData → List ChangedFile → Result Page Refused
page_of_changes keys a now q s held meta changes = where_all ((nat_le s.place (length changes), TokenAhead) ∷ []) (feeds.with_meta keys a now q s (feeds.told_protocol held) changes (feeds.or_unsupported meta))

-- the place behind so many of a list, where more are left
abbrev pub behind : ℕ → Option ℕ → ℕ → Option ℕ
behind count None place = None
behind count (Some most) place = if nat_lt most (count - place) then Some (place + most) else None

-- the feed isn't on at that version
abbrev pub off_at : ℕ → Refused
off_at version = record { refusal = ChangesNotEnabled; detail = decimal version }
