-- What a recipient is entitled to, as the history says it, and that it is given it: of the definitions alone (Delta Sharing PROTOCOL.md, "REST APIs"). No test of a reply is among the premises, but for whether a query agrees with its token.
use Rattle.std.specs.Prelude.{◌≡◌, ◌⊎◌, ◌≤◌, ◌<◌, ℕ, ℤ, ◌+◌, true, false, List, [], length, Option, Some, None, IfSome, Ok}
use Rattle.std.specs.FinMap as maps
use Rattle.case_table.specs.declared.routing.Route.{Route}
use Rattle.change_feed.specs.Changes.{ChangedFile}
use Rattle.change_feed.specs.Feed.{feed_of}
use Rattle.edge_core.specs.Objects.{Objects}
use Rattle.file_ranges.specs.Picks.{asked}
use Rattle.file_ranges.specs.declared.span.Span.{Span}
use Rattle.log_actions.specs.Paths.{name_under}
use Rattle.log_replay.specs.State.{State, state_of}
use Rattle.log_replay.specs.declared.times.Bound.{Bound}
use Rattle.log_replay.specs.declared.times.Bound.TheVariants as bound
use Rattle.page_token.specs.Cursors.{cursor_of}
use Rattle.page_token.specs.declared.cursor.Cursor.TheVariants as cursor
use Rattle.page_token.specs.declared.cursor.FeedCursor.{FeedCursor}
use Rattle.page_token.specs.declared.cursor.FilesCursor.{FilesCursor}
use Rattle.page_token.specs.declared.cursor.ListKind.TheVariants as kind
use Rattle.page_token.specs.declared.cursor.TableAccess.{TableAccess}
use Rattle.share_book.specs.History.{edits}
use Rattle.share_book.specs.Parts.{resolved_at, up_to}
use Rattle.share_book.specs.Views.{Log, log_at, shown_state}
use Rattle.share_book.specs.declared.entry.Entry.{Entry}
use Rattle.share_catalog.specs.Catalogue.{binding_edition, grant_edition}
use Rattle.share_catalog.specs.Catalogue as catalogue
use Rattle.share_catalog.specs.Views.{name_of, token}
use Rattle.share_catalog.specs.declared.credential.Credential.{Credential}
use Rattle.share_catalog.specs.declared.edit.Binding.{Binding}
use Rattle.share_catalog.specs.declared.table_name.TableName.{TableName}
use Rattle.share_request.specs.declared.asked.Bound.{Bound as At}
use Rattle.share_request.specs.declared.asked.ByLink.{ByLink}
use Rattle.share_request.specs.declared.asked.ListPage.{ListPage}
use Rattle.share_request.specs.declared.asked.Request.{Request}
use Rattle.share_request.specs.declared.asked.Request.TheVariants as request
use Rattle.share_request.specs.declared.asked.ResponseFormat.{ResponseFormat}
use Rattle.share_request.specs.declared.asked.What.{What}
use Rattle.share_request.specs.declared.asked.What.TheVariants as what
use Rattle.query_body.specs.declared.query.QueryBody.{QueryBody}
use Rattle.signed_link.specs.Parts.{parts_of}
use Rattle.signed_link.specs.declared.parts.LinkParts.{LinkParts}
use Rattle.share_reply.specs.Answer.{object}
use Rattle.share_reply.specs.Asking.{asked_at, asked_by, first_bound, from_bound, last_bound}
use Rattle.share_reply.specs.Bodies.{reply_of}
use Rattle.share_reply.specs.Formats.{format_of}
use Rattle.share_reply.specs.Feeds.{ChangesQuery}
use Rattle.share_reply.specs.Feeds as feeds
use Rattle.share_reply.specs.Files as files
use Rattle.share_reply.specs.Lists.{Listing, list_cursor, listing}
use Rattle.share_reply.specs.Replies.{answered_at}
use Rattle.share_reply.specs.declared.keys.ReplyKeys.{ReplyKeys}
use Rattle.response_text.specs.declared.status.Status.TheVariants as status
use Rattle.share_serve.specs.Callers.{by_request, party_of}
use Rattle.share_serve.specs.Callers as by
use Rattle.share_serve.specs.Laws.{answer_at, request_of}
use Rattle.share_serve.specs.Responses.{object_response, out_response, response_of}
use Rattle.share_serve.specs.Turns.{Serves, Turn}
use Rattle.share_serve.specs.Turns as turns
use Rattle.share_serve.specs.WholeSessions.{Stays}
use Rattle.share_serve.specs.declared.caller.Party.TheVariants as party
use Rattle.share_serve.specs.declared.response.Response.{Response}
use Rattle.share_serve.specs.declared.server.Server.{Server}

-- ---- who asks

-- A recipient asks at a point of the history, in a format: it has the token, and its credential isn't over.
pub record Asking : Type 0 where
  pub keys : ReplyKeys
  pub point : List Entry
  pub now : ℕ
  pub digest : List ℕ
  pub route : Route
  pub format : ResponseFormat
  pub recipient : List ℕ
  pub has_token : name_of (edits point) (token digest) ≡ Some recipient
  pub credential : Credential
  pub is_credential : catalogue.credential (edits point) recipient ≡ Some credential
  pub is_fresh : IfSome credential.expires (λ end. now < end)

-- its request in form
abbrev pub request_for : Asking → What → Request
request_for a w = request.ByToken (record { digest = a.digest; route = a.route; format = a.format; asked = Ok w })

-- It is answered 200 (RFC 9110, section 15.3.1), with that version of the table, where a table is asked for.
abbrev pub IsGiven : Asking → What → Option ℕ → Type 0
IsGiven a w version = (r : Response) × (response_of (reply_of a.keys a.format (answered_at a.keys a.point a.now (request_for a w))) ≡ Some r) × (r.status ≡ status.Ok version)

-- ---- names

abbrev pub IsGranted : List Entry → (recipient share : List ℕ) → Type 0
IsGranted point recipient share = catalogue.granted (edits point) recipient share ≡ true

-- a table that is bound in a share that the recipient is granted
pub record Shares (point : List Entry) (recipient : List ℕ) (name : TableName) : Type 0 where
  pub is_granted : IsGranted point recipient name.share
  pub binding : Binding
  pub is_bound : catalogue.bound (edits point) name ≡ Some binding

-- no token, or one that this listing gave to this recipient
abbrev pub IsListed : Asking → Listing → Type 0
IsListed a l = IfSome l.token (λ text. (after : List ℕ) × (cursor_of a.keys.token text ≡ Some (cursor.List (list_cursor a.recipient l after))))

-- Names of what is granted are listed: shares; a share; its schemas and its tables; and the tables of a schema that has one.
pub record NamesAreGiven : Type 0 where
  pub shares : (a : Asking) (p : ListPage) → IsListed a (listing kind.Shares [] [] p) → IsGiven a (what.ListShares p) None
  pub share : (a : Asking) (share : List ℕ) → IsGranted a.point a.recipient share → IsGiven a (what.GetShare share) None
  pub schemas : (a : Asking) (share : List ℕ) (p : ListPage) → IsGranted a.point a.recipient share → IsListed a (listing kind.Schemas share [] p) → IsGiven a (what.ListSchemas share p) None
  pub tables : (a : Asking) (t : TableName) (p : ListPage) → Shares a.point a.recipient t → IsListed a (listing kind.Tables t.share t.schema p) → IsGiven a (what.ListTables t.share t.schema p) None
  pub all_tables : (a : Asking) (share : List ℕ) (p : ListPage) → IsGranted a.point a.recipient share → IsListed a (listing kind.AllTables share [] p) → IsGiven a (what.ListAll share p) None

-- ---- versions of a table

-- the whole log of a table that is shared
abbrev pub shared_log : (point : List Entry) (recipient : List ℕ) (name : TableName) → Shares point recipient name → Log
shared_log point recipient name t = log_at point t.binding.location

-- The version that is meant is kept: the latest, where none that can't be read follows it; the version of that number; or that of a moment.
abbrev pub Means : Log → Bound → ℕ → Type 0
Means log bound.Latest version = (version + 1 ≡ length log.commits) × (log.blocked ≡ false)
Means log (bound.Version n) version = (version ≡ n) × (n < length log.commits)
Means log (bound.AtOrBefore moment) version = resolved_at log (bound.AtOrBefore moment) ≡ Ok version
Means log (bound.AtOrAfter moment) version = resolved_at log (bound.AtOrAfter moment) ≡ Ok version

-- and may be told: the table is shared with its history, or the latest version is asked for; and it is shared from there on
pub record Tells (log : Log) (binding : Binding) (b : Bound) (version : ℕ) : Type 0 where
  pub means : Means log b version
  pub may : (binding.history ≡ true) ⊎ (b ≡ bound.Latest)
  pub from_first : binding.first ≤ version

-- "Query Table Version"
abbrev pub VersionsAreGiven : Type 0
VersionsAreGiven = (a : Asking) (name : TableName) (t : Shares a.point a.recipient name) (from : Option ℤ) (version : ℕ)
    → Tells (shared_log a.point a.recipient name t) t.binding (from_bound from) version → IsGiven a (what.Version name from) (Some version)

-- "Query Table Metadata", of a version whose state can be made
abbrev pub MetadataIsGiven : Type 0
MetadataIsGiven = (a : Asking) (name : TableName) (t : Shares a.point a.recipient name) (at : Option At) (version : ℕ) (state : State) (log : Log) → log ≡ shared_log a.point a.recipient name t
    → Tells log t.binding (last_bound (asked_at at)) version → state_of (up_to log version) ≡ Ok state → IsGiven a (what.Metadata name at) (Some version)

-- ---- files

-- whose a table is now: what tokens are made for that are given now
abbrev pub access_now : List Entry → (recipient : List ℕ) → TableName → TableAccess
access_now point recipient name = record {
  recipient = recipient;
  share = name.share;
  schema = name.schema;
  table = name.table;
  grant = grant_edition (edits point) recipient name.share;
  binding = binding_edition (edits point) name;
}

-- the token of a page of files, given under the editions that hold now, of a version that is kept and shared and of a place in the files of it that are shown
pub record IsFilesToken (a : Asking) (name : TableName) (log : Log) (binding : Binding) (q : QueryBody) (text : List ℕ) (c : FilesCursor) : Type 0 where
  pub is_cursor : cursor_of a.keys.token text ≡ Some (cursor.Files c)
  pub own : c.access ≡ access_now a.point a.recipient name
  pub agrees : files.agrees q c ≡ true
  pub kept : c.version < length log.commits
  pub from_first : binding.first ≤ c.version
  pub state : State
  pub is_state : state_of (up_to log c.version) ≡ Ok state
  pub within : c.place ≤ length (shown_state binding.only state).files

-- "Read Data from a Table": a first page, whatever the predicate is, and a later one
pub record FilesAreGiven : Type 0 where
  pub first : (a : Asking) (name : TableName) (t : Shares a.point a.recipient name) (q : QueryBody) (version : ℕ) (state : State) (log : Log) → log ≡ shared_log a.point a.recipient name t → q.token ≡ None
      → Tells log t.binding (last_bound (asked_by q.version q.moment)) version → state_of (up_to log version) ≡ Ok state → IsGiven a (what.Query name q) (Some version)
  pub later : (a : Asking) (name : TableName) (t : Shares a.point a.recipient name) (q : QueryBody) (text : List ℕ) (c : FilesCursor) → q.token ≡ Some text
      → IsFilesToken a name (shared_log a.point a.recipient name t) t.binding q text c → IsGiven a (what.Query name q) (Some c.version)

-- ---- changes

-- The range goes forward and is kept, the feed is on at each of its versions, and these are its changes.
pub record HasFeed (log : Log) (from to : ℕ) (changes : List ChangedFile) : Type 0 where
  pub forward : from ≤ to
  pub kept : to < length log.commits
  pub is_feed : feed_of log.commits from to ≡ Ok changes

pub record IsFeedToken (a : Asking) (name : TableName) (log : Log) (binding : Binding) (q : ChangesQuery) (text : List ℕ) (c : FeedCursor) : Type 0 where
  pub is_cursor : cursor_of a.keys.token text ≡ Some (cursor.Feed c)
  pub own : c.access ≡ access_now a.point a.recipient name
  pub agrees : feeds.agrees q c ≡ true
  pub from_first : binding.first ≤ c.from
  pub changes : List ChangedFile
  pub feed : HasFeed log c.from c.to changes
  pub within : c.place ≤ length changes

abbrev pub changes_asked : TableName → ChangesQuery → What
changes_asked name q = what.Changes name q.from q.to q.max q.token

-- "Read Change Data Feed from a Table", of a table that is shared with its history, from the first version on that is shared, and not in part
pub record ChangesAreGiven : Type 0 where
  pub first : (a : Asking) (name : TableName) (t : Shares a.point a.recipient name) (q : ChangesQuery) (from to : ℕ) (changes : List ChangedFile) (log : Log) → log ≡ shared_log a.point a.recipient name t → q.token ≡ None
      → t.binding.only ≡ None → t.binding.history ≡ true → t.binding.first ≤ from
      → Means log (first_bound (asked_at q.from)) from → Means log (last_bound (asked_at q.to)) to → HasFeed log from to changes → IsGiven a (changes_asked name q) (Some to)
  pub later : (a : Asking) (name : TableName) (t : Shares a.point a.recipient name) (q : ChangesQuery) (text : List ℕ) (c : FeedCursor) → q.token ≡ Some text → t.binding.only ≡ None
      → IsFeedToken a name (shared_log a.point a.recipient name t) t.binding q text c → IsGiven a (changes_asked name q) (Some c.to)

-- ---- links

-- The recipient of a link is there, and the grant and the binding that it came from hold.
pub record Stands (point : List Entry) (link : LinkParts) : Type 0 where
  pub credential : Credential
  pub is_credential : catalogue.credential (edits point) link.recipient ≡ Some credential
  pub shares : Shares point link.recipient link.table
  pub grant : link.grant ≡ grant_edition (edits point) link.recipient link.table.share
  pub binding : link.binding ≡ binding_edition (edits point) link.table

-- The target of a link that this server signed, which isn't over and stands, and the name of its object.
pub record IsLink (keys : ReplyKeys) (point : List Entry) (now : ℕ) (target name : List ℕ) : Type 0 where
  pub link : LinkParts
  pub is_link : parts_of keys.link target ≡ Some link
  pub is_fresh : now < link.expires
  pub stands : Stands point link
  pub is_name : name_under stands.shares.binding.location link.path ≡ Some name

-- Such a link is answered with its object, or with the part of it that is asked for.
abbrev pub LinksAreGiven : Type 0
LinksAreGiven = (keys : ReplyKeys) (point : List Entry) (now : ℕ) (r : ByLink) (name : List ℕ) → IsLink keys point now r.target name → answered_at keys point now (request.ByLink r) ≡ object name r.span

-- ---- in a session

-- A turn that is answered from a view has the defined response, but for an object's, which waits for the store.
abbrev pub TurnsGiveTheDefined : Type 0
TurnsGiveTheDefined = (server : Server) (old new : turns.State) (t : Turn) (r : Response) → Serves server old t new → by_request server (request_of t) ≡ by.view
    → response_of (reply_of server.keys (format_of (request_of t)) (answer_at server t)) ≡ Some r → t.response ≡ r

-- So a turn by which a recipient asks at its point and moment what it is given above is answered 200.
abbrev pub TurnsAreGiven : Type 0
TurnsAreGiven = (server : Server) (old new : turns.State) (t : Turn) (a : Asking) (w : What) (version : Option ℕ) → Serves server old t new → request_of t ≡ request_for a w → party_of a.route ≡ party.Recipient → a.keys ≡ server.keys
    → a.point ≡ t.point → a.now ≡ t.moment → IsGiven a w version → t.response.status ≡ status.Ok version

-- A turn by a link that holds, whose object the store has in these bytes, and didn't fail.
pub record GivesObject (server : Server) (old new : turns.State) (t : Turn) (r : ByLink) (bytes : List ℕ) : Type 0 where
  pub serves : Serves server old t new
  pub asks : request_of t ≡ request.ByLink r
  pub name : List ℕ
  pub is_link : IsLink server.keys t.point t.moment r.target name
  pub objects : Objects
  pub told : new.side.hold.shelf.objects ≡ Some objects
  pub has : maps.get objects name ≡ Some bytes
  pub stays : Stays old.side.hold.shelf.faults new.side.hold.shelf.faults

-- Such an object is given whole, with 200, or in the part that is asked for, with 206, or it has no such part.
abbrev pub ObjectsAreGiven : Type 0
ObjectsAreGiven = (server : Server) (old new : turns.State) (t : Turn) (r : ByLink) (bytes : List ℕ) → GivesObject server old new t r bytes → t.response ≡ object_response r.span bytes

-- So where a part is asked for, the body has the bytes that are asked for, none more and none fewer; or there is none of them, and that is told with the size.
abbrev pub PartsAreGiven : Type 0
PartsAreGiven = (server : Server) (old new : turns.State) (t : Turn) (r : ByLink) (span : Span) (bytes : List ℕ) → GivesObject server old new t r bytes → r.span ≡ Some span
    → (t.response.body ≡ asked span bytes) ⊎ ((asked span bytes ≡ []) × (t.response ≡ out_response (length bytes)))
