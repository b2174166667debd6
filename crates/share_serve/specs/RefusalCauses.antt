-- Why a recipient is refused, as the history says it: each refusal with its cause, of the definitions alone.
use Rattle.std.specs.Prelude.{◌≡◌, ◌≢◌, ◌⊎◌, ◌≤◌, ◌<◌, ℕ, ℤ, false, List, [], length, Option, Some, None, Result, Ok, Err, ⊤}
use Rattle.std.specs.Fmt.{decimal}
use Rattle.case_table.specs.declared.refuse.Refusal.TheVariants as refusal
use Rattle.case_table.specs.declared.routing.Route.{Route}
use Rattle.change_feed.specs.Changes.{ChangedFile}
use Rattle.change_feed.specs.Feed.{feed_of}
use Rattle.log_actions.specs.Paths.{name_under}
use Rattle.log_replay.specs.Reconciliation.{meta_at}
use Rattle.log_replay.specs.State.{State, state_of}
use Rattle.log_replay.specs.declared.refusal.ReplayRefusal.{ReplayRefusal}
use Rattle.log_replay.specs.declared.times.Bound.{Bound}
use Rattle.log_replay.specs.declared.times.Bound.TheVariants as bound
use Rattle.log_replay.specs.declared.times.Unresolved.{Unresolved}
use Rattle.log_replay.specs.declared.times.Unresolved.TheVariants as unresolved
use Rattle.page_token.specs.Cursors.{cursor_of}
use Rattle.page_token.specs.declared.cursor.Cursor.TheVariants as cursor
use Rattle.page_token.specs.declared.cursor.FeedCursor.{FeedCursor}
use Rattle.page_token.specs.declared.cursor.FilesCursor.{FilesCursor}
use Rattle.page_token.specs.declared.cursor.ListKind.{ListKind}
use Rattle.page_token.specs.declared.cursor.ListKind.TheVariants as kind
use Rattle.page_token.specs.declared.cursor.TableAccess.{TableAccess}
use Rattle.share_book.specs.Parts.{resolved_at, up_to}
use Rattle.share_book.specs.Views.{Log, shown_state}
use Rattle.share_book.specs.declared.entry.Entry.{Entry}
use Rattle.share_catalog.specs.declared.edit.Binding.{Binding}
use Rattle.share_catalog.specs.declared.table_name.TableName.{TableName}
use Rattle.share_request.specs.Faults.{fault_detail, fault_refusal}
use Rattle.share_request.specs.declared.asked.Bound.{Bound as At}
use Rattle.share_request.specs.declared.asked.ByLink.{ByLink}
use Rattle.share_request.specs.declared.asked.ListPage.{ListPage}
use Rattle.share_request.specs.declared.asked.Request.TheVariants as request
use Rattle.share_request.specs.declared.asked.ResponseFormat.{ResponseFormat}
use Rattle.share_request.specs.declared.asked.What.{What}
use Rattle.share_request.specs.declared.asked.What.TheVariants as what
use Rattle.share_request.specs.declared.fault.RequestFault.{RequestFault}
use Rattle.query_body.specs.declared.query.QueryBody.{QueryBody}
use Rattle.signed_link.specs.Parts.{parts_of}
use Rattle.signed_link.specs.declared.parts.LinkParts.{LinkParts}
use Rattle.share_reply.specs.Answer.{refused}
use Rattle.share_reply.specs.Asking.{asked_at, asked_by, first_bound, from_bound, last_bound}
use Rattle.share_reply.specs.Feeds.{ChangesQuery}
use Rattle.share_reply.specs.Feeds as feeds
use Rattle.share_reply.specs.Files as files
use Rattle.share_reply.specs.Lists.{Listing, listing}
use Rattle.share_reply.specs.Refusing.{Refused, plain}
use Rattle.share_reply.specs.Replies.{answered_at}
use Rattle.share_reply.specs.declared.keys.ReplyKeys.{ReplyKeys}
use Rattle.share_serve.specs.Entitled.{Asking, IsGranted, IsListed, Shares, Stands, access_now, changes_asked, request_for, shared_log}

-- ---- strangers

-- Who has no recipient's token, or one whose time is over, is refused so, whatever it asks.
abbrev pub StrangersAreRefused : Type 0
StrangersAreRefused = (keys : ReplyKeys) (point : List Entry) (now : ℕ) (digest : List ℕ) (route : Route) (format : ResponseFormat) (asked : Result What RequestFault) → ((a : Asking) → a.point ≡ point → a.now ≡ now → a.digest ≡ digest → ⊥)
    → answered_at keys point now (request.ByToken (record { digest = digest; route = route; format = format; asked = asked })) ≡ refused (plain refusal.Unauthenticated)

-- Of a recipient's request that is at fault the fault is told.
abbrev pub FaultsAreTold : Type 0
FaultsAreTold = (a : Asking) (fault : RequestFault)
    → answered_at a.keys a.point a.now (request.ByToken (record { digest = a.digest; route = a.route; format = a.format; asked = Err fault })) ≡ refused (record { refusal = fault_refusal fault; detail = fault_detail fault })

-- a recipient's request in form is refused so
abbrev pub IsRefused : Asking → What → Refused → Type 0
IsRefused a w x = answered_at a.keys a.point a.now (request_for a w) ≡ refused x

-- ---- names

-- what is listed is granted; of a schema, it has a table
abbrev pub IsVisible : Asking → ListKind → (share schema : List ℕ) → Type 0
IsVisible a kind.Shares share schema = ⊤
IsVisible a kind.Schemas share schema = IsGranted a.point a.recipient share
IsVisible a kind.Tables share schema = (t : TableName) × (t.share ≡ share) × (t.schema ≡ schema) × Shares a.point a.recipient t
IsVisible a kind.AllTables share schema = IsGranted a.point a.recipient share

-- a name that isn't visible, or a token that this listing didn't give to this recipient
abbrev pub NamesCause : Asking → Listing → Refused → Type 0
NamesCause a l x = ((x ≡ plain refusal.NotFound) × (IsVisible a l.kind l.share l.schema → ⊥)) ⊎ ((x ≡ plain refusal.TokenInvalid) × (IsListed a l → ⊥))

pub record NamesHaveCauses : Type 0 where
  pub shares : (a : Asking) (p : ListPage) (x : Refused) → IsRefused a (what.ListShares p) x → NamesCause a (listing kind.Shares [] [] p) x
  pub share : (a : Asking) (share : List ℕ) (x : Refused) → IsRefused a (what.GetShare share) x → (x ≡ plain refusal.NotFound) × (IsGranted a.point a.recipient share → ⊥)
  pub schemas : (a : Asking) (share : List ℕ) (p : ListPage) (x : Refused) → IsRefused a (what.ListSchemas share p) x → NamesCause a (listing kind.Schemas share [] p) x
  pub tables : (a : Asking) (share schema : List ℕ) (p : ListPage) (x : Refused) → IsRefused a (what.ListTables share schema p) x → NamesCause a (listing kind.Tables share schema p) x
  pub all_tables : (a : Asking) (share : List ℕ) (p : ListPage) (x : Refused) → IsRefused a (what.ListAll share p) x → NamesCause a (listing kind.AllTables share [] p) x

-- ---- versions of a table

abbrev pub unresolved_as : Unresolved → Refused
unresolved_as unresolved.Unsupported = plain refusal.UnsupportedTable
unresolved_as unresolved.VersionRange = plain refusal.VersionRange
unresolved_as unresolved.TimestampRange = plain refusal.TimestampRange

-- a version is asked for before the first one that is shared, which is told
abbrev pub before_first : ℕ → Refused
before_first first = record { refusal = refusal.VersionNotShared; detail = decimal first }

-- an earlier version is asked for of a table that is shared without them, or the log has none that is meant, or that one comes before the first that is shared
abbrev pub VersionCause : Log → Binding → Bound → Refused → Type 0
VersionCause log binding b x =
    ((x ≡ plain refusal.HistoryNotShared) × (binding.history ≡ false) × (b ≢ bound.Latest))
    ⊎ (((why : Unresolved) × (resolved_at log b ≡ Err why) × (x ≡ unresolved_as why))
    ⊎ ((version : ℕ) × (resolved_at log b ≡ Ok version) × (version < binding.first) × (x ≡ before_first binding.first)))

-- the version that is meant has no state
abbrev pub StateCause : Log → Bound → Refused → Type 0
StateCause log b x = (version : ℕ) × (why : ReplayRefusal) × (resolved_at log b ≡ Ok version) × (state_of (up_to log version) ≡ Err why) × (x ≡ plain refusal.UnsupportedTable)

-- the table isn't shared, or that holds of the log and the binding of one that is
abbrev pub TableCause : Asking → TableName → (Log → Binding → Type 0) → Refused → Type 0
TableCause a name Cause x = ((x ≡ plain refusal.NotFound) × (Shares a.point a.recipient name → ⊥)) ⊎ ((t : Shares a.point a.recipient name) × Cause (shared_log a.point a.recipient name t) t.binding)

pub record VersionsHaveCauses : Type 0 where
  pub version : (a : Asking) (name : TableName) (from : Option ℤ) (x : Refused) → IsRefused a (what.Version name from) x → TableCause a name (λ log binding. VersionCause log binding (from_bound from) x) x
  pub metadata : (a : Asking) (name : TableName) (at : Option At) (x : Refused) → IsRefused a (what.Metadata name at) x
      → TableCause a name (λ log binding. VersionCause log binding (last_bound (asked_at at)) x ⊎ StateCause log (last_bound (asked_at at)) x) x

-- ---- files

-- a token was given to that recipient, and of that table
pub record IsOf (access : TableAccess) (who : List ℕ) (name : TableName) : Type 0 where
  pub recipient : access.recipient ≡ who
  pub share : access.share ≡ name.share
  pub schema : access.schema ≡ name.schema
  pub table : access.table ≡ name.table

-- Why a later page of files is refused: a row for each cause.
pub data FilesTokenCause (a : Asking) (name : TableName) (log : Log) (binding : Binding) (q : QueryBody) (text : List ℕ) : Refused → Type 0 where
  -- it is no token of a page of files
  unknown : ((c : FilesCursor) → cursor_of a.keys.token text ≡ Some (cursor.Files c) → ⊥) → FilesTokenCause a name log binding q text (plain refusal.TokenInvalid)
  -- it is of another recipient, or of another table
  foreign : (c : FilesCursor) → cursor_of a.keys.token text ≡ Some (cursor.Files c) → (IsOf c.access a.recipient name → ⊥) → FilesTokenCause a name log binding q text (plain refusal.TokenInvalid)
  -- the grant or the binding isn't the one that it was given under
  stale : (c : FilesCursor) → cursor_of a.keys.token text ≡ Some (cursor.Files c) → (c.access ≡ access_now a.point a.recipient name → ⊥) → FilesTokenCause a name log binding q text (plain refusal.TokenStale)
  -- the query says what it wasn't given for
  unlike : (c : FilesCursor) → cursor_of a.keys.token text ≡ Some (cursor.Files c) → files.agrees q c ≡ false → FilesTokenCause a name log binding q text (plain refusal.TokenMismatch)
  -- its version isn't kept, or comes before the first that is shared, or has no state, or shows fewer files
  ahead : (c : FilesCursor) → cursor_of a.keys.token text ≡ Some (cursor.Files c) → length log.commits ≤ c.version → FilesTokenCause a name log binding q text (plain refusal.TokenAhead)
  early : (c : FilesCursor) → cursor_of a.keys.token text ≡ Some (cursor.Files c) → c.version < binding.first → FilesTokenCause a name log binding q text (before_first binding.first)
  stateless : (c : FilesCursor) → cursor_of a.keys.token text ≡ Some (cursor.Files c) → (why : ReplayRefusal) → state_of (up_to log c.version) ≡ Err why → FilesTokenCause a name log binding q text (plain refusal.UnsupportedTable)
  behind : (c : FilesCursor) → cursor_of a.keys.token text ≡ Some (cursor.Files c) → (state : State) → state_of (up_to log c.version) ≡ Ok state → length (shown_state binding.only state).files < c.place → FilesTokenCause a name log binding q text (plain refusal.TokenAhead)

pub record FilesHaveCauses : Type 0 where
  pub first : (a : Asking) (name : TableName) (q : QueryBody) (x : Refused) → q.token ≡ None → IsRefused a (what.Query name q) x
      → TableCause a name (λ log binding. VersionCause log binding (last_bound (asked_by q.version q.moment)) x ⊎ StateCause log (last_bound (asked_by q.version q.moment)) x) x
  pub later : (a : Asking) (name : TableName) (q : QueryBody) (text : List ℕ) (x : Refused) → q.token ≡ Some text → IsRefused a (what.Query name q) x → TableCause a name (λ log binding. FilesTokenCause a name log binding q text x) x

-- ---- changes

-- Why a range of versions has no changes to give: it begins before the first version that is shared, or the feed is off at a version of it, the least of which is told.
pub data RangeCause (log : Log) (binding : Binding) (from to : ℕ) : Refused → Type 0 where
  begins_early : from < binding.first → RangeCause log binding from to (before_first binding.first)
  off : (version : ℕ) → feed_of log.commits from to ≡ Err version → RangeCause log binding from to (record { refusal = refusal.ChangesNotEnabled; detail = decimal version })

-- Why a first page of changes is refused.
pub data ChangesCause (log : Log) (binding : Binding) (q : ChangesQuery) : Refused → Type 0 where
  -- the table is shared in part
  restricted : (only : List ℕ) → binding.only ≡ Some only → ChangesCause log binding q (plain refusal.ChangesRestricted)
  hidden : binding.history ≡ false → ChangesCause log binding q (plain refusal.HistoryNotShared)
  no_first : (why : Unresolved) → resolved_at log (first_bound (asked_at q.from)) ≡ Err why → ChangesCause log binding q (unresolved_as why)
  no_last : (why : Unresolved) → resolved_at log (last_bound (asked_at q.to)) ≡ Err why → ChangesCause log binding q (unresolved_as why)
  backward : (from to : ℕ) → resolved_at log (first_bound (asked_at q.from)) ≡ Ok from → resolved_at log (last_bound (asked_at q.to)) ≡ Ok to → to < from → ChangesCause log binding q (plain refusal.VersionRange)
  within : (from to : ℕ) (x : Refused) → resolved_at log (first_bound (asked_at q.from)) ≡ Ok from → resolved_at log (last_bound (asked_at q.to)) ≡ Ok to → RangeCause log binding from to x → ChangesCause log binding q x

-- Why a later page of changes is refused.
pub data FeedTokenCause (a : Asking) (name : TableName) (log : Log) (binding : Binding) (q : ChangesQuery) (text : List ℕ) : Refused → Type 0 where
  -- the table is shared in part
  feed_restricted : (only : List ℕ) → binding.only ≡ Some only → FeedTokenCause a name log binding q text (plain refusal.ChangesRestricted)
  -- it is no token of a page of changes
  feed_unknown : ((c : FeedCursor) → cursor_of a.keys.token text ≡ Some (cursor.Feed c) → ⊥) → FeedTokenCause a name log binding q text (plain refusal.TokenInvalid)
  -- it is of another recipient, or of another table
  feed_foreign : (c : FeedCursor) → cursor_of a.keys.token text ≡ Some (cursor.Feed c) → (IsOf c.access a.recipient name → ⊥) → FeedTokenCause a name log binding q text (plain refusal.TokenInvalid)
  -- the grant or the binding isn't the one that it was given under
  feed_stale : (c : FeedCursor) → cursor_of a.keys.token text ≡ Some (cursor.Feed c) → (c.access ≡ access_now a.point a.recipient name → ⊥) → FeedTokenCause a name log binding q text (plain refusal.TokenStale)
  -- the query says what it wasn't given for
  feed_unlike : (c : FeedCursor) → cursor_of a.keys.token text ≡ Some (cursor.Feed c) → feeds.agrees q c ≡ false → FeedTokenCause a name log binding q text (plain refusal.TokenMismatch)
  -- its last version isn't kept, or no metaData holds there, or its range has no changes to give, or fewer
  feed_ahead : (c : FeedCursor) → cursor_of a.keys.token text ≡ Some (cursor.Feed c) → length log.commits ≤ c.to → FeedTokenCause a name log binding q text (plain refusal.TokenAhead)
  feed_bare : (c : FeedCursor) → cursor_of a.keys.token text ≡ Some (cursor.Feed c) → c.to < c.from → meta_at log.commits c.to ≡ None → FeedTokenCause a name log binding q text (plain refusal.UnsupportedTable)
  feed_within : (c : FeedCursor) (x : Refused) → cursor_of a.keys.token text ≡ Some (cursor.Feed c) → RangeCause log binding c.from c.to x → FeedTokenCause a name log binding q text x
  feed_behind : (c : FeedCursor) → cursor_of a.keys.token text ≡ Some (cursor.Feed c) → (changes : List ChangedFile) → feed_of log.commits c.from c.to ≡ Ok changes → length changes < c.place → FeedTokenCause a name log binding q text (plain refusal.TokenAhead)

-- A table that is shared in part has no changes to give, whatever the token and the range are.
abbrev pub RestrictedGivesNoChanges : Type 0
RestrictedGivesNoChanges = (a : Asking) (name : TableName) (t : Shares a.point a.recipient name) (q : ChangesQuery) (only : List ℕ) → t.binding.only ≡ Some only → IsRefused a (changes_asked name q) (plain refusal.ChangesRestricted)

pub record ChangesHaveCauses : Type 0 where
  pub restricted : RestrictedGivesNoChanges
  pub first : (a : Asking) (name : TableName) (q : ChangesQuery) (x : Refused) → q.token ≡ None → IsRefused a (changes_asked name q) x → TableCause a name (λ log binding. ChangesCause log binding q x) x
  pub later : (a : Asking) (name : TableName) (q : ChangesQuery) (text : List ℕ) (x : Refused) → q.token ≡ Some text → IsRefused a (changes_asked name q) x → TableCause a name (λ log binding. FeedTokenCause a name log binding q text x) x

-- ---- links

-- it is over, or what it came from is, or its path names no object
abbrev pub LinkCause : (point : List Entry) → ℕ → LinkParts → Refused → Type 0
LinkCause point now link x =
    ((x ≡ plain refusal.LinkExpired) × (link.expires ≤ now))
    ⊎ (((x ≡ plain refusal.LinkRevoked) × (Stands point link → ⊥))
    ⊎ ((x ≡ plain refusal.FileGone) × ((s : Stands point link) × (name_under s.shares.binding.location link.path ≡ None))))

abbrev pub LinksHaveCauses : Type 0
LinksHaveCauses = (keys : ReplyKeys) (point : List Entry) (now : ℕ) (r : ByLink) (x : Refused) → answered_at keys point now (request.ByLink r) ≡ refused x
    → ((x ≡ plain refusal.LinkInvalid) × (parts_of keys.link r.target ≡ None)) ⊎ ((link : LinkParts) × (parts_of keys.link r.target ≡ Some link) × LinkCause point now link x)
