-- Laws of replies, over the definitions alone.
use Rattle.std.specs.Prelude.{◌≡◌, ◌≢◌, ◌≤◌, ◌++◌, ⊤, ℕ, List, [], ◌∷◌, true, false, All, Contains, Option, Some, None, Ok, IsErr, filter_map, map}
use Rattle.case_table.specs.declared.refuse.Refusal.TheVariants.{NotFound}
use Rattle.case_table.specs.declared.routing.Route.TheVariants as route
use Rattle.case_table.specs.declared.routing.Route.{Route}
use Rattle.delta_lines.specs.Delta.{delta_line_text}
use Rattle.delta_lines.specs.Formats.{parquet_line}
use Rattle.delta_lines.specs.declared.kinds.DeltaFile.{DeltaFile}
use Rattle.delta_lines.specs.declared.kinds.DeltaLine.{DeltaLine}
use Rattle.log_actions.specs.declared.actions.AddFile.{AddFile}
use Rattle.log_replay.specs.State.{State}
use Rattle.page_token.specs.Cursors.{cursor_of}
use Rattle.page_token.specs.declared.cursor.Cursor.TheVariants as cursor
use Rattle.page_token.specs.declared.cursor.FeedCursor.{FeedCursor}
use Rattle.page_token.specs.declared.cursor.FilesCursor.{FilesCursor}
use Rattle.page_token.specs.declared.cursor.TableAccess.{TableAccess}
use Rattle.pred_tree.specs.Shown.{shows}
use Rattle.share_book.specs.History.{edits}
use Rattle.share_book.specs.Parts.{state_at}
use Rattle.share_book.specs.Views.{View, log_at}
use Rattle.share_book.specs.declared.entry.Entry.{Entry}
use Rattle.share_book.specs.declared.look.PartFound.{PartFound}
use Rattle.share_book.specs.declared.look.Found.TheVariants as found
use Rattle.share_catalog.specs.declared.edit.Binding.{Binding}
use Rattle.share_catalog.specs.declared.table_name.TableName.{TableName}
use Rattle.share_catalog.specs.Catalogue.{binding_edition, bound, grant_edition, granted}
use Rattle.file_ranges.specs.declared.span.Span.{Span}
use Rattle.share_lines.specs.Printing.{line_text}
use Rattle.share_request.specs.declared.asked.ByLink.{ByLink}
use Rattle.share_request.specs.declared.asked.ByToken.{ByToken}
use Rattle.share_request.specs.declared.asked.Request.{Request}
use Rattle.share_request.specs.declared.asked.Request.TheVariants as request
use Rattle.share_request.specs.declared.asked.ResponseFormat.{ResponseFormat}
use Rattle.share_request.specs.declared.asked.ResponseFormat.TheVariants as format
use Rattle.share_request.specs.declared.asked.What.{What}
use Rattle.share_request.specs.declared.asked.What.TheVariants as what
use Rattle.query_body.specs.declared.query.QueryBody.{QueryBody}
use Rattle.signed_link.specs.Parts.{parts_of}
use Rattle.signed_link.specs.declared.parts.LinkParts.{LinkParts}
use Rattle.share_book.specs.NamesView.{NamesView}
use Rattle.share_reply.specs.Access.{is_same_edition}
use Rattle.share_reply.specs.Answer.{Answer, Page, at_version, object, page, refused}
use Rattle.share_reply.specs.Bodies.{reply_of}
use Rattle.share_reply.specs.Chains.{linked_file}
use Rattle.share_reply.specs.Feeds.{ChangesQuery, changes_page}
use Rattle.share_reply.specs.Files.{query_page}
use Rattle.share_reply.specs.Lists.{has_share}
use Rattle.share_reply.specs.Refusing.{plain}
use Rattle.share_reply.specs.Replies.{answer_what, answered, answered_at, view_for}
use Rattle.share_reply.specs.declared.keys.ReplyKeys.{ReplyKeys}
use Rattle.share_reply.specs.declared.plan.Plan.{Plan}
use Rattle.share_reply.specs.declared.plan.Plan.TheVariants as plan

-- Equal views answer alike, links and tokens included: they are part of the answer. So what isn't in a view (other recipients, shares that aren't granted, numbers of logs, who did what) is in no reply.
abbrev pub EqualViewsAnswerAlike : Type 0
EqualViewsAnswerAlike = (keys : ReplyKeys) (history other : List Entry) (now : ℕ) (req : Request) → view_for keys req history ≡ view_for keys req other → answered_at keys history now req ≡ answered_at keys other now req

-- what asks for a table
pub data AsksFor (name : TableName) : What → Type 0 where
  version : (from : _) → AsksFor name (what.Version name from)
  metadata : (at : _) → AsksFor name (what.Metadata name at)
  query : (body : QueryBody) → AsksFor name (what.Query name body)
  changes : (from to : _) (max : _) (text : _) → AsksFor name (what.Changes name from to max text)

-- A table that isn't seen, for whatever reason, has one answer, whatever is asked of it.
abbrev pub UnseenTablesAreAlike : Type 0
UnseenTablesAreAlike = (keys : ReplyKeys) (r : List ℕ) (now : ℕ) (name : TableName) (w : What) → AsksFor name w → answer_what keys r now w found.NoTable ≡ refused (plain NotFound)

-- So has a share that isn't granted.
abbrev pub UngrantedSharesAreAlike : Type 0
UngrantedSharesAreAlike = (keys : ReplyKeys) (r : List ℕ) (now : ℕ) (seen : NamesView) (share : List ℕ) → has_share seen share ≡ false → answer_what keys r now (what.GetShare share) (found.Names seen) ≡ refused (plain NotFound)

-- A token that was given under another edition of the grant or of the binding than there is now never gives a line.
pub record StaleTokensGiveNothing : Type 0 where
  pub files : (keys : ReplyKeys) (a : TableAccess) (now : ℕ) (q : QueryBody) (part : PartFound) (text : List ℕ) (c : FilesCursor) → q.token ≡ Some text → cursor_of keys.token text ≡ Some (cursor.Files c) → is_same_edition c.access a ≡ false → IsErr (query_page keys a now q part)
  pub changes : (keys : ReplyKeys) (a : TableAccess) (now : ℕ) (q : ChangesQuery) (part : PartFound) (text : List ℕ) (c : FeedCursor) → q.token ≡ Some text → cursor_of keys.token text ≡ Some (cursor.Feed c) → is_same_edition c.access a ≡ false → IsErr (changes_page keys a now q part)

-- An edition of a grant is over: the pair isn't granted now, and was so often, or oftener.
abbrev pub IsRevoked : List Entry → List ℕ → List ℕ → ℕ → Type 0
IsRevoked history r s edition = (granted (edits history) r s ≡ false) × (edition ≤ grant_edition (edits history) r s)

-- An edition of a binding is over: the table isn't bound now, and was so often, or oftener.
abbrev pub IsUnbound : List Entry → TableName → ℕ → Type 0
IsUnbound history table edition = (bound (edits history) table ≡ None) × (edition ≤ binding_edition (edits history) table)

-- to whom and of which table a link was given, under which editions
abbrev pub access_of : LinkParts → TableAccess
access_of parts = record { recipient = parts.recipient; share = parts.table.share; schema = parts.table.schema; table = parts.table.table; grant = parts.grant; binding = parts.binding }

-- What was given under something that is over is good no more, at whatever later point, given again or not: its tokens give no line, and its links no byte.
pub record GivesNothing (over : List Entry → TableAccess → Type 0) : Type 0 where
  pub files : (keys : ReplyKeys) (before later : List Entry) (now : ℕ) (digest text : List ℕ) (f : ResponseFormat) (name : TableName) (q : QueryBody) (c : FilesCursor) → q.token ≡ Some text → cursor_of keys.token text ≡ Some (cursor.Files c)
      → over before c.access → (p : Page) → answered_at keys (before ++ later) now (request.ByToken (record { digest = digest; route = route.Query; format = f; asked = Ok (what.Query name q) })) ≢ page p
  pub changes : (keys : ReplyKeys) (before later : List Entry) (now : ℕ) (digest text : List ℕ) (f : ResponseFormat) (name : TableName) (q : ChangesQuery) (c : FeedCursor) → q.token ≡ Some text → cursor_of keys.token text ≡ Some (cursor.Feed c)
      → over before c.access → (p : Page) → answered_at keys (before ++ later) now (request.ByToken (record { digest = digest; route = route.Changes; format = f; asked = Ok (what.Changes name q.from q.to q.max q.token) })) ≢ page p
  pub links : (keys : ReplyKeys) (before later : List Entry) (now : ℕ) (by : ByLink) (parts : LinkParts) → parts_of keys.link by.target ≡ Some parts
      → over before (access_of parts) → (name : List ℕ) (span : Option Span) → answered_at keys (before ++ later) now (request.ByLink by) ≢ object name span

-- So under a grant that is over.
abbrev pub RevokedGrantsGiveNothing : Type 0
RevokedGrantsGiveNothing = GivesNothing (λ history a. IsRevoked history a.recipient a.share a.grant)

-- And under a binding that is over.
abbrev pub UnboundTablesGiveNothing : Type 0
UnboundTablesGiveNothing = GivesNothing (λ history a. IsUnbound history (record { share = a.share; schema = a.schema; table = a.table }) a.binding)

-- ---- tables that are shared in part

-- what is asked of a table, by whom the digest finds
abbrev pub asked_of : List ℕ → Route → ResponseFormat → What → Request
asked_of digest r f w = request.ByToken (record { digest = digest; route = r; format = f; asked = Ok w })

-- what is given of a file of a state, one that is shown
abbrev pub IsOfShown : ReplyKeys → ℕ → List ℕ → State → DeltaFile → Type 0
IsOfShown keys now text state given = (f : AddFile) × Contains state.files f × (shows (Some text) state.meta f ≡ true) × ((a : TableAccess) × (given ≡ linked_file keys a now f))

-- No hidden file is given: where the binding of a table restricts it, each file of a page, whatever is asked and in whichever format, is one that the restriction shows, of the version of the table's log that the page tells.
abbrev pub HiddenFilesAreNotGiven : Type 0
HiddenFilesAreNotGiven = (keys : ReplyKeys) (history : List Entry) (now : ℕ) (digest : List ℕ) (r : Route) (f : ResponseFormat) (name : TableName) (w : What) (b : Binding) (text : List ℕ) (p : Page)
    → AsksFor name w → bound (edits history) name ≡ Some b → b.only ≡ Some text → answered_at keys history now (asked_of digest r f w) ≡ page p
    → (state : State) × (state_at (log_at history b.location) p.version ≡ Ok state) × All (IsOfShown keys now text state) p.content

-- the versions of a table that an answer of status 200 tells: its own, and those of changes
abbrev pub versions_told : Answer → List ℕ
versions_told (at_version v) = v ∷ []
versions_told (page p) = p.version ∷ filter_map (λ f. f.version) p.content
versions_told _ = []

-- a token of changes, if one is given, is of a range that runs forwards, as that of each page does
abbrev pub RunsOn : ReplyKeys → Option (List ℕ) → Type 0
RunsOn keys None = ⊤
RunsOn keys (Some text) = (c : FeedCursor) → cursor_of keys.token text ≡ Some (cursor.Feed c) → c.from ≤ c.to

-- and so is what is asked with one
abbrev pub AsksOn : ReplyKeys → What → Type 0
AsksOn keys (what.Changes name from to max token) = RunsOn keys token
AsksOn keys _ = ⊤

-- Nothing is told of versions before the first one that the binding of a table shares.
abbrev pub NothingBeforeFirst : Type 0
NothingBeforeFirst = (keys : ReplyKeys) (history : List Entry) (now : ℕ) (digest : List ℕ) (r : Route) (f : ResponseFormat) (name : TableName) (w : What) (b : Binding) → AsksFor name w → AsksOn keys w → bound (edits history) name ≡ Some b
    → All (λ v. b.first ≤ v) (versions_told (answered_at keys history now (asked_of digest r f w)))

-- ---- the two formats

-- a request in one format or the other
abbrev pub in_format : ResponseFormat → ByToken → Request
in_format f r = request.ByToken (record r { format = f })

abbrev pub HasNoLines : Plan → Type 0
HasNoLines (plan.Lines v f texts) = ⊥
HasNoLines _ = ⊤

-- The replies to one request in the two formats: one and the same where it has no lines; else lines of one version, those of the parquet format each what stands for a line of the delta format, in the same order.
pub data Agree : (parquet delta : Plan) → Type 0 where
  alike : (p : Plan) → HasNoLines p → Agree p p
  lines : (v : ℕ) (ls : List DeltaLine) → Agree (plan.Lines v format.Parquet (map (λ l. line_text (parquet_line l)) ls)) (plan.Lines v format.Delta (map delta_line_text ls))

-- Both formats agree: of each view, at each moment, a request has one answer in whichever format it asks, and its two replies say the same. So what is said of answers holds in both.
pub record FormatsAgree : Type 0 where
  pub answers : (keys : ReplyKeys) (view : Option View) (now : ℕ) (r : ByToken) → answered keys view now (in_format format.Parquet r) ≡ answered keys view now (in_format format.Delta r)
  pub replies : (keys : ReplyKeys) (view : Option View) (now : ℕ) (r : ByToken) → Agree (reply_of keys format.Parquet (answered keys view now (in_format format.Parquet r))) (reply_of keys format.Delta (answered keys view now (in_format format.Delta r)))
