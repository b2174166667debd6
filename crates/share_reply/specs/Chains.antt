-- Chains of pages: a recipient asks for a table's files, or for its changes, page by page, while others commit, grant and bind between its pages. What the pages give together is what the version that the first one was of, or the range, has: each once, in order.
use Rattle.std.specs.Prelude.{◌≡◌, ℕ, ◌^◌, ◌<◌, ⊤, All, List, [], ◌∷◌, ◌++◌, Option, Some, None, IfSome, Ok, flat_map, length, map, option_and_then, option_map}
use Rattle.std.specs.FinMap as maps
use mathlib.Core.List.{IsPrefix}
use Rattle.case_table.specs.declared.routing.Route.{Route}
use Rattle.case_table.specs.declared.routing.Route.TheVariants as route
use Rattle.change_feed.specs.Changes.{ChangedFile}
use Rattle.change_feed.specs.Feed.{feed_of}
use Rattle.delta_lines.specs.declared.kinds.DeltaFile.{DeltaFile}
use Rattle.delta_lines.specs.declared.kinds.FileAction.{FileAction}
use Rattle.delta_lines.specs.declared.kinds.FileAction.TheVariants as action
use Rattle.log_actions.specs.declared.actions.AddFile.{AddFile}
use Rattle.log_actions.specs.declared.actions.MetaData.{MetaData}
use Rattle.log_actions.specs.declared.actions.Protocol.{Protocol}
use Rattle.log_replay.specs.State.{State}
use Rattle.page_token.specs.Payload.{IsInRange, IsValue}
use Rattle.page_token.specs.Token.{token_text}
use Rattle.page_token.specs.declared.cursor.Cursor.{Cursor}
use Rattle.page_token.specs.declared.cursor.TableAccess.{TableAccess}
use Rattle.share_book.specs.Looks.{log_in}
use Rattle.share_book.specs.Parts.{resolved_at, state_at}
use Rattle.share_book.specs.Views.{Log, View, view_by}
use Rattle.share_book.specs.declared.entry.Entry.{Entry}
use Rattle.share_catalog.specs.TableNames.{parts_of}
use Rattle.share_catalog.specs.Views.{Spot, token}
use Rattle.share_catalog.specs.declared.table_name.TableName.{TableName}
use Rattle.share_request.specs.declared.asked.Request.{Request}
use Rattle.share_request.specs.declared.asked.Request.TheVariants as request
use Rattle.share_request.specs.declared.asked.ResponseFormat.{ResponseFormat}
use Rattle.share_request.specs.declared.asked.What.{What}
use Rattle.share_request.specs.declared.asked.What.TheVariants as what
use Rattle.query_body.specs.declared.query.QueryBody.{QueryBody}
use Rattle.share_reply.specs.Access.{access, expiry}
use Rattle.share_reply.specs.Answer as answers
use Rattle.share_reply.specs.Answer.{Answer, Page, page}
use Rattle.share_reply.specs.Asking.{asked_at, asked_by, first_bound, last_bound}
use Rattle.share_reply.specs.Feeds.{ChangesQuery, given_change}
use Rattle.share_reply.specs.Files.{given_file, listed_files, used_hint}
use Rattle.share_reply.specs.Replies.{answered_at}
use Rattle.share_reply.specs.declared.keys.ReplyKeys.{ReplyKeys}

-- what is asked for page by page
pub record Paging (Q : Type 0) : Type 0 where
  pub route : Route
  pub asks : TableName → Q → What
  pub token_of : Q → Option (List ℕ)

abbrev pub by_files : Paging QueryBody
by_files = record { route = route.Query; asks = λ name q. what.Query name q; token_of = λ q. q.token }

abbrev pub by_changes : Paging ChangesQuery
by_changes = record { route = route.Changes; asks = λ name q. what.Changes name q.from q.to q.max q.token; token_of = λ q. q.token }

-- a request of one page: the digest by which its sender is found, what it asks and in which format, and where in the history and when it is answered
pub record Turn (Q : Type 0) : Type 0 where
  pub point : List Entry
  pub digest : List ℕ
  pub format : ResponseFormat
  pub moment : ℕ
  pub query : Q

abbrev pub request_at : {Q : Type 0} → Paging Q → TableName → Turn Q → Request
request_at paging name t = request.ByToken (record { digest = t.digest; route = paging.route; format = t.format; asked = Ok (paging.asks name t.query) })

abbrev pub answer_at : {Q : Type 0} → Paging Q → ReplyKeys → TableName → Turn Q → Answer
answer_at paging keys name t = answered_at keys t.point t.moment (request_at paging name t)

-- where the next page begins, where one is left
abbrev pub next_in : Page → Option Cursor
next_in p = option_and_then (λ e. e.next) p.end

-- its token
abbrev pub next_token : ReplyKeys → Page → Option (List ℕ)
next_token keys p = option_map (token_text keys.token) (next_in p)

-- Each turn is answered at a point of the one history, in any order, since its request may come to another worker; its token is the one that the page before gave, all answers are pages, and the last page gives no token. That it is one recipient's chain of one table follows: the token says both.
abbrev pub IsChainAfter : {Q : Type 0} → Paging Q → ReplyKeys → TableName → List Entry → Option (List ℕ) → List (Turn Q) → Type 0
IsChainAfter paging keys name history None [] = ⊤
IsChainAfter paging keys name history (Some text) [] = ⊥
IsChainAfter paging keys name history None (t ∷ ts) = ⊥
IsChainAfter paging keys name history (Some text) (t ∷ ts) =
    IsPrefix t.point history × (paging.token_of t.query ≡ Some text) × ((p : Page) × (answer_at paging keys name t ≡ page p) × IsChainAfter paging keys name history (next_token keys p) ts)

-- the first request has no token
abbrev pub IsChain : {Q : Type 0} → Paging Q → ReplyKeys → TableName → List Entry → Turn Q → List (Turn Q) → Type 0
IsChain paging keys name history t ts =
    IsPrefix t.point history × (paging.token_of t.query ≡ None) × ((p : Page) × (answer_at paging keys name t ≡ page p) × IsChainAfter paging keys name history (next_token keys p) ts)

-- ---- what a chain gives

abbrev pub content_of : Answer → List DeltaFile
content_of (page p) = p.content
content_of _ = []

-- Elements stand in the pages one after another, each as the file that is given of it at its own page's moment.
abbrev pub Gives : {Q X : Type 0} → Paging Q → ReplyKeys → TableName → (ℕ → X → DeltaFile) → List (Turn Q) → List X → Type 0
Gives paging keys name file_at [] xs = xs ≡ []
Gives {X = X} paging keys name file_at (t ∷ ts) xs =
    (here : List X) × (later : List X) × (xs ≡ here ++ later) × (content_of (answer_at paging keys name t) ≡ map (file_at t.moment) here) × Gives paging keys name file_at ts later

-- the table as a turn's view has it: where it stands, its log, and to whom it is given
pub record Sees {Q : Type 0} (t : Turn Q) (name : TableName) (spot : Spot) (log : Log) (a : TableAccess) : Type 0 where
  pub view : View
  pub is_view : view_by t.point (token t.digest) ≡ Some view
  pub is_spot : maps.get view.catalog.tables (parts_of name) ≡ Some spot
  pub is_log : log_in view name ≡ log
  pub is_access : access view.catalog.recipient name spot ≡ a

-- the version that a first query means, and its state as the view's log has it: with the files that are shown
pub record Pins (q : QueryBody) (log : Log) (state : State) : Type 0 where
  pub version : ℕ
  pub is_version : resolved_at log (last_bound (asked_by q.version q.moment)) ≡ Ok version
  pub is_state : state_at log version ≡ Ok state

-- the range that a first query of changes means, and its changes
pub record PinsRange (q : ChangesQuery) (log : Log) (changes : List ChangedFile) : Type 0 where
  pub from : ℕ
  pub to : ℕ
  pub is_from : resolved_at log (first_bound (asked_at q.from)) ≡ Ok from
  pub is_to : resolved_at log (last_bound (asked_at q.to)) ≡ Ok to
  pub is_feed : feed_of log.commits from to ≡ Ok changes

-- what is given of a file at a moment
abbrev pub linked_file : ReplyKeys → TableAccess → ℕ → AddFile → DeltaFile
linked_file keys a now f = given_file keys a (expiry keys now) f

-- and of a change
abbrev pub linked_change : ReplyKeys → TableAccess → ℕ → ChangedFile → DeltaFile
linked_change keys a now c = given_change keys a (expiry keys now) c

-- a cursor of which code has a token: its texts are UTF-8, its numbers have 63 bits, and the token is shorter than 2^64 bytes
abbrev pub IsSpelt : ReplyKeys → Cursor → Type 0
IsSpelt keys c = IsValue c × IsInRange c × (length (token_text keys.token c) < 2 ^ 64)

-- Where the answer is a page behind which another is left, code has a token of where that begins.
abbrev pub NextIsSpelt : ReplyKeys → Answer → Type 0
NextIsSpelt keys (page p) = IfSome (next_in p) (IsSpelt keys)
NextIsSpelt keys _ = ⊤

-- So it is of each turn's answer, as of all that code answers (`plan_of`). Without it no law says that a token is read again.
abbrev pub AreSpelt : {Q : Type 0} → Paging Q → ReplyKeys → TableName → List (Turn Q) → Type 0
AreSpelt paging keys name [] = ⊤
AreSpelt paging keys name (t ∷ ts) = NextIsSpelt keys (answer_at paging keys name t) × AreSpelt paging keys name ts

-- The pages give all files of the version that the first one was of that the predicate doesn't make False, each once and in order.
abbrev pub ListsOnce : ReplyKeys → TableName → Turn QueryBody → List (Turn QueryBody) → Type 0
ListsOnce keys name t ts =
    (spot : Spot) × (log : Log) × (a : TableAccess) × Sees t name spot log a × ((state : State) × Pins t.query log state × Gives by_files keys name (linked_file keys a) (t ∷ ts) (listed_files (used_hint t.query.hint) state))

-- So do those of a chain, at whatever points of one history its pages are.
abbrev pub ChainsAreWhole : Type 0
ChainsAreWhole = (keys : ReplyKeys) (name : TableName) (history : List Entry) (t : Turn QueryBody) (ts : List (Turn QueryBody)) → IsChain by_files keys name history t ts → AreSpelt by_files keys name (t ∷ ts)
    → ListsOnce keys name t ts

-- So do those of a chain of changes: all changes of the range that the first one was of.
abbrev pub FeedChainsAreWhole : Type 0
FeedChainsAreWhole = (keys : ReplyKeys) (name : TableName) (history : List Entry) (t : Turn ChangesQuery) (ts : List (Turn ChangesQuery)) → IsChain by_changes keys name history t ts → AreSpelt by_changes keys name (t ∷ ts)
    → (spot : Spot) × (log : Log) × (a : TableAccess) × Sees t name spot log a × ((changes : List ChangedFile) × PinsRange t.query log changes × Gives by_changes keys name (linked_change keys a) (t ∷ ts) changes)

-- ---- the actions that it gives

-- what a chain's pages tell of a table, whichever format each is in: the actions of their files, one page after another
abbrev pub actions_given : {Q : Type 0} → Paging Q → ReplyKeys → TableName → List (Turn Q) → List FileAction
actions_given paging keys name ts = flat_map (λ t. map (λ f. f.action) (content_of (answer_at paging keys name t))) ts

-- an answer that is a page of that version, with that protocol and that metaData
pub record IsPageOf (version : ℕ) (protocol : Protocol) (meta : MetaData) (answer : Answer) : Type 0 where
  pub page : Page
  pub is_page : answer ≡ answers.page page
  pub is_version : page.version ≡ version
  pub is_protocol : page.protocol ≡ protocol
  pub is_meta : page.meta ≡ meta

-- The actions that a completed chain of files gives are exactly the adds of the version that the first one was of that the predicate doesn't make False, in order; and each of its pages has the protocol and the metaData of that version.
abbrev pub ChainsGiveActions : Type 0
ChainsGiveActions = (keys : ReplyKeys) (name : TableName) (history : List Entry) (t : Turn QueryBody) (ts : List (Turn QueryBody)) → IsChain by_files keys name history t ts → AreSpelt by_files keys name (t ∷ ts)
    → (spot : Spot) × (log : Log) × (a : TableAccess) × Sees t name spot log a × ((state : State) × (pins : Pins t.query log state)
    × (actions_given by_files keys name (t ∷ ts) ≡ map (λ f. action.Add f) (listed_files (used_hint t.query.hint) state))
    × All (λ t. IsPageOf pins.version state.protocol state.meta (answer_at by_files keys name t)) (t ∷ ts))
