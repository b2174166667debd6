-- One request of a session, and any number of them.
use Rattle.std.specs.Prelude.{◌≡◌, ℕ, ◌+◌, ◌≤◌, Bool, true, not, ◌||◌, ◌==◌, List, [], ◌∷◌, Option, Some, Result, ◌⊎◌, IfSome, bytes_eq, codes, ⊤}
use Rattle.std.specs.Bool.{OnTrue}
use Rattle.std.specs.FinMap as map
use Rattle.std.specs.Io.KnownBytes.{append_known}
use Rattle.edge_core.specs.Clocks.{Ticks}
use Rattle.edge_core.specs.Faults.{Cause, Rose}
use Rattle.edge_core.specs.Objects.{Grows, Lacks, Objects}
use Rattle.case_table.specs.declared.refuse.Refusal.TheVariants as refusal
use Rattle.commit_check.specs.declared.offer.Offer.{Offer}
use Rattle.file_ranges.specs.declared.span.Span.{Span}
use Rattle.http_message.specs.Messages.{ReadsMessage}
use Rattle.http_message.specs.Messages as reading
use Rattle.http_message.specs.Sessions.{Request as Message}
use Rattle.http_message.specs.declared.head.Head.{Head}
use Rattle.http_wire.specs.Streams.{Buffer, Drew, Moves, Told, stream}
use Rattle.http_wire.specs.Wires.{IsShort}
use Rattle.log_store.specs.Loads.{Looked}
use Rattle.share_book.specs.declared.entry.Entry.{Entry}
use Rattle.share_catalog.specs.declared.edit.Edit.{Edit}
use Rattle.hub_calls.specs.Calls.{Adds, IsIdle, P, acknowledged}
use Rattle.hub_tables.specs.Commits.{CommitLeaves, Commits, failed_commit}
use Rattle.hub_catalog.specs.Edits.{Edits, Leaves, failed_edit}
use Rattle.hub_tables.specs.LogRefreshes.{Refreshes, failed_refresh}
use Rattle.hub_tables.specs.declared.commit.CommitRefusal.{CommitRefusal}
use Rattle.hub_catalog.specs.declared.edit.EditEnd.{EditEnd}
use Rattle.hub_tables.specs.declared.refresh.RefreshRefusal.{RefreshRefusal}
use Rattle.hub_tables.specs.declared.refresh.Refreshed.{Refreshed}
use Rattle.share_reply.specs.Bodies.{reply_of}
use Rattle.share_reply.specs.Formats.{format_of}
use Rattle.share_reply.specs.Chains.{NextIsSpelt}
use Rattle.share_reply.specs.Refusing.{plain}
use Rattle.share_reply.specs.Replies.{answered_at}
use Rattle.share_reply.specs.declared.plan.Plan.{Plan}
use Rattle.share_reply.specs.declared.plan.Plan.TheVariants as plan
use Rattle.share_request.specs.Requests.{request_in}
use Rattle.share_request.specs.declared.asked.Request.{Request}
use Rattle.share_serve.specs.Callers.{By, by_request}
use Rattle.share_serve.specs.Callers as by
use Rattle.share_serve.specs.Providers.{commit_response, edit_response, refresh_response}
use Rattle.share_serve.specs.Responses.{object_response, refusal_response, response_of, response_text}
use Rattle.share_serve.specs.declared.response.Delivery.{Delivery}
use Rattle.share_serve.specs.declared.response.Response.{Response}
use Rattle.share_serve.specs.declared.server.Server.{Server}

-- ---- where a session stands

-- what its store has, where it tells, whether nobody else adds to it, how often it has failed, and how many puts it has stored
pub record Shelf : Type 0 where
  pub objects : Option Objects
  pub alone : Bool
  pub faults : ℕ
  pub stored : ℕ

-- its place at the hub, with the history that it has seen, and its store
pub record Hold : Type 0 where
  pub pass : P
  pub shelf : Shelf

-- the pass has seen no less, and the store has no less, failed no less often and has stored no fewer puts
pub record Grew (old new : Hold) : Type 0 where
  pub pass : IsIdle old.pass new.pass
  pub objects : Grows old.shelf.objects new.shelf.objects
  pub stays : OnTrue old.shelf.alone (new.shelf.alone ≡ true)
  pub faults : old.shelf.faults ≤ new.shelf.faults
  pub stored : old.shelf.stored ≤ new.shelf.stored

-- ---- answers from a view

-- where the store tells, the object has these bytes
abbrev pub IsObject : List ℕ → Option Objects → List ℕ → Type 0
IsObject name objects bytes = IfSome objects (λ os. map.get os name ≡ Some bytes)

-- the store was asked for objects alone: it stored nothing, and where nobody else adds to it it has what it had
pub record OnlyLooks (old new : Shelf) : Type 0 where
  pub looked : Looked old.objects new.objects old.alone new.alone
  pub stored : new.stored ≡ old.stored

-- a link's object: its bytes, or the part of them that is asked for, or that there is no such part; or that it isn't there, or that the
-- store failed; the store was only looked at
abbrev pub ObjectIs : List ℕ → Option Span → Response → (old new : Shelf) → Type 0
ObjectIs name span r old new =
    OnlyLooks old new
    × (((bytes : List ℕ) × (r ≡ object_response span bytes) × IsObject name new.objects bytes)
    ⊎ (((r ≡ refusal_response (plain refusal.FileGone)) × Lacks name new.objects)
    ⊎ ((r ≡ refusal_response (plain refusal.StoreFault)) × Rose old.faults new.faults)))

-- the response of a reply; the store is asked for an object alone
abbrev pub ReplyIs : Plan → Response → (old new : Shelf) → Type 0
ReplyIs (plan.File name span) r old new = ObjectIs name span r old new
ReplyIs other r old new = (response_of other ≡ Some r) × (new ≡ old)

-- The reply is that of the recipient's view at the point, which is all that was seen; the caller adds nothing to the history. Where a page is left behind it, it has the token of that one.
pub record Views (server : Server) (asked : Request) (moment : ℕ) (r : Response) (old new : Hold) : Type 0 where
  pub own : Adds old.pass new.pass []
  pub reply : ReplyIs (reply_of server.keys (format_of asked) (answered_at server.keys new.pass.seen moment asked)) r old.shelf new.shelf
  pub spelt : NextIsSpelt server.keys (answered_at server.keys new.pass.seen moment asked)

-- the reply is an object of the store's
abbrev pub IsFile : Plan → Type 0
IsFile p = (name : List ℕ) × (span : Option Span) × (p ≡ plan.File name span)

-- the request is a recipient's, for which its view at the point has a link's object
abbrev pub FollowsLink : Server → Request → ℕ → List Entry → Type 0
FollowsLink server asked moment point = (by_request server asked ≡ by.view) × IsFile (reply_of server.keys (format_of asked) (answered_at server.keys point moment asked))

-- ---- answers of calls: what a call of the hub added and stored, and what its answer says

pub record Committed (answer : Result ℕ CommitRefusal) (moment : ℕ) (o : Offer) (old new : Hold) : Type 0 where
  pub entries : Commits answer moment o old.shelf.objects new.shelf.objects old.pass new.pass
  pub stored : CommitLeaves answer moment o old.shelf.objects new.shelf.objects old.shelf.alone new.shelf.alone new.pass
  pub cause : Cause old.shelf.faults new.shelf.faults (failed_commit answer)
  pub puts : new.shelf.stored ≡ acknowledged old.shelf.stored answer

pub record Edited (answer : Result ℕ EditEnd) (e : Edit) (old new : Hold) : Type 0 where
  pub entries : Edits answer e old.shelf.objects new.shelf.objects old.pass new.pass
  pub stored : Leaves answer e old.shelf.objects new.shelf.objects old.shelf.alone new.shelf.alone new.pass
  pub cause : Cause old.shelf.faults new.shelf.faults (failed_edit answer)
  pub puts : new.shelf.stored ≡ acknowledged old.shelf.stored answer

pub record Sought (answer : Result Refreshed RefreshRefusal) (location : List ℕ) (old new : Hold) : Type 0 where
  pub entries : Refreshes answer location old.shelf.objects new.shelf.objects old.pass new.pass
  pub stored : Looked old.shelf.objects new.shelf.objects old.shelf.alone new.shelf.alone
  pub cause : Cause old.shelf.faults new.shelf.faults (failed_refresh answer)
  pub puts : new.shelf.stored ≡ old.shelf.stored

-- ---- one request

-- the request is answered by this response
abbrev pub AnswersBy : Server → Request → By → ℕ → Response → (old new : Hold) → Type 0
AnswersBy server asked by.view moment r old new = Views server asked moment r old new
AnswersBy server asked (by.commit o) moment r old new = (answer : Result ℕ CommitRefusal) × Committed answer moment o old new × (commit_response answer ≡ Some r)
AnswersBy server asked (by.refresh l) moment r old new = (answer : Result Refreshed RefreshRefusal) × Sought answer l old new × (refresh_response answer ≡ Some r)
AnswersBy server asked (by.edit e) moment r old new = (answer : Result ℕ EditEnd) × Edited answer e old new × (edit_response answer ≡ Some r)
AnswersBy server asked (by.refused f) moment r old new = (r ≡ refusal_response f) × (new ≡ old)

abbrev pub Answers : Server → Request → ℕ → Response → (old new : Hold) → Type 0
Answers server asked moment r old new = AnswersBy server asked (by_request server asked) moment r old new

-- Memory was wanting for the response: nothing is called, or what the call did stands.
abbrev pub LacksBy : By → ℕ → (old new : Hold) → Type 0
LacksBy by.view moment old new = Adds old.pass new.pass [] × (new.shelf ≡ old.shelf)
LacksBy (by.commit o) moment old new = (answer : Result ℕ CommitRefusal) × Committed answer moment o old new
LacksBy (by.refresh l) moment old new = (answer : Result Refreshed RefreshRefusal) × Sought answer l old new
LacksBy (by.edit e) moment old new = (answer : Result ℕ EditEnd) × Edited answer e old new
LacksBy (by.refused f) moment old new = new ≡ old

abbrev pub LacksResponse : Server → Request → ℕ → (old new : Hold) → Type 0
LacksResponse server asked moment old new = (new ≡ old) ⊎ LacksBy (by_request server asked) moment old new

-- where a session stands at its clock, its hub, its store and its sink, with what the sink keeps back of what was written
pub record Side : Type 0 where
  pub coming : Option (List ℕ)
  pub hold : Hold
  pub written : Option (List ℕ)
  pub kept : List ℕ

-- A request as it was read, the moment and the point of the history at which it is answered, and the response.
pub record Turn : Type 0 where
  pub message : Message
  pub moment : ℕ
  pub point : List Entry
  pub response : Response

abbrev pub is_head : Head → Bool
is_head head = bytes_eq head.method (codes "HEAD")

-- the connection is closed behind the request of number n, counted from 0, where its sender closes it, and behind the 10,000th
abbrev pub closes_after : ℕ → Bool → Bool
closes_after n closes = closes || (n + 1 == 10000)

abbrev pub delivery : ℕ → Message → ℕ → Delivery
delivery n m moment = record { moment = moment; closes = closes_after n m.closes; to_head = is_head m.head }

abbrev pub text_of : ℕ → Turn → List ℕ
text_of n t = response_text (delivery n t.message t.moment) t.response

-- The turn's request is answered at the point that was seen then, and so much of the response is written.
pub record Responds (server : Server) (t : Turn) (text : List ℕ) (old new : Side) : Type 0 where
  pub ticks : Ticks old.coming new.coming t.moment
  pub grew : Grew old.hold new.hold
  pub point : t.point ≡ new.hold.pass.seen
  pub answers : Answers server (request_in t.message.head t.message.body) t.moment t.response old.hold new.hold
  pub writes : new.written ≡ append_known old.written text

-- ---- a session

-- the bytes that were read and not used, with the place of the first of them, what its source has left, how many requests were
-- answered, whether it goes on, and the rest
pub record State : Type 0 where
  pub buffer : Buffer
  pub left : Option (List ℕ)
  pub served : ℕ
  pub goes : Bool
  pub side : Side

-- the bytes that aren't used
abbrev pub stream_of : State → Option (List ℕ)
stream_of v = stream v.buffer v.left

-- Of what was left so much was read, in pieces: each while the bytes at hand held neither a whole request nor what is refused.
abbrev pub ReadsWhenDue : (old new : Buffer) → (left left_new : Option (List ℕ)) → Type 0
ReadsWhenDue old new left left_new = Drew (λ (l : Option (List ℕ)). l) IsShort old new left left_new (λ _. ⊤)

-- the next message is this request, and nothing was read before it was due
pub record Receives (old new : State) (m : Message) : Type 0 where
  pub due : ReadsWhenDue old.buffer new.buffer old.left new.left
  pub told : Told (stream_of old) (stream_of new) (λ xs ys. Moves xs old.buffer.1 ys new.buffer.1 × (m.at ≡ old.buffer.1) × ReadsMessage xs (reading.request m.head m.body m.closes ys))

-- a request is read and answered whole, and nothing is kept back behind its response
pub record Serves (server : Server) (old : State) (t : Turn) (new : State) : Type 0 where
  pub was : old.goes ≡ true
  pub receives : Receives old new t.message
  pub responds : Responds server t (text_of old.served t) old.side new.side
  pub kept : new.side.kept ≡ []
  pub served : new.served ≡ old.served + 1
  pub goes : new.goes ≡ not (closes_after old.served t.message.closes)

-- one after another
abbrev pub Runs : Server → State → List Turn → State → Type 0
Runs server old [] new = new ≡ old
Runs server old (t ∷ turns) new = (mid : State) × Serves server old t mid × Runs server mid turns new
