-- The promise of a server, on a page. Of a run of `serve`, and of one of `stdio`: there is one gapless history, and each reply to a recipient is one function of its request, the moment and its own view, at a point of that history that isn't before what its connection had seen. So worlds with equal views answer alike, links included; and the pages of a completed query together list exactly once each file of the version first pinned that the predicate doesn't make false.
use Rattle.std.specs.Prelude.{◌≡◌, ◌⊎◌, ℕ, ◌<◌, All, Bool, List, [], ◌∷◌, ◌++◌, Option, None, max, option_and_then, slice_index_or}
use Rattle.std.specs.Option.{IsSomeAnd}
use mathlib.Core.List.{IsPrefix}
use Rattle.edge_core.specs.Lines.{ClosedLine}
use Rattle.edge_core.specs.Objects.{Objects}
use Rattle.file_ranges.specs.declared.span.Span.{Span}
use Rattle.hub_catalog.specs.CatalogCalls.{Step}
use Rattle.hub_catalog.specs.Opens.{first_history}
use Rattle.query_body.specs.declared.query.QueryBody.{QueryBody}
use Rattle.query_command.specs.Outside.{Outside}
use Rattle.share_book.specs.History.{caller_of}
use Rattle.share_book.specs.Legal.{IsLegal}
use Rattle.share_book.specs.Views.{View, view_by}
use Rattle.share_book.specs.declared.entry.Entry.{Entry}
use Rattle.share_catalog.specs.Views.{named, token}
use Rattle.share_catalog.specs.declared.table_name.TableName.{TableName}
use Rattle.share_commands.specs.Serve.{WorkersServe}
use Rattle.share_commands.specs.Stdio.{IsServed}
use Rattle.share_config.specs.declared.config.Config.{Config}
use Rattle.share_pool.specs.Visits.{Visit}
use Rattle.share_pool.specs.declared.desk.Desk.{Desk}
use Rattle.share_pool.specs.declared.desk.ServeEnd.{ServeEnd}
use Rattle.share_reply.specs.Bodies.{reply_of}
use Rattle.share_reply.specs.Formats.{format_of}
use Rattle.share_reply.specs.Chains as chain
use Rattle.share_reply.specs.Replies.{answered}
use Rattle.share_reply.specs.declared.keys.ReplyKeys.{ReplyKeys}
use Rattle.share_reply.specs.declared.plan.Plan.{Plan}
use Rattle.share_reply.specs.declared.plan.Plan.TheVariants as plan
use Rattle.share_request.specs.declared.asked.Request.{Request}
use Rattle.share_request.specs.declared.asked.Request.TheVariants as request
use Rattle.share_serve.specs.Callers.{by_request, server_of}
use Rattle.share_serve.specs.Callers as by
use Rattle.share_serve.specs.Laws.{request_of}
use Rattle.share_serve.specs.Sessions.{IsSession}
use Rattle.share_serve.specs.Turns.{ReplyIs, Responds, Shelf, Side, Turn}
use Rattle.share_serve.specs.declared.serve.SessionEnd.{SessionEnd}
use Rattle.share_serve.specs.declared.server.Server.{Server}
use Rattle.signed_link.specs.Parts.{parts_of}
use Rattle.turn_cell.specs.Passes.{mine}

-- ---- one reply

-- a recipient's own view at a point of the history: of whom the request's token finds, or of the recipient that its link was made for
abbrev pub own_view : ReplyKeys → Request → List Entry → Option View
own_view keys (request.TurnedAway why) history = None
own_view keys (request.ByToken r) history = view_by history (token r.digest)
own_view keys (request.ByLink by) history = option_and_then (λ parts. view_by history (named parts.recipient)) (parts_of keys.link by.target)

-- The one function. What it says is a matter of its own; here it matters what it is a function of.
abbrev pub reply_by : ReplyKeys → Option View → ℕ → Request → Plan
reply_by keys view moment request = reply_of keys (format_of request) (answered keys view moment request)

abbrev pub is_recipients : Server → Turn → Type 0
is_recipients server t = by_request server (request_of t) ≡ by.view

-- A request of a recipient, and no provider's or administrator's, has the reply of its own view at the turn's point: a text, or for a link the object that it names, as the store had it before and after.
abbrev pub IsByView : Server → Turn → (before after : Shelf) → Type 0
IsByView server t before after = is_recipients server t → ReplyIs (reply_by server.keys (own_view server.keys (request_of t) t.point) t.moment (request_of t)) t.response before after

-- Where it is a page of files or of changes behind which another is left, there is a token of where that begins, and the token is read again.
abbrev pub SpellsNext : Server → Turn → Type 0
SpellsNext server t = is_recipients server t → chain.NextIsSpelt server.keys (answered server.keys (own_view server.keys (request_of t) t.point) t.moment (request_of t))

-- whatever is written of a response, all or a part of it, is of such a reply, at what was seen then
abbrev pub WritesReplies : Type 0
WritesReplies = (server : Server) (t : Turn) (text : List ℕ) (old new : Side) → Responds server t text old new → IsByView server t old.hold.shelf new.hold.shelf × SpellsNext server t × (t.point ≡ new.hold.pass.seen)

-- ---- one connection

-- replies one after another, at points of the history of which none goes back
abbrev pub AreReplies : Server → (history seen : List Entry) → List Turn → Type 0
AreReplies server history seen [] = IsPrefix seen history
AreReplies server history seen (t ∷ turns) = IsPrefix seen t.point × ((before : Shelf) × (after : Shelf) × IsByView server t before after) × SpellsNext server t × AreReplies server history t.point turns

-- all that was answered on a connection, from what its worker had seen when its session began
abbrev pub IsConnection : Server → List Entry → Visit → Type 0
IsConnection server history v = (s : IsSession server v.bytes v.left v.before v.after v.ended) × AreReplies server history v.before.hold.pass.seen s.0

-- connections that one worker served, one after another
abbrev pub AreConnections : Server → (history seen : List Entry) → List Visit → Type 0
AreConnections server history seen [] = IsPrefix seen history
AreConnections server history seen (v ∷ visits) =
    IsPrefix seen v.before.hold.pass.seen × IsConnection server history v × AreConnections server history v.after.hold.pass.seen visits

-- ---- what follows

-- Two worlds: the same request at the same moment, with its own view the same in both, has the same response, whoever else is there and whatever they do; where it follows a link to an object, it is the same object.
abbrev pub EqualViewsAnswerAlike : Type 0
EqualViewsAnswerAlike =
    (server : Server) (t t' : Turn) (before after before' after' : Shelf) → is_recipients server t → IsByView server t before after → IsByView server t' before' after' → request_of t ≡ request_of t' → t.moment ≡ t'.moment
    → own_view server.keys (request_of t) t.point ≡ own_view server.keys (request_of t') t'.point
    → (t.response ≡ t'.response) ⊎ ((name : List ℕ) × (span : Option Span) × (reply_by server.keys (own_view server.keys (request_of t) t.point) t.moment (request_of t) ≡ plan.File name span))

-- A turn of a chain is one that a connection has answered: its request was a recipient's, at this moment and this point of the history. `AreReplies` says of each turn of a run that its next page is spelt.
pub record IsAnswered (server : Server) (name : TableName) (t : chain.Turn QueryBody) : Type 0 where
  pub turn : Turn
  pub asks : request_of turn ≡ chain.request_at chain.by_files name t
  pub moment : turn.moment ≡ t.moment
  pub point : turn.point ≡ t.point
  pub recipient : is_recipients server turn
  pub spelt : SpellsNext server turn

-- The pages of a completed query, each at a point of the history, in whatever order and at whatever workers, list together each file of the version first pinned that the predicate doesn't make false, exactly once and in order.
abbrev pub QueriesAreWhole : Server → List Entry → Type 0
QueriesAreWhole server history =
    (name : TableName) (t : chain.Turn QueryBody) (turns : List (chain.Turn QueryBody)) → chain.IsChain chain.by_files server.keys name history t turns → All (IsAnswered server name) (t ∷ turns)
    → chain.ListsOnce server.keys name t turns

-- ---- one run

abbrev pub IsIn : Entry → List Entry → Type 0
IsIn e entries = (before : List Entry) × (after : List Entry) × (entries ≡ before ++ e ∷ after)

-- A run of `stdio`: what the one caller had seen at its end is the history.
pub record OneKeeps (config : Config) (e : SessionEnd) (old new : Outside) (s : IsServed config e old new) : Type 0 where
  pub legal : IsLegal s.last.seen
  pub replies : AreReplies (server_of config) s.last.seen s.pass.seen s.session.0
  pub queries : QueriesAreWhole (server_of config) s.last.seen

abbrev pub StdioKeeps : Type 0
StdioKeeps = (config : Config) (e : SessionEnd) (old new : Outside) (s : IsServed config e old new) → OneKeeps config e old new s

module _ {N W C : Type 0} (L : Type 0) (coming : N → Option (List (List ℕ))) (closed : N → Option (List ClosedLine)) (failed : N → ℕ) (listens : N → Option ℕ) (moments : C → Option (List ℕ)) (objects : W → Option Objects) (alone : W → Bool) (faults : W → ℕ) (stored : W → ℕ) where
  -- A run of `serve`, whose workers have one history. `works.0` are the lines that a desk served.
  pub record AllKeep (config : Config) (found : List Step) (port workers : ℕ) (e : ServeEnd) (old new : List (Desk N W C L)) (w : WorkersServe coming closed failed listens moments objects alone faults stored config found port workers e old new) : Type 0 where
    pub legal : IsLegal w.history
    pub connections : (i : ℕ) (d : Desk N W C L) (below : i < workers) → AreConnections (server_of config) w.history (first_history found) (w.each i d below).4.works.0
    -- nobody else adds to it: each entry is one that the desk of its number has made
    pub told : (i : ℕ) (d : Desk N W C L) (e : Entry) → i < workers → IsIn e w.history → caller_of e ≡ i → IsSomeAnd (slice_index_or new i d).pass (λ p. IsIn e (mine caller_of p))
    pub nobody_else : (e : Entry) → IsIn e w.history → caller_of e < max 1 workers
    pub queries : QueriesAreWhole (server_of config) w.history

  abbrev pub ServeKeeps : Type 0
  ServeKeeps = (config : Config) (found : List Step) (port workers : ℕ) (e : ServeEnd) (old new : List (Desk N W C L)) (w : WorkersServe coming closed failed listens moments objects alone faults stored config found port workers e old new)
      → AllKeep config found port workers e old new w
