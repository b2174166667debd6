-- The promise on a page, from what a run ensures.
use Rattle.std.proofs.Common.{◌≡◌, ◌⊎◌, ℕ, zero, suc, ◌<◌, ◌==◌, Bool, true, false, List, [], ◌∷◌, ◌++◌, take, filter, max, Option, Some, None, refl, sym, ap, ◌∙◌, subst, arith, inl, inr, slice_index_or, All, eq-eqb}
use Rattle.std.specs.Prelude.{option_and_then}
use Rattle.std.specs.Option.{IsSomeAnd}
use mathlib.Core.List.{IsPrefix}
use Rattle.std.proofs.lemmas.List.Elements.{All-head, All-tail}
use Rattle.edge_core.specs.Lines.{ClosedLine}
use Rattle.edge_core.specs.Objects.{Objects}
use Rattle.edge_core.proofs.Basics.{some_none}
use Rattle.file_ranges.specs.declared.span.Span.{Span}
use Rattle.hub_calls.specs.Calls.{P}
use Rattle.hub_catalog.specs.CatalogCalls.{Step}
use Rattle.hub_catalog.specs.Opens.{first_history}
use Rattle.share_book.specs.History.{caller_of}
use Rattle.share_book.specs.Views.{view_by}
use Rattle.share_book.specs.declared.entry.Entry.{Entry}
use Rattle.query_body.specs.declared.query.QueryBody.{QueryBody}
use Rattle.share_catalog.specs.Views.{named}
use Rattle.share_catalog.specs.declared.table_name.TableName.{TableName}
use Rattle.share_commands.specs.Headline.{AreConnections, AreReplies, EqualViewsAnswerAlike, IsAnswered, IsByView, IsIn, QueriesAreWhole, ServeKeeps, SpellsNext, StdioKeeps, WritesReplies, own_view, reply_by}
use Rattle.share_commands.specs.Serve.{WorkersServe, WorksAt}
use Rattle.share_config.specs.declared.config.Config.{Config}
use Rattle.share_pool.specs.Desks.{DeskWorks}
use Rattle.share_pool.specs.OneHistory.{Stands}
use Rattle.share_pool.specs.Posts.{Post}
use Rattle.share_pool.specs.Visits.{Attended, Visit}
use Rattle.share_pool.specs.declared.desk.Desk.{Desk}
use Rattle.share_pool.specs.declared.desk.ServeEnd.{ServeEnd}
use Rattle.share_pool.proofs.Ordered.{in_order}
use Rattle.share_pool.proofs.Refreshes.{refreshed_grew}
use Rattle.share_reply.specs.Asking.{ask_by}
use Rattle.share_reply.specs.Bodies.{reply_of}
use Rattle.share_reply.specs.Formats.{format_of}
use Rattle.share_reply.specs.Chains as chain
use Rattle.share_reply.specs.Replies.{answered, answered_at, view_asked, view_for}
use Rattle.share_reply.specs.declared.keys.ReplyKeys.{ReplyKeys}
use Rattle.share_reply.specs.declared.plan.Plan.{Plan}
use Rattle.share_reply.specs.declared.plan.Plan.TheVariants as plan
use Rattle.share_request.specs.declared.asked.Request.{Request}
use Rattle.share_request.specs.declared.asked.Request.TheVariants as request
use Rattle.share_serve.specs.Callers.{by_request, server_of}
use Rattle.share_serve.specs.Callers as by
use Rattle.share_serve.specs.Laws.{request_of}
use Rattle.share_serve.specs.Sessions.{Ends, IsSession, RefusesInPart, RespondsInPart}
use Rattle.share_serve.specs.Turns.{AnswersBy, ReplyIs, Runs, Shelf, Side, State, Turn}
use Rattle.share_serve.specs.declared.serve.SessionEnd.{SessionEnd}
use Rattle.share_serve.specs.declared.serve.SessionEnd.TheVariants as end
use Rattle.share_serve.specs.declared.server.Server.{Server}
use Rattle.share_serve.proofs.Basics.{prefix_self, prefix_trans}
use Rattle.signed_link.specs.Parts.{parts_of}
use Rattle.signed_link.specs.declared.parts.LinkParts.{LinkParts}
use Rattle.turn_cell.specs.Entries.{AllBelow, made_by}
use Rattle.turn_cell.specs.Passes.{CellId, fresh, mine}

-- ---- one reply

-- the view that an answer is of is the request's own
own_is : (keys : ReplyKeys) (r : Request) (history : List Entry) → view_for keys r history ≡ own_view keys r history
own_is keys (request.TurnedAway why) history = refl
own_is keys (request.ByToken r) history = refl
own_is keys (request.ByLink link) history = by_parts (parts_of keys.link link.target)
  where
    by_parts : (o : Option LinkParts) → option_and_then (view_asked history) (ask_by o) ≡ option_and_then (λ parts. view_by history (named parts.recipient)) o
    by_parts None = refl
    by_parts (Some parts) = refl

answer_is : (keys : ReplyKeys) (point seen : List Entry) (moment : ℕ) (r : Request) → point ≡ seen → answered_at keys seen moment r ≡ answered keys (own_view keys r point) moment r
answer_is keys point seen moment r at = ap (λ view. answered keys view moment r) (own_is keys r seen ∙ ap (own_view keys r) (sym at))

reply_is : (keys : ReplyKeys) (point seen : List Entry) (moment : ℕ) (r : Request) → point ≡ seen → reply_of keys (format_of r) (answered_at keys seen moment r) ≡ reply_by keys (own_view keys r point) moment r
reply_is keys point seen moment r at = ap (reply_of keys (format_of r)) (answer_is keys point seen moment r at)

pub writes_replies : WritesReplies
writes_replies server t text old new w = (by_view, spells_next, w.point)
  where
    by_view : IsByView server t old.hold.shelf new.hold.shelf
    by_view is =
        let views = subst (λ b. AnswersBy server (request_of t) b t.moment t.response old.hold new.hold) is w.answers in
        subst (λ p. ReplyIs p t.response old.hold.shelf new.hold.shelf) (reply_is server.keys t.point new.hold.pass.seen t.moment (request_of t) w.point) views.reply

    spells_next : SpellsNext server t
    spells_next is =
        let views = subst (λ b. AnswersBy server (request_of t) b t.moment t.response old.hold new.hold) is w.answers in
        subst (chain.NextIsSpelt server.keys) (answer_is server.keys t.point new.hold.pass.seen t.moment (request_of t) w.point) views.spelt

-- ---- one connection

are_replies : (server : Server) (history : List Entry) (old new : State) (turns : List Turn) → Runs server old turns new → IsPrefix new.side.hold.pass.seen history → AreReplies server history old.side.hold.pass.seen turns
are_replies server history old new [] r before = subst (λ (v : State). IsPrefix v.side.hold.pass.seen history) r before
are_replies server history old new (t ∷ turns) r before =
    let w = r.1.responds in (
      subst (λ (p : List Entry). IsPrefix old.side.hold.pass.seen p) (sym w.point) w.grew.pass.seen,
      (old.side.hold.shelf, r.0.side.hold.shelf, (writes_replies server t _ old.side r.0.side w).0),
      (writes_replies server t _ old.side r.0.side w).1,
      subst (λ (p : List Entry). AreReplies server history p turns) (sym w.point) (are_replies server history r.0 new turns r.2 before),
    )

same_seen : (v : State) (new : Side) → new ≡ v.side → IsPrefix v.side.hold.pass.seen new.hold.pass.seen
same_seen v new is = subst (λ (s : Side). IsPrefix v.side.hold.pass.seen s.hold.pass.seen) (sym is) (prefix_self v.side.hold.pass.seen)

in_part_seen : (server : Server) (v : State) (new : Side) → RespondsInPart server v new → IsPrefix v.side.hold.pass.seen new.hold.pass.seen
in_part_seen server v new (t, part, next, front, responds) = responds.grew.pass.seen

refused_seen : (v : State) (new : Side) → RefusesInPart v new → IsPrefix v.side.hold.pass.seen new.hold.pass.seen
refused_seen v new (flaw, moment, part, is_bad, front, refuses) = subst (λ h. IsPrefix v.side.hold.pass.seen h.pass.seen) (sym refuses.hold) (prefix_self v.side.hold.pass.seen)

-- at its end a session has seen no less
ends_seen : (server : Server) (v : State) (e : SessionEnd) (new : Side) → Ends server v e new → IsPrefix v.side.hold.pass.seen new.hold.pass.seen
ends_seen server v (end.Done served) new (same, rest) = same_seen v new same
ends_seen server v (end.Truncated at served) new (same, goes, rest) = same_seen v new same
ends_seen server v (end.BadMessage at flaw served) new (goes, reads, (moment, refuses), gone) = subst (λ h. IsPrefix v.side.hold.pass.seen h.pass.seen) (sym refuses.hold) (prefix_self v.side.hold.pass.seen)
ends_seen server v (end.ReadFault served) new (same, goes) = same_seen v new same
ends_seen server v (end.WriteFault served) new (goes, inl part) = in_part_seen server v new part
ends_seen server v (end.WriteFault served) new (goes, inr part) = refused_seen v new part
ends_seen server v (end.BodyCut served sent) new (goes, (t, part, next, cuts)) = cuts.responds.grew.pass.seen
ends_seen server v (end.NoMemory served) new (goes, inl same) = same_seen v new same
ends_seen server v (end.NoMemory served) new (goes, inr (inl part)) = in_part_seen server v new part
ends_seen server v (end.NoMemory served) new (goes, inr (inr (inl part))) = refused_seen v new part
ends_seen server v (end.NoMemory served) new (goes, inr (inr (inr (m, moment, next, wants)))) = wants.grew.pass.seen

session_replies : (server : Server) (history : List Entry) (bytes left : Option (List ℕ)) (before after : Side) (e : SessionEnd) (s : IsSession server bytes left before after e)
    → IsPrefix after.hold.pass.seen history → AreReplies server history before.hold.pass.seen s.0
session_replies server history bytes left before after e (turns, last, runs, served, ends, leaves) behind =
    are_replies server history _ last turns runs (prefix_trans last.side.hold.pass.seen after.hold.pass.seen history (ends_seen server last e after ends) behind)

are_connections : (server : Server) (history : List Entry) (old new : Post) (visits : List Visit) → old.hold.pass.holds ≡ false → Attended server old visits new → IsPrefix new.hold.pass.seen history
    → AreConnections server history old.hold.pass.seen visits
are_connections server history old new [] idle r behind = subst (λ (p : Post). IsPrefix p.hold.pass.seen history) r behind
are_connections server history old new (v ∷ visits) idle r behind =
    let accepts = r.1.1 in
    let a = r.1.2 in
    let here : r.0.hold.pass.holds ≡ false = subst (λ h. h.pass.holds ≡ false) (sym a.hold) a.grew.pass.holds in
    let later = (in_order server r.0 new visits here r.2).grew.pass.seen in
    let after : IsPrefix v.after.hold.pass.seen history = subst (λ h. IsPrefix h.pass.seen history) a.hold (prefix_trans r.0.hold.pass.seen new.hold.pass.seen history later behind) in (
      subst (λ h. IsPrefix h.pass.seen v.before.hold.pass.seen) accepts.hold (refreshed_grew v.lacked r.1.0.hold v.before.hold a.refreshed).pass.seen,
      (a.session, session_replies server history v.bytes v.left v.before v.after v.ended a.session after),
      subst (λ h. AreConnections server history h.pass.seen visits) a.hold (are_connections server history r.0 new visits here r.2 behind),
    )

-- ---- two worlds

abbrev first_of : {A : Type 0} → A → Option A → A
first_of a None = a
first_of a (Some b) = b

some_same : {A : Type 0} (a b : A) → Some a ≡ Some b → a ≡ b
some_same a b e = ap (first_of a) e

alike : (p : Plan) (r r' : _) (s t s' t' : Shelf) → ReplyIs p r s t → ReplyIs p r' s' t' → (r ≡ r') ⊎ ((name : List ℕ) × (span : Option Span) × (p ≡ plan.File name span))
alike (plan.File name span) r r' s t s' t' a b = inr (name, span, refl)
alike (plan.Refused x) r r' s t s' t' (is, same) (is', same') = inl (some_same r r' (sym is ∙ is'))
alike (plan.Only x) r r' s t s' t' (is, same) (is', same') = inl (some_same r r' (sym is ∙ is'))
alike (plan.Json x) r r' s t s' t' (is, same) (is', same') = inl (some_same r r' (sym is ∙ is'))
alike (plan.Version x) r r' s t s' t' (is, same) (is', same') = inl (some_same r r' (sym is ∙ is'))
alike (plan.Lines x f lines) r r' s t s' t' (is, same) (is', same') = inl (some_same r r' (sym is ∙ is'))

pub equal_views : EqualViewsAnswerAlike
equal_views server t t' before after before' after' is here there same_request same_moment same_view =
    let view' = own_view server.keys (request_of t') t'.point in
    let same = ap (λ v. reply_by server.keys v t.moment (request_of t)) same_view ∙ ap (λ m. reply_by server.keys view' m (request_of t)) same_moment ∙ ap (λ r. reply_by server.keys view' t'.moment r) same_request in
    alike (reply_by server.keys (own_view server.keys (request_of t) t.point) t.moment (request_of t)) t.response t'.response before after before' after' (here is)
    (subst (λ p. ReplyIs p t'.response before' after') (sym same) (there (subst (λ r. by_request server r ≡ by.view) same_request is)))

-- ---- a run

-- the turns of a chain that connections have answered are spelt
turn_spelt : (server : Server) (name : TableName) (t : chain.Turn QueryBody) → IsAnswered server name t → chain.NextIsSpelt server.keys (chain.answer_at chain.by_files server.keys name t)
turn_spelt server name t a =
    let keys = server.keys in
    let u = a.turn in
    let own : chain.NextIsSpelt keys (answered_at keys t.point u.moment (request_of u)) =
    subst (chain.NextIsSpelt keys) (sym (answer_is keys u.point t.point u.moment (request_of u) a.point)) (a.spelt a.recipient) in
    subst (λ (r : Request). chain.NextIsSpelt keys (answered_at keys t.point t.moment r)) a.asks
    (subst (λ (m : ℕ). chain.NextIsSpelt keys (answered_at keys t.point m (request_of u))) a.moment own)

turns_spelt : (server : Server) (name : TableName) (turns : List (chain.Turn QueryBody)) → All (IsAnswered server name) turns → chain.AreSpelt chain.by_files server.keys name turns
turns_spelt server name [] all = tt
turns_spelt server name (t ∷ turns) all = (turn_spelt server name t (All-head (IsAnswered server name) t turns all), turns_spelt server name turns (All-tail (IsAnswered server name) t turns all))

queries : chain.ChainsAreWhole → (server : Server) (history : List Entry) → QueriesAreWhole server history
queries whole server history name t turns is all = whole server.keys name history t turns is (turns_spelt server name (t ∷ turns) all)

pub stdio_keeps : chain.ChainsAreWhole → StdioKeeps
stdio_keeps whole config e old new s = record {
  legal = s.known.legal;
  replies = session_replies (server_of config) s.last.seen _ _ _ _ e s.session (prefix_self s.last.seen);
  queries = queries whole (server_of config) s.last.seen;
}

-- what holds of the first elements holds at a place among them, or there is no such place
all_at : {A : Type 0} (Q : A → Type 0) (xs : List A) (n i : ℕ) → All Q (take n xs) → i < n → ((d : A) → Q (slice_index_or xs i d)) ⊎ ((d : A) → slice_index_or xs i d ≡ d)
all_at Q [] n i all less = inr (λ d. refl)
all_at Q (x ∷ xs) zero i all less = absurd (omega (arith, less))
all_at Q (x ∷ xs) (suc n) zero all less = inl (λ d. All-head Q x (take n xs) all)
all_at Q (x ∷ xs) (suc n) (suc i) all less = all_at Q xs n i (All-tail Q x (take n xs) all) (omega (arith, less))

holds_of : {A : Type 0} (Q : A → Type 0) (o : Option A) (x : A) → o ≡ Some x → IsSomeAnd o Q → Q x
holds_of Q o x is holds = subst (λ p. IsSomeAnd p Q) is holds

-- ---- entries of one caller

kept_in : {A : Type 0} (test : A → Bool) (before : List A) (e : A) (after : List A) → test e ≡ true → filter test (before ++ e ∷ after) ≡ filter test before ++ e ∷ filter test after
kept_in test [] e after is = rw is refl
kept_in test (x ∷ before) e after is = by_test (test x) refl (kept_in test before e after is)
  where
    by_test : (b : Bool) → test x ≡ b → filter test (before ++ e ∷ after) ≡ filter test before ++ e ∷ filter test after → filter test (x ∷ before ++ e ∷ after) ≡ filter test (x ∷ before) ++ e ∷ filter test after
    by_test true it rest = rw it (ap (λ z. x ∷ z) rest)
    by_test false it rest = rw it rest

own_in : (number : ℕ) (e : Entry) (history own : List Entry) → IsIn e history → caller_of e ≡ number → made_by caller_of number history ≡ own → IsIn e own
own_in number e history own (before, after, is) by_it made = (
  made_by caller_of number before,
  made_by caller_of number after,
  sym made ∙ ap (made_by caller_of number) is ∙ kept_in (λ x. caller_of x == number) before e after (eq-eqb (caller_of e) number by_it),
)

below_in : (callers : ℕ) (before : List Entry) (e : Entry) (after : List Entry) → AllBelow caller_of callers (before ++ e ∷ after) → caller_of e < callers
below_in callers [] e after all = all.0
below_in callers (x ∷ before) e after all = below_in callers before e after all.1

-- ---- the desks

module _ {N W C : Type 0} (L : Type 0) (coming : N → Option (List (List ℕ))) (closed : N → Option (List ClosedLine)) (failed : N → ℕ) (listens : N → Option ℕ) (moments : C → Option (List ℕ)) (objects : W → Option Objects) (alone : W → Bool) (faults : W → ℕ) (stored : W → ℕ) where
  begins_fresh : (hub : CellId) (server : Server) (i : ℕ) (history : List Entry) (ready new : Desk N W C L) → ready.pass ≡ Some (fresh hub i history) → (works : DeskWorks coming closed failed listens moments objects alone faults stored hub server ready new)
      → works.before ≡ fresh hub i history
  begins_fresh hub server i history ready new is works = some_same works.before (fresh hub i history) (sym works.had ∙ is)

  connections_at : (hub : CellId) (config : Config) (found : List Step) (port i : ℕ) (old new : Desk N W C L) (history : List Entry) (x : WorksAt coming closed failed listens moments objects alone faults stored hub config found port i old new)
      → IsPrefix x.4.after.seen history → AreConnections (server_of config) history (first_history found) x.4.works.0
  connections_at hub config found port i old new history (ready, waits, is, at, works) behind =
      let first = begins_fresh hub (server_of config) i (first_history found) ready new is works in
      subst (λ (seen : List Entry). AreConnections (server_of config) history seen works.works.0) (ap (λ (p : P). p.seen) first)
      (are_connections (server_of config) history _ _ works.works.0 (ap (λ (p : P). p.holds) first) works.works.1 behind)

  stands_at : (config : Config) (found : List Step) (port workers : ℕ) (e : ServeEnd) (old new : List (Desk N W C L)) (w : WorkersServe coming closed failed listens moments objects alone faults stored config found port workers e old new)
      (i : ℕ) (d : Desk N W C L) (below : i < workers) → Stands w.history (w.each i d below).4.after
  stands_at config found port workers e old new w i d below = by_place (all_at (λ (d : Desk N W C L). IsSomeAnd d.pass (Stands w.history)) new workers i w.one.each below)
    where
      none : Desk N W C L
      none = record d { pass = None }

      by_place : ((d : Desk N W C L) → IsSomeAnd (slice_index_or new i d).pass (Stands w.history)) ⊎ ((d : Desk N W C L) → slice_index_or new i d ≡ d) → Stands w.history (w.each i d below).4.after
      by_place (inl there) = holds_of (Stands w.history) _ _ (w.each i d below).4.has (there d)
      by_place (inr nowhere) = absurd (some_none _ (sym (w.each i none below).4.has ∙ ap (λ (d : Desk N W C L). d.pass) (nowhere none)))

  pub serve_keeps : chain.ChainsAreWhole → ServeKeeps L coming closed failed listens moments objects alone faults stored
  serve_keeps whole config found port workers e old new w = record {
    legal = w.one.known.legal;
    connections = λ i d below. connections_at w.hub config found port i _ _ w.history (w.each i d below) (stands_at config found port workers e old new w i d below).0;
    told = λ i d x below isin by_it.
        let works = (w.each i d below).4 in
        let number : works.after.number ≡ i = works.same.number ∙ ap (λ (p : P). p.number) (begins_fresh w.hub (server_of config) i (first_history found) (w.each i d below).0 _ (w.each i d below).2 works) in
        subst (λ p. IsSomeAnd p (λ q. IsIn x (mine caller_of q))) (sym works.has)
        (own_in works.after.number x w.history (mine caller_of works.after) isin (by_it ∙ sym number) (stands_at config found port workers e old new w i d below).1);
    nobody_else = λ x isin. below_in (max 1 workers) isin.0 x isin.1 (subst (AllBelow caller_of (max 1 workers)) isin.2 w.one.known.below);
    queries = queries whole (server_of config) w.history;
  }
