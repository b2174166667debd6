-- Two worlds in which the same is visible.
use Rattle.std.proofs.Common.{◌≡◌, ℕ, suc, List, [], ◌∷◌, length, map, Option, Some, refl, sym, ap, ◌∙◌, subst}
use Rattle.share_book.specs.Views.{View}
use Rattle.file_ranges.specs.declared.span.Span.{Span}
use Rattle.share_reply.specs.Answer.{Answer, at_version, names, object, one_share, only, page, refused}
use Rattle.share_reply.specs.Bodies.{reply_of}
use Rattle.share_reply.specs.Formats.{format_of}
use Rattle.share_reply.specs.Replies.{answered, answered_at, view_for}
use Rattle.share_request.specs.Requests.{request_in}
use Rattle.share_request.specs.declared.asked.Request.{Request}
use Rattle.share_request.specs.declared.asked.ResponseFormat.{ResponseFormat}
use Rattle.share_serve.specs.Callers.{By, by_request}
use Rattle.share_serve.specs.Callers as by
use Rattle.share_serve.specs.Laws.{IsComplete, SeeTheSame, answer_at, request_of}
use Rattle.share_serve.specs.Sessions.{IsSession, opening}
use Rattle.share_serve.specs.Turns.{Answers, AnswersBy, Hold, ReplyIs, Runs, Shelf, Side, State, Turn}
use Rattle.share_serve.specs.declared.response.Response.{Response}
use Rattle.share_serve.specs.declared.serve.SessionEnd.{SessionEnd}
use Rattle.share_serve.specs.declared.server.Server.{Server}
use Rattle.share_serve.proofs.Ended.{ends_same}
use Rattle.share_serve.proofs.Same.{OneReading, asked_of, same, same_head}

pub same_some : {A : Type 0} (x y : A) → Some x ≡ Some y → x ≡ y
same_some x y e = cc

-- one answer has one response, but for an object's
one_response : (server : Server) (f : ResponseFormat) (a : Answer) (r r' : Response) (old new old' new' : Shelf) → ((name : List ℕ) (span : Option Span) → a ≡ object name span → r ≡ r') → ReplyIs (reply_of server.keys f a) r old new → ReplyIs (reply_of server.keys f a) r' old' new' → r ≡ r'
one_response server f (refused x) r r' old new old' new' o p q = same_some r r' (sym p.0 ∙ q.0)
one_response server f (only m) r r' old new old' new' o p q = same_some r r' (sym p.0 ∙ q.0)
one_response server f (names n) r r' old new old' new' o p q = same_some r r' (sym p.0 ∙ q.0)
one_response server f (one_share s) r r' old new old' new' o p q = same_some r r' (sym p.0 ∙ q.0)
one_response server f (at_version v) r r' old new old' new' o p q = same_some r r' (sym p.0 ∙ q.0)
one_response server f (page g) r r' old new old' new' o p q = same_some r r' (sym p.0 ∙ q.0)
one_response server f (object name span) r r' old new old' new' o p q = o name span refl

-- a recipient's answer
view_reply : (server : Server) (asked : Request) (moment : ℕ) (r : Response) (old new : Hold) → by_request server asked ≡ by.view → Answers server asked moment r old new → ReplyIs (reply_of server.keys (format_of asked) (answered_at server.keys new.pass.seen moment asked)) r old.shelf new.shelf
view_reply server asked moment r old new is a = (subst (λ (b : By). AnswersBy server asked b moment r old new) is a).reply

-- the turn's
pub turn_reply : (server : Server) (v : State) (t : Turn) (w : State) → by_request server (request_of t) ≡ by.view → t.point ≡ w.side.hold.pass.seen → Answers server (request_of t) t.moment t.response v.side.hold w.side.hold
    → ReplyIs (reply_of server.keys (format_of (request_of t)) (answer_at server t)) t.response v.side.hold.shelf w.side.hold.shelf
turn_reply server v t w is at a =
    subst (λ z. ReplyIs (reply_of server.keys (format_of (request_of t)) (answered_at server.keys z t.moment (request_of t))) t.response v.side.hold.shelf w.side.hold.shelf) (sym at)
    (view_reply server (request_of t) t.moment t.response v.side.hold w.side.hold is a)

same_answer : (server : Server) (t t' : Turn) → asked_of t ≡ asked_of t' → view_for server.keys (request_of t) t.point ≡ view_for server.keys (request_of t) t'.point → answer_at server t' ≡ answer_at server t
same_answer server t t' a is =
    sym (λ i. answered_at server.keys t'.point (a i).1.1.1 (request_in (a i).0 (a i).1.0))
    ∙ ap (λ (v : Option View). answered server.keys v t.moment (request_of t)) (sym is)

same_request : (t t' : Turn) → asked_of t ≡ asked_of t' → request_of t ≡ request_of t'
same_request t t' a = λ i. request_in (a i).0 (a i).1.0

turns_same : (server : Server) (old new old' new' : State) (turns turns' : List Turn) → Runs server old turns new → Runs server old' turns' new' → map asked_of turns ≡ map asked_of turns' → SeeTheSame server turns turns' → map (λ t. t.response) turns ≡ map (λ t. t.response) turns'
turns_same server old new old' new' [] [] r r' e s = refl
turns_same server old new old' new' [] (t' ∷ turns') r r' e s = absurd s
turns_same server old new old' new' (t ∷ turns) [] r r' e s = absurd s
turns_same server old new old' new' (t ∷ turns) (t' ∷ turns') r r' e s =
    let a = same_head (asked_of t) (asked_of t') (map asked_of turns) (map asked_of turns') e in
    let here = turn_reply server old t r.0 s.0.recipient r.1.responds.point r.1.responds.answers in
    let there = turn_reply server old' t' r'.0 (ap (by_request server) (sym (same_request t t' a.0)) ∙ s.0.recipient) r'.1.responds.point r'.1.responds.answers in
    let f = format_of (request_of t) in
    let alike : format_of (request_of t') ≡ f = ap format_of (sym (same_request t t' a.0)) in
    let moved = subst (λ (z : Answer). ReplyIs (reply_of server.keys f z) t'.response old'.side.hold.shelf r'.0.side.hold.shelf) (same_answer server t t' a.0 s.0.view)
    (subst (λ (g : ResponseFormat). ReplyIs (reply_of server.keys g (answer_at server t')) t'.response old'.side.hold.shelf r'.0.side.hold.shelf) alike there) in
    let one : t.response ≡ t'.response = one_response server f (answer_at server t) t.response t'.response old.side.hold.shelf r.0.side.hold.shelf old'.side.hold.shelf r'.0.side.hold.shelf s.0.object here moved in
    let rest = turns_same server r.0 new r'.0 new' turns turns' r.2 r'.2 a.1 s.1 in
    λ i. one i ∷ rest i

count_same : (server : Server) (turns turns' : List Turn) → SeeTheSame server turns turns' → length turns ≡ length turns'
count_same server [] [] s = refl
count_same server [] (t' ∷ turns') s = absurd s
count_same server (t ∷ turns) [] s = absurd s
count_same server (t ∷ turns) (t' ∷ turns') s = ap suc (count_same server turns turns' s.1)

pub worlds_same : OneReading → (server : Server) (old new old' new' : Side) (e e' : SessionEnd) (bytes moments : List ℕ) (left left' : Option (List ℕ)) (s : IsSession server (Some bytes) left old new e) (s' : IsSession server (Some bytes) left' old' new' e') → old.coming ≡ Some moments
    → old'.coming ≡ Some moments → old.written ≡ old'.written → SeeTheSame server s.0 s'.0 → IsComplete e → IsComplete e' → new.written ≡ new'.written
worlds_same one server old new old' new' e e' bytes moments left left' s s' m m' w sees c c' =
    let a = same one server server (opening (Some bytes) old) s.1 (opening (Some bytes) old') s'.1 s.0 s'.0 bytes moments s.2 s'.2 refl refl m m' (count_same server s.0 s'.0 sees) in
    ends_same one server server old new old' new' e e' bytes moments left left' s s' m m' w (turns_same server (opening (Some bytes) old) s.1 (opening (Some bytes) old') s'.1 s.0 s'.0 s.2 s'.2 a.asked sees) c c'
