-- A request, answered.
use Rattle.std.proofs.Common.{◌≡◌, inl, inr, ⊎_elim, ℕ, Bool, true, false, List, [], Option, Result, Ok, Err, refl, sym, ap, ◌∙◌, subst, true≢false}
use Rattle.std.specs.declared.alloc.AllocError.{AllocError}
use Rattle.std.specs.Io.KnownBytes.{append_known}
use mathlib.Core.List.{IsPrefix}
use Rattle.edge_core.specs.Clocks.{Ticks}
use Rattle.http_message.specs.Sessions.{Request as Message}
use Rattle.hub_calls.specs.Calls.{P}
use Rattle.share_request.specs.Requests.{request_in}
use Rattle.share_request.specs.declared.asked.Request.{Request}
use Rattle.share_serve.specs.Callers.{By, by_request}
use Rattle.share_serve.specs.Responses.{response_text}
use Rattle.share_serve.specs.Sends.{CutOnly, DeliveryCause, HasGoneOut, IsWritten, WholeSent, Writes}
use Rattle.share_serve.specs.Sessions.{Wants}
use Rattle.share_serve.specs.Sides.{side}
use Rattle.share_serve.specs.Turned.{IsAnswered, IsGiven, IsTurned, TurnsInPart, TurnsWhole, turn, turned_of}
use Rattle.share_serve.specs.Turns.{Answers, AnswersBy, FollowsLink, Grew, Hold, LacksBy, Responds, closes_after, delivery}
use Rattle.share_serve.specs.declared.response.Delivery.{Delivery}
use Rattle.share_serve.specs.declared.response.Response.{Response}
use Rattle.share_serve.specs.declared.send.Delivered.{Delivered}
use Rattle.share_serve.specs.declared.send.Delivered.TheVariants as delivered
use Rattle.share_serve.specs.declared.server.Server.{Server}
use Rattle.share_serve.proofs.Holds.{grew_itself}

-- ---- calls

ok_is : (answer : Result Response AllocError) (server : Server) (asked : Request) (b : By) (moment : ℕ) (old new : Hold) (r : Response) → answer ≡ Ok r → IsAnswered answer server asked b moment old new → AnswersBy server asked b moment r old new
ok_is answer server asked b moment old new r e is = subst (λ (z : Result Response AllocError). IsAnswered z server asked b moment old new) e is

err_is : (answer : Result Response AllocError) (server : Server) (asked : Request) (b : By) (moment : ℕ) (old new : Hold) (x : AllocError) → answer ≡ Err x → IsAnswered answer server asked b moment old new → LacksBy b moment old new
err_is answer server asked b moment old new x e is = subst (λ (z : Result Response AllocError). IsAnswered z server asked b moment old new) e is

-- the answer of a call, written
pub given_whole : (end : Delivered) (server : Server) (asked : Request) (b : By) (d : Delivery) (old new : Hold) (w w' : Option (List ℕ)) (answer : Result Response AllocError) → IsAnswered answer server asked b d.moment old new → WholeSent end d answer w w' → IsGiven end server asked b d old new w w'
given_whole end server asked b d old new w w' (Ok r) is s = inr (r, is, s)
given_whole end server asked b d old new w w' (Err e) is s = inl (s.0, is, s.1)

-- ---- a request at its moment

abbrev is_wanting : Delivered → Bool
is_wanting delivered.Whole = false
is_wanting delivered.WriteFault = false
is_wanting delivered.NoMemory = true
is_wanting (delivered.Cut n) = false

-- where memory wasn't wanting a response was written
written : (end : Delivered) (d : Delivery) (P : Response → Type 0) (N : Type 0) (w w' : Option (List ℕ)) → is_wanting end ≡ false → Writes end d P N w w' → (r : Response) × P r × IsWritten end d r w w'
written end d P N w w' e s = ⊎_elim (λ n. absurd (true≢false (sym (ap is_wanting n.0) ∙ e))) (λ r. r) s

module _ (server : Server) (n : ℕ) (m : Message) (moment : ℕ) (coming coming' : Option (List ℕ)) (old new : Hold) (w w' : Option (List ℕ)) (k k' : List ℕ) (p q : ℕ) (ticks : Ticks coming coming' moment) (grew : Grew old new) where
  responds : (r : Response) (text : List ℕ) → Answers server (request_in m.head m.body) moment r old new → w' ≡ append_known w text → Responds server (turn m moment new.pass.seen r) text (side coming old w k) (side coming' new w' k')
  responds r text a e = record { ticks = ticks; grew = grew; point = refl; answers = a; writes = e }

  abbrev Given : Delivered → Type 0
  Given end = IsGiven end server (request_in m.head m.body) (by_request server (request_in m.head m.body)) (delivery n m moment) old new w w'

  -- where its body is cut the store failed, and it is a link that was followed
  abbrev Failed : Delivered → Type 0
  Failed end = DeliveryCause end old.shelf.objects old.shelf.faults new.shelf.faults p q

  abbrev Linked : Delivered → Type 0
  Linked end = CutOnly end (FollowsLink server (request_in m.head m.body) moment new.pass.seen)

  whole : Given delivered.Whole → k' ≡ [] → TurnsWhole server n m (side coming old w k) (side coming' new w' k')
  whole s none = let r = written delivered.Whole (delivery n m moment) (λ r. Answers server (request_in m.head m.body) moment r old new) (LacksBy (by_request server (request_in m.head m.body)) moment old new) w w' refl s in
      (moment, new.pass.seen, r.0, responds r.0 (response_text (delivery n m moment) r.0) r.1 r.2, none)

  in_part : (r : Response) × Answers server (request_in m.head m.body) moment r old new × ((part : List ℕ) × IsPrefix part (response_text (delivery n m moment) r) × (w' ≡ append_known w part)) → TurnsInPart server n m (side coming old w k) (side coming' new w' k')
  in_part r = (moment, new.pass.seen, r.0, r.2.0, r.2.1, responds r.0 r.2.0 r.1 r.2.2)

  by_closes : (end : Delivered) (closes : Bool) → closes_after n m.closes ≡ closes → Given end → HasGoneOut end k' → Failed end → Linked end → IsTurned (turned_of end closes) server n m (side coming old w k) (side coming' new w' k')
  by_closes delivered.Whole true e s out failed link = (whole s out, e)
  by_closes delivered.Whole false e s out failed link = (whole s out, e)
  by_closes delivered.WriteFault closes e s out failed link = in_part (written delivered.WriteFault (delivery n m moment) (λ r. Answers server (request_in m.head m.body) moment r old new) (LacksBy (by_request server (request_in m.head m.body)) moment old new) w w' refl s)
  by_closes delivered.NoMemory closes e s out failed link = ⊎_elim (λ x. inr (moment, record { ticks = ticks; grew = grew; lacks = inr x.1; writes = x.2 })) (λ r. inl (in_part r)) s
  by_closes (delivered.Cut size) closes e s out failed link =
      let r = written (delivered.Cut size) (delivery n m moment) (λ r. Answers server (request_in m.head m.body) moment r old new) (LacksBy (by_request server (request_in m.head m.body)) moment old new) w w' refl s in (
        moment,
        new.pass.seen,
        r.0,
        r.2.0,
        record { front = r.2.1; count = r.2.2; less = r.2.3; link = link; failed = failed; responds = responds r.0 _ r.1 r.2.4 },
      )

  -- what came of a request by what came of its response
  pub turned : (end : Delivered) (d : Delivery) → d ≡ delivery n m moment → IsGiven end server (request_in m.head m.body) (by_request server (request_in m.head m.body)) d old new w w' → HasGoneOut end k' → Failed end → Linked end → IsTurned (turned_of end d.closes) server n m (side coming old w k) (side coming' new w' k')
  turned end d is s out failed link = by_closes end d.closes (sym (ap (λ (z : Delivery). z.closes) is)) (subst (λ (z : Delivery). IsGiven end server (request_in m.head m.body) (by_request server (request_in m.head m.body)) z old new w w') is s) out failed link

-- memory was wanting before anything was called
pub wants : (server : Server) (m : Message) (moment : ℕ) (coming coming' : Option (List ℕ)) (h : Hold) (w : Option (List ℕ)) (k : List ℕ) → Ticks coming coming' moment → h.pass.holds ≡ false → Wants server m moment (side coming h w k) (side coming' h w k)
wants server m moment coming coming' h w k ticks is = record { ticks = ticks; grew = grew_itself h is; lacks = inl refl; writes = refl }
