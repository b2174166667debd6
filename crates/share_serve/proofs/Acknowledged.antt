-- What the turns of a session stored.
use Rattle.std.proofs.Common.{◌≡◌, ℕ, ◌+◌, ◌&&◌, cond, [], ◌∷◌, Some, Result, Ok, Err, refl, sym, ap, ◌∙◌, arith}
use Rattle.std.specs.Prelude.{◌==◌}
use Rattle.std.proofs.lemmas.List.Sums.{sum_by-cons}
use Rattle.response_text.specs.Statuses.{code}
use Rattle.share_catalog.specs.declared.edit.EditRefusal.TheVariants as edit_refusal
use Rattle.hub_calls.specs.Calls.{acknowledged}
use Rattle.hub_catalog.specs.declared.edit.EditEnd.{EditEnd}
use Rattle.hub_catalog.specs.declared.edit.EditEnd.TheVariants as edit_end
use Rattle.hub_tables.specs.declared.commit.CommitRefusal.{CommitRefusal}
use Rattle.hub_tables.specs.declared.commit.CommitRefusal.TheVariants as commit_refusal
use Rattle.share_reply.specs.declared.plan.Plan.{Plan}
use Rattle.share_reply.specs.declared.plan.Plan.TheVariants as plan
use Rattle.share_request.specs.declared.asked.Request.{Request}
use Rattle.share_serve.specs.Callers.{By, by_request}
use Rattle.share_serve.specs.Callers as by
use Rattle.share_serve.specs.Laws.{AcknowledgementsArePuts, is_acknowledged, may_put, request_of}
use Rattle.share_serve.specs.Providers.{commit_response, edit_response}
use Rattle.share_serve.specs.Turns.{AnswersBy, Hold, ReplyIs, Shelf, State}
use Rattle.share_serve.specs.declared.response.Response.{Response}
use Rattle.share_serve.specs.declared.server.Server.{Server}
use Rattle.share_serve.proofs.Worlds.{same_some}

-- one more where the response is 200
abbrev one_if_accepted : Response → ℕ
one_if_accepted r = cond (code r.status == 200) 1 0

abbrev by_status : ℕ → Response → ℕ
by_status n r = n + one_if_accepted r

none_more : (n m : ℕ) → m ≡ n → m ≡ n + 0
none_more n m e = omega (arith, e)

-- it is the response of a call that was accepted, and of one that was refused
accepted : (n : ℕ) (x r : Response) → Some x ≡ Some r → one_if_accepted x ≡ 1 → n + 1 ≡ by_status n r
accepted n x r e is = ap (λ (k : ℕ). n + k) (sym is) ∙ ap (by_status n) (same_some x r e)

refused : (n : ℕ) (x r : Response) → Some x ≡ Some r → one_if_accepted x ≡ 0 → n ≡ by_status n r
refused n x r e is = none_more n n refl ∙ ap (λ (k : ℕ). n + k) (sym is) ∙ ap (by_status n) (same_some x r e)

commit_counted : (n : ℕ) (answer : Result ℕ CommitRefusal) (r : Response) → commit_response answer ≡ Some r → acknowledged n answer ≡ by_status n r
commit_counted n (Ok v) r e = accepted n _ r e refl
commit_counted n (Err commit_refusal.NotLoaded) r e = refused n _ r e refl
commit_counted n (Err (commit_refusal.Blocked k)) r e = refused n _ r e refl
commit_counted n (Err commit_refusal.Contended) r e = refused n _ r e refl
commit_counted n (Err (commit_refusal.Conflict c)) r e = refused n _ r e refl
commit_counted n (Err commit_refusal.Limit) r e = refused n _ r e refl
commit_counted n (Err commit_refusal.StoreFault) r e = refused n _ r e refl
commit_counted n (Err commit_refusal.NoMemory) r e = absurd cc

edit_counted : (n : ℕ) (answer : Result ℕ EditEnd) (r : Response) → edit_response answer ≡ Some r → acknowledged n answer ≡ by_status n r
edit_counted n (Ok v) r e = accepted n _ r e refl
edit_counted n (Err (edit_end.CatalogBlocked k)) r e = refused n _ r e refl
edit_counted n (Err edit_end.Contended) r e = refused n _ r e refl
edit_counted n (Err (edit_end.Refused edit_refusal.Missing)) r e = refused n _ r e refl
edit_counted n (Err (edit_end.Refused edit_refusal.Taken)) r e = refused n _ r e refl
edit_counted n (Err (edit_end.Refused edit_refusal.TokenTaken)) r e = refused n _ r e refl
edit_counted n (Err (edit_end.Refused (edit_refusal.Full limit))) r e = refused n _ r e refl
edit_counted n (Err edit_end.StoreFault) r e = refused n _ r e refl
edit_counted n (Err edit_end.NoMemory) r e = absurd cc

-- a recipient's reply stores nothing
none_stored : (p : Plan) (r : Response) (old new : Shelf) → ReplyIs p r old new → new.stored ≡ old.stored
none_stored (plan.File name span) r old new is = is.0.stored
none_stored (plan.Refused why) r old new is = ap (λ (s : Shelf). s.stored) is.1
none_stored (plan.Only m) r old new is = ap (λ (s : Shelf). s.stored) is.1
none_stored (plan.Json text) r old new is = ap (λ (s : Shelf). s.stored) is.1
none_stored (plan.Version v) r old new is = ap (λ (s : Shelf). s.stored) is.1
none_stored (plan.Lines v f lines) r old new is = ap (λ (s : Shelf). s.stored) is.1

-- what one turn stored
one_stored : (server : Server) (asked : Request) (b : By) (moment : ℕ) (r : Response) (old new : Hold) → AnswersBy server asked b moment r old new
    → new.shelf.stored ≡ old.shelf.stored + cond (may_put b && (code r.status == 200)) 1 0
one_stored server asked by.view moment r old new is = none_more old.shelf.stored new.shelf.stored (none_stored _ r old.shelf new.shelf is.reply)
one_stored server asked (by.commit o) moment r old new is = is.1.puts ∙ commit_counted old.shelf.stored is.0 r is.2
one_stored server asked (by.refresh l) moment r old new is = none_more old.shelf.stored new.shelf.stored is.1.puts
one_stored server asked (by.edit e) moment r old new is = is.1.puts ∙ edit_counted old.shelf.stored is.0 r is.2
one_stored server asked (by.refused f) moment r old new is = none_more old.shelf.stored new.shelf.stored (ap (λ (h : Hold). h.shelf.stored) is.1)

pub are_puts : AcknowledgementsArePuts
are_puts server old new [] r = none_more old.side.hold.shelf.stored new.side.hold.shelf.stored (ap (λ (v : State). v.side.hold.shelf.stored) r)
are_puts server old new (t ∷ turns) r =
    let here = one_stored server (request_of t) (by_request server (request_of t)) t.moment t.response old.side.hold r.0.side.hold r.1.responds.answers in
    let rest = are_puts server r.0 new turns r.2 in
    let more = sum_by-cons (λ x. cond (is_acknowledged server x) 1 0) t turns in
    omega (arith, here, rest, more)
