-- What a stranger is answered, and what is heard of the history before a request is read.
use Rattle.std.proofs.Common.{◌≡◌, ◌⊎◌, inl, inr, ⊎_elim, ℕ, Bool, false, List, [], Option, Some, None, refl, sym, ap, ◌∙◌, subst}
use Rattle.std.specs.Prelude.{is_some}
use Rattle.std.proofs.lemmas.List.{append-nil}
use Rattle.case_table.specs.declared.refuse.Refusal.TheVariants as refusal
use Rattle.case_table.specs.declared.routing.Route.{Route}
use Rattle.case_table.specs.declared.routing.Route.TheVariants as route
use Rattle.http_message.specs.declared.head.Head.{Head}
use Rattle.hub_calls.specs.Calls.{Adds, P}
use Rattle.share_book.specs.Looks.{look_of}
use Rattle.share_book.specs.Views.{View, view_by}
use Rattle.share_book.specs.declared.entry.Entry.{Entry}
use Rattle.share_catalog.specs.Views.{token}
use Rattle.share_request.specs.Callers.{caller_of}
use Rattle.share_request.specs.Requests.{request_in}
use Rattle.share_request.specs.declared.asked.ByToken.{ByToken}
use Rattle.share_request.specs.declared.asked.Caller.{Caller}
use Rattle.share_request.specs.declared.asked.Request.{Request}
use Rattle.share_request.specs.declared.asked.Request.TheVariants as request
use Rattle.share_request.proofs.CallerLemmas.{heads_tell}
use Rattle.share_reply.specs.Answer.{Answer, refused}
use Rattle.share_reply.specs.Asking.{want_or_names}
use Rattle.share_reply.specs.Bodies.{reply_of}
use Rattle.share_reply.specs.Chains.{NextIsSpelt}
use Rattle.share_reply.specs.Refusing.{plain}
use Rattle.share_reply.specs.Replies.{answer_to, answered_at}
use Rattle.share_reply.specs.declared.keys.ReplyKeys.{ReplyKeys}
use Rattle.share_serve.specs.Callers.{By, by_party, by_request, party_of, view, where_known}
use Rattle.share_serve.specs.Callers as by
use Rattle.share_serve.specs.Responses.{refusal_response}
use Rattle.share_serve.specs.Sends.{Writes}
use Rattle.share_serve.specs.Sides.{hold}
use Rattle.share_serve.specs.Strangers.{Hears, IsStrangers, is_known, is_of}
use Rattle.share_serve.specs.Turned.{IsGiven}
use Rattle.share_serve.specs.Turns.{Hold, LacksBy, ReplyIs, Shelf, Views}
use Rattle.share_serve.specs.declared.caller.Party.{Party}
use Rattle.share_serve.specs.declared.caller.Party.TheVariants as party
use Rattle.share_serve.specs.declared.response.Delivery.{Delivery}
use Rattle.share_serve.specs.declared.response.Response.{Response}
use Rattle.share_serve.specs.declared.send.Delivered.{Delivered}
use Rattle.share_serve.specs.declared.server.Server.{Server}
use Rattle.share_serve.proofs.Holds.{adds_none}

-- ---- nobody

none_of : (o : Option View) → is_some o ≡ false → o ≡ None
none_of None is = refl
none_of (Some v) is = absurd cc

-- of nobody's view the answer is the refusal, whatever is asked
pub nobody_is_refused : (keys : ReplyKeys) (point : List Entry) (now : ℕ) (r : ByToken) → is_some (view_by point (token r.digest)) ≡ false
    → answered_at keys point now (request.ByToken r) ≡ refused (plain refusal.Unauthenticated)
nobody_is_refused keys point now r is =
    ap (λ (o : Option View). answer_to keys now r.asked (look_of o (want_or_names keys r.asked))) (none_of (view_by point (token r.digest)) is)

-- ---- what is written

writes_as : (end : Delivered) (d : Delivery) (A B : Response → Type 0) (X Y : Type 0) (w w' : Option (List ℕ)) → ((r : Response) → A r → B r) → (X → Y) → Writes end d A X w w' → Writes end d B Y w w'
writes_as end d A B X Y w w' f g s = ⊎_elim (λ n. inl (n.0, g n.1, n.2)) (λ r. inr (r.0, f r.0 r.1, r.2)) s

-- a refusal of which nothing was called is the answer of nobody's view
module _ (server : Server) (r : ByToken) (moment : ℕ) (old new : Hold) (nobody : is_some (view_by old.pass.seen (token r.digest)) ≡ false) where
  by_view : (x : Response) → (x ≡ refusal_response (plain refusal.Unauthenticated)) × (new ≡ old) → Views server (request.ByToken r) moment x old new
  by_view x is =
      let there : is_some (view_by new.pass.seen (token r.digest)) ≡ false = ap (λ (h : Hold). is_some (view_by h.pass.seen (token r.digest))) is.1 ∙ nobody in
      let answer = nobody_is_refused server.keys new.pass.seen moment r there in
      record {
        own = subst (λ (h : Hold). Adds old.pass h.pass []) (sym is.1) (adds_none old.pass);
        reply = subst (λ (a : Answer). ReplyIs (reply_of server.keys r.format a) x old.shelf new.shelf) (sym answer) (ap (λ (y : Response). Some y) (sym is.0), ap (λ (h : Hold). h.shelf) is.1);
        spelt = subst (λ (a : Answer). NextIsSpelt server.keys a) (sym answer) tt;
      }

  lacks_view : new ≡ old → LacksBy view moment old new
  lacks_view is = (subst (λ (h : Hold). Adds old.pass h.pass []) (sym is) (adds_none old.pass), ap (λ (h : Hold). h.shelf) is)

refused_by : (p : Party) (server : Server) (r : ByToken) (d : Delivery) (end : Delivered) (old new : Hold) (w w' : Option (List ℕ)) → is_of p server old.pass.seen r.digest ≡ false
    → IsGiven end server (request.ByToken r) (by.refused (plain refusal.Unauthenticated)) d old new w w' → IsGiven end server (request.ByToken r) (by_party p server r) d old new w w'
refused_by party.Recipient server r d end old new w w' is s = writes_as end d _ _ _ _ w w' (by_view server r d.moment old new is) (lacks_view server r d.moment old new is) s
refused_by party.Provider server r d end old new w w' is s = subst (λ (b : Bool). IsGiven end server (request.ByToken r) (where_known b r.asked) d old new w w') (sym is) s
refused_by party.Administrator server r d end old new w w' is s = subst (λ (b : Bool). IsGiven end server (request.ByToken r) (where_known b r.asked) d old new w w') (sym is) s

abbrev told : ByToken → Caller
told r = record { digest = r.digest; route = r.route }

some_same : (a b : Caller) → Some a ≡ Some b → a ≡ b
some_same a b e = cc

-- the refusal is the answer to a request of which nobody has the token
refused_of : (q : Request) (c : Caller) (server : Server) (d : Delivery) (end : Delivered) (old new : Hold) (w w' : Option (List ℕ)) → caller_of q ≡ Some c → is_known server old.pass.seen c ≡ false
    → IsGiven end server q (by.refused (plain refusal.Unauthenticated)) d old new w w' → IsGiven end server q (by_request server q) d old new w w'
refused_of (request.TurnedAway why) c server d end old new w w' e is s = absurd cc
refused_of (request.ByToken r) c server d end old new w w' e is s =
    let same : told r ≡ c = some_same (told r) c e in
    refused_by (party_of r.route) server r d end old new w w' (ap (is_known server old.pass.seen) same ∙ is) s
refused_of (request.ByLink l) c server d end old new w w' e is s = absurd cc

pub stranger_refused : (head : Head) (body : List ℕ) (server : Server) (d : Delivery) (end : Delivered) (old new : Hold) (w w' : Option (List ℕ)) → IsStrangers server old.pass.seen head
    → IsGiven end server (request_in head body) (by.refused (plain refusal.Unauthenticated)) d old new w w' → IsGiven end server (request_in head body) (by_request server (request_in head body)) d old new w w'
stranger_refused head body server d end old new w w' is s = refused_of (request_in head body) is.0 server d end old new w w' (heads_tell head body ∙ is.1) is.2 s

-- ---- what is heard before

view_of_query : (q : Request) (c : Caller) (server : Server) → caller_of q ≡ Some c → c.route ≡ route.Query → by_request server q ≡ view
view_of_query (request.TurnedAway why) c server e is = refl
view_of_query (request.ByToken r) c server e is =
    let same : told r ≡ c = some_same (told r) c e in
    ap (λ (x : Route). by_party (party_of x) server r) (ap (λ (x : Caller). x.route) same ∙ is)
view_of_query (request.ByLink l) c server e is = refl

-- nothing, or the request is answered from a view
pub heard : (head : Head) (body : List ℕ) (server : Server) (old mid : P) → Hears head old mid → (mid ≡ old) ⊎ (by_request server (request_in head body) ≡ view)
heard head body server old mid h = ⊎_elim inl (λ x. inr (view_of_query (request_in head body) x.0 server (heads_tell head body ∙ x.1) x.2)) h

adds_on : (p q r : P) → Adds p q [] → Adds q r [] → Adds p r []
adds_on p q r d e = e ∙ append-nil _ ∙ d

module _ (server : Server) (asked : Request) (old mid : P) (s : Shelf) (new : Hold) (own : Adds old mid []) where
  views_on : (moment : ℕ) (x : Response) → Views server asked moment x (hold mid s) new → Views server asked moment x (hold old s) new
  views_on moment x v = record { own = adds_on old mid new.pass own v.own; reply = v.reply; spelt = v.spelt }

  given_view : (end : Delivered) (d : Delivery) (w w' : Option (List ℕ)) → IsGiven end server asked view d (hold mid s) new w w' → IsGiven end server asked view d (hold old s) new w w'
  given_view end d w w' x = writes_as end d _ _ _ _ w w' (views_on d.moment) (λ l. (adds_on old mid new.pass own l.0, l.1)) x

  -- the answer from where more was heard is that from where it was asked
  pub given_on : (b : By) (end : Delivered) (d : Delivery) (w w' : Option (List ℕ)) → (mid ≡ old) ⊎ (b ≡ view) → IsGiven end server asked b d (hold mid s) new w w' → IsGiven end server asked b d (hold old s) new w w'
  given_on b end d w w' h x =
      ⊎_elim (λ e. subst (λ (p : P). IsGiven end server asked b d (hold p s) new w w') e x)
      (λ e. subst (λ (z : By). IsGiven end server asked z d (hold old s) new w w') (sym e) (given_view end d w w' (subst (λ (z : By). IsGiven end server asked z d (hold mid s) new w w') e x)))
      h

-- memory was wanting behind what was heard
pub lacks_on : (b : By) (moment : ℕ) (old mid : P) (s : Shelf) → Adds old mid [] → (mid ≡ old) ⊎ (b ≡ view) → (hold mid s ≡ hold old s) ⊎ LacksBy b moment (hold old s) (hold mid s)
lacks_on b moment old mid s own h =
    ⊎_elim (λ e. inl (ap (λ (p : P). hold p s) e)) (λ e. inr (subst (λ (z : By). LacksBy z moment (hold old s) (hold mid s)) (sym e) (own, refl))) h
