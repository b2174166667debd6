-- What a session tells.
use Rattle.std.proofs.Common.{◌≡◌, ℕ, ◌+◌, ◌<◌, ◌^◌, List, [], ◌∷◌, Option, Some, refl, sym, ap, ◌∙◌, subst, arith}
use Rattle.std.specs.Io.KnownBytes.{append_known}
use mathlib.Core.List.{IsPrefix}
use Rattle.http_message.specs.Sessions.{ReadsRequests, place_behind}
use Rattle.share_book.specs.declared.entry.Entry.{Entry}
use Rattle.share_serve.specs.Laws.{IsChain, Tells, messages_of, points_of, texts}
use Rattle.share_serve.specs.Turns.{Runs, State, Turn, stream_of, text_of}
use Rattle.share_serve.specs.declared.server.Server.{Server}
use Rattle.share_serve.proofs.Basics.{append_known-append, append_known-nil, prefix_self, prefix_trans}

chain_from : (p q : List Entry) (points : List (List Entry)) (new : List Entry) → IsPrefix p q → IsChain q points new → IsChain p points new
chain_from p q [] new before c = prefix_trans p q new before c
chain_from p q (x ∷ points) new before c = (prefix_trans p q x before c.0, c.1)

pub tells : (server : Server) (old new : State) (turns : List Turn) → Runs server old turns new → Tells old new turns
tells server old new [] r = record {
  written = ap (λ (v : State). v.side.written) r ∙ append_known-nil old.side.written;
  chain = subst (λ (v : State). IsPrefix old.side.hold.pass.seen v.side.hold.pass.seen) (sym r) (prefix_self old.side.hold.pass.seen);
  served = ap (λ (v : State). v.served) r ∙ omega arith;
}
tells server old new (t ∷ turns) r =
    let rest = tells server r.0 new turns r.2 in
    let s = r.1 in
    let at : t.point ≡ r.0.side.hold.pass.seen = s.responds.point in record {
      written = rest.written ∙ ap (λ n. append_known r.0.side.written (texts n turns)) s.served
          ∙ ap (λ (z : Option (List ℕ)). append_known z (texts (old.served + 1) turns)) s.responds.writes
          ∙ append_known-append old.side.written (text_of old.served t) (texts (old.served + 1) turns);
      chain = (
        subst (λ (z : List Entry). IsPrefix old.side.hold.pass.seen z) (sym at) s.responds.grew.pass.seen,
        chain_from t.point r.0.side.hold.pass.seen (points_of turns) new.side.hold.pass.seen (subst (λ (z : List Entry). IsPrefix t.point z) at (prefix_self t.point)) rest.chain,
      );
      served = rest.served ∙ (let a = s.served in omega arith);
    }

pub place_small : (p : ℕ) (text : List ℕ) → place_behind p text < 2 ^ 64
place_small p text = omega arith

-- the requests are the first messages of the stream
pub reads : (server : Server) (old new : State) (turns : List Turn) (bytes : List ℕ) → Runs server old turns new → stream_of old ≡ Some bytes → old.buffer.1 < 2 ^ 64
    → (rest : List ℕ) × (stream_of new ≡ Some rest) × ReadsRequests (messages_of turns) old.buffer.1 bytes new.buffer.1 rest
reads server old new [] bytes r is small = (bytes, ap (λ (v : State). stream_of v) r ∙ is, (refl, ap (λ (v : State). v.buffer.1) r))
reads server old new (t ∷ turns) bytes r is small =
    let h = r.1.receives.told bytes is in
    let m = h.2 in
    let at : r.0.buffer.1 ≡ place_behind old.buffer.1 m.0.0 = m.0.2 small in
    let low : r.0.buffer.1 < 2 ^ 64 = subst (λ (z : ℕ). z < 2 ^ 64) (sym at) (place_small old.buffer.1 m.0.0) in
    let rest = reads server r.0 new turns h.0 r.2 h.1 low in
    (rest.0, rest.1, (m.0.0, h.0, m.0.1, m.1, m.2, subst (λ (z : ℕ). ReadsRequests (messages_of turns) z h.0 new.buffer.1 rest.0) at rest.2))
