use Rattle.std.proofs.Common.{◌≡◌, inl, inr, Ok, Err, refl, sym, ap, ◌∙◌, subst, length}
use Rattle.std.specs.Io.KnownBytes.{append_known}
use Rattle.share_client.specs.Asking.{Answers, Asks}
use Rattle.share_client.specs.Files.{FetchesFrom}
use Rattle.share_client.proofs.Knowing.{known_as}
use Rattle.share_client.proofs.fetch.fetch_from.Goals as goal

pub returns-in-Ok-send-clause-told : goal.returns-in-Ok-send-clause-told
returns-in-Ok-send-clause-told g c =
    let target = c.args.target.now in
    let text = c.as_str.result.now in
    let spelt = c.as_str.ensures.value ∙ c.in-Ok.ensures in
    let r = c.in-Ok-ask.response in
    let held = c.in-Ok-send.ensures.sends ∙ ap (append_known (g.K.Sink.holds c.args.sink.now)) c.as_slice.ensures.value in
    let size : c.len.result ≡ length r.body.items = c.len.ensures ∙ sym c.as_slice.ensures.len ∙ ap length c.as_slice.ensures.value in
    known_as g.L.Link.coming g.L.Link.closed c.args.link.now c.ask.new.link
    (Asks target text (Ok r)) (FetchesFrom target (g.K.Sink.holds c.args.sink.now) (g.K.Sink.holds c.send.new.output) (Ok c.len.result))
    (λ s t came. (r, subst (λ x. Answers target x r s t) spelt came, held, size))
    c.in-Ok-ask.ensures.told

pub returns-in-Ok-ask-clause-told : goal.returns-in-Ok-ask-clause-told
returns-in-Ok-ask-clause-told g c =
    let target = c.args.target.now in
    let text = c.as_str.result.now in
    let spelt = c.as_str.ensures.value ∙ c.in-Ok.ensures in
    let r = c.in-Ok-ask.response in
    let sends = rw c.as_slice.ensures.value at c.in-Err-send.ensures.sends in
    known_as g.L.Link.coming g.L.Link.closed c.args.link.now c.ask.new.link
    (Asks target text (Ok r)) (FetchesFrom target (g.K.Sink.holds c.args.sink.now) (g.K.Sink.holds c.send.new.output) (Err c.in-Err-send.fault))
    (λ s t came. inr (r, subst (λ x. Answers target x r s t) spelt came, sends.0, sends.2))
    c.in-Ok-ask.ensures.told

pub returns-clause-told : goal.returns-clause-told
returns-clause-told g c =
    let target = c.args.target.now in
    let text = c.as_str.result.now in
    let spelt = c.as_str.ensures.value ∙ c.in-Ok.ensures in
    let held = g.K.Sink.holds c.args.sink.now in
    known_as g.L.Link.coming g.L.Link.closed c.args.link.now c.ask.new.link
    (Asks target text (Err c.in-Err-ask.fault)) (FetchesFrom target held held (Err c.in-Err-ask.fault))
    (λ s t asks. inl (refl, inr (subst (λ x. Asks target x (Err c.in-Err-ask.fault) s t) spelt asks)))
    c.in-Err-ask.ensures.told
