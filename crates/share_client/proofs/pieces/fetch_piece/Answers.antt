use Rattle.std.proofs.Common.{◌≡◌, inl, inr, Ok, Err, refl, ◌∙◌, subst}
use Rattle.share_client.specs.Asking.{AnswersWith, AsksFor}
use Rattle.share_client.specs.Pieces.{Delivers, piece_text}
use Rattle.share_client.specs.declared.ask.Wanted.TheVariants as wanted
use Rattle.share_client.proofs.Knowing.{known_as}
use Rattle.share_client.proofs.Piecing.{delivered}
use Rattle.share_client.proofs.pieces.fetch_piece.Goals as goal

pub returns-in-Ok-taken_of-clause-told : goal.returns-in-Ok-taken_of-clause-told
returns-in-Ok-taken_of-clause-told g c =
    let target = c.args.target.now in
    let text = c.as_str.result.now in
    let spelt : text ≡ piece_text target c.args.range = c.as_str.ensures.value ∙ c.in-Ok.ensures in
    let r = c.in-Ok-ask.response in
    let held = g.K.Sink.holds c.args.sink.now in
    let now = g.K.Sink.holds c.send.new.output in
    known_as g.L.Link.coming g.L.Link.closed c.args.link.now c.ask.new.link
    (AsksFor wanted.Part target text (Ok r)) (Delivers target c.args.range held now c.send.result)
    (λ s t came. delivered target c.args.range held now _ _ c.in-Ok-taken_of.bytes.now c.send.result s t
    (r, subst (λ x. AnswersWith wanted.Part target x r s t) spelt came, c.in-Ok-taken_of.ensures) c.send.ensures.sends)
    c.in-Ok-ask.ensures.told

pub returns-in-Ok-ask-clause-told : goal.returns-in-Ok-ask-clause-told
returns-in-Ok-ask-clause-told g c =
    let target = c.args.target.now in
    let text = c.as_str.result.now in
    let spelt : text ≡ piece_text target c.args.range = c.as_str.ensures.value ∙ c.in-Ok.ensures in
    let r = c.in-Ok-ask.response in
    let held = g.K.Sink.holds c.args.sink.now in
    known_as g.L.Link.coming g.L.Link.closed c.args.link.now c.ask.new.link
    (AsksFor wanted.Part target text (Ok r)) (Delivers target c.args.range held held (Err c.in-Err-taken_of.fault))
    (λ s t came. inl (inr (inr (r, subst (λ x. AnswersWith wanted.Part target x r s t) spelt came, c.in-Err-taken_of.ensures)), refl))
    c.in-Ok-ask.ensures.told

pub returns-clause-told : goal.returns-clause-told
returns-clause-told g c =
    let target = c.args.target.now in
    let text = c.as_str.result.now in
    let spelt : text ≡ piece_text target c.args.range = c.as_str.ensures.value ∙ c.in-Ok.ensures in
    let held = g.K.Sink.holds c.args.sink.now in
    known_as g.L.Link.coming g.L.Link.closed c.args.link.now c.ask.new.link
    (AsksFor wanted.Part target text (Err c.in-Err-ask.fault)) (Delivers target c.args.range held held (Err c.in-Err-ask.fault))
    (λ s t asks. inl (inr (inl (subst (λ x. AsksFor wanted.Part target x (Err c.in-Err-ask.fault) s t) spelt asks)), refl))
    c.in-Err-ask.ensures.told
