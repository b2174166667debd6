use Rattle.std.proofs.Common.{◌≡◌, inl, inr, Ok, Err, refl, sym, ◌∙◌, subst}
use Rattle.share_client.specs.Asking.{AnswersWith, AsksFor}
use Rattle.share_client.specs.Sizes.{SizesFrom, size_text}
use Rattle.share_client.specs.declared.ask.Wanted.TheVariants as wanted
use Rattle.share_client.specs.declared.fault.ClientFault.TheVariants as fault
use Rattle.share_client.proofs.Knowing.{known_as}
use Rattle.share_client.proofs.size.size_from.Goals as goal

pub returns-in-Some-clause-told : goal.returns-in-Some-clause-told
returns-in-Some-clause-told g c =
    let target = c.args.target.now in
    let text = c.as_str.result.now in
    let spelt : text ≡ size_text target = c.as_str.ensures.value ∙ c.in-Ok.ensures in
    let r = c.in-Ok-ask.response in
    known_as g.L.Link.coming g.L.Link.closed c.args.link.now c.ask.new.link
    (AsksFor wanted.Head target text (Ok r)) (SizesFrom target (Ok c.in-Some.size))
    (λ s t came. (r, subst (λ x. AnswersWith wanted.Head target x r s t) spelt came, sym c.in-Some.ensures))
    c.in-Ok-ask.ensures.told

pub returns-in-Ok-ask-clause-told : goal.returns-in-Ok-ask-clause-told
returns-in-Ok-ask-clause-told g c =
    let target = c.args.target.now in
    let text = c.as_str.result.now in
    let spelt : text ≡ size_text target = c.as_str.ensures.value ∙ c.in-Ok.ensures in
    let r = c.in-Ok-ask.response in
    known_as g.L.Link.coming g.L.Link.closed c.args.link.now c.ask.new.link
    (AsksFor wanted.Head target text (Ok r)) (SizesFrom target (Err (fault.BadReply 0)))
    (λ s t came. inr (inr (r, subst (λ x. AnswersWith wanted.Head target x r s t) spelt came, sym c.in-None.ensures, refl)))
    c.in-Ok-ask.ensures.told

pub returns-clause-told : goal.returns-clause-told
returns-clause-told g c =
    let target = c.args.target.now in
    let text = c.as_str.result.now in
    let spelt : text ≡ size_text target = c.as_str.ensures.value ∙ c.in-Ok.ensures in
    known_as g.L.Link.coming g.L.Link.closed c.args.link.now c.ask.new.link
    (AsksFor wanted.Head target text (Err c.in-Err-ask.fault)) (SizesFrom target (Err c.in-Err-ask.fault))
    (λ s t asks. inr (inl (subst (λ x. AsksFor wanted.Head target x (Err c.in-Err-ask.fault) s t) spelt asks)))
    c.in-Err-ask.ensures.told
