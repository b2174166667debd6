use Rattle.std.proofs.Common.{◌∙◌, ap, refl, subst}
use Rattle.signed_call.specs.declared.call.Call.TheVariants as call
use Rattle.bucket_store.specs.Objects.{Follows, key_of}
use Rattle.bucket_store.specs.Puts.{put_next, put_reply}
use Rattle.bucket_store.proofs.Knowing.{known_then}
use Rattle.bucket_store.proofs.Parting.{put_told}
use Rattle.bucket_store.proofs.objects.put_absent.Goals as goal

pub returns : goal.returns
returns g c =
    let place = c.args.place.now in
    let mark = c.args.mark.now in
    let name = c.args.name.now in
    let made = c.ask_again-answer.result.made in
    let r = c.ask_again-answer.result.response in
    let spelt = c.as_str.ensures.value ∙ c.in-Ok.ensures in
    let next =
    c.put_next-next.ensures
    ∙ ap (λ x. put_next made x) c.put_reply.ensures
    ∙ ap (λ x. put_next made (put_reply x)) c.status_of.ensures in
    known_then c.ask_again-answer.ensures c.decided-put.ensures
    (λ s t u came follows. put_told place mark name c.args.bytes.now (call.PutAbsent c.as_str.result c.args.mark c.args.bytes) made r c.decided-put.result s t u (spelt, refl, refl) came
    (subst (λ x. Follows place (key_of place name) mark x c.decided-put.result t u) next
    (subst (λ x. Follows place x mark c.put_next-next.result c.decided-put.result t u) (c.as_str-2.ensures.value ∙ c.in-Ok.ensures) follows)))
