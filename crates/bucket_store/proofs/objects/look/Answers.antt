use Rattle.std.proofs.Common.{◌∙◌, ap, refl}
use Rattle.signed_call.specs.declared.call.Call.TheVariants as call
use Rattle.bucket_store.specs.Puts.{looked}
use Rattle.bucket_store.proofs.Knowing.{known_as}
use Rattle.bucket_store.proofs.Parting.{look_told}
use Rattle.bucket_store.proofs.objects.look.Goals as goal

pub returns : goal.returns
returns g c =
    known_as c.ask_again-answer.ensures
    (λ s t. look_told c.args.place.now c.args.key.now c.args.mark.now (call.Head c.args.key) c.ask_again-answer.result.made c.ask_again-answer.result.response c.looked.result s t
    refl (c.looked.ensures ∙ ap (λ x. looked x) c.look_of.ensures))
