use Rattle.std.proofs.Common.{◌∙◌, ap}
use Rattle.signed_call.specs.declared.call.Call.TheVariants as call
use Rattle.bucket_store.specs.Looks.{size_next}
use Rattle.bucket_store.specs.Objects.{measured_by}
use Rattle.bucket_store.specs.Tries.{status_of}
use Rattle.bucket_store.proofs.Knowing.{known_as}
use Rattle.bucket_store.proofs.Parting.{size_told}
use Rattle.bucket_store.proofs.objects.size_of.Goals as goal

pub returns : goal.returns
returns g c =
    let made = c.ask_again-answer.result.made in
    let r = c.ask_again-answer.result.response in
    let next =
    c.size_next.ensures
    ∙ ap (λ x. size_next made x c.length_told.result) c.status_of.ensures
    ∙ ap (λ x. size_next made (status_of r) x) c.length_told.ensures in
    known_as c.ask_again-answer.ensures
    (λ s t. size_told c.args.place.now c.args.name.now (call.Head c.as_str.result) made r c.measured_by.result s t
    (c.as_str.ensures.value ∙ c.in-Ok.ensures) (c.measured_by.ensures ∙ ap (λ x. measured_by x) next))
