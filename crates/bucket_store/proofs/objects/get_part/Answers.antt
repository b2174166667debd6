use Rattle.std.proofs.Common.{◌∙◌, length, refl}
use Rattle.signed_call.specs.declared.call.Call.TheVariants as call
use Rattle.bucket_store.proofs.Knowing.{known_as}
use Rattle.bucket_store.proofs.Parting.{part_got}
use Rattle.bucket_store.proofs.objects.get_part.Goals as goal

pub returns-clause-told : goal.returns-clause-told
returns-clause-told g c =
    known_as c.ask_again-answer.ensures
    (λ s t. part_got c.args.place.now c.args.name.now c.args.from c.last_of-last.result (length c.args.out.now) (call.Get c.as_str.result c.args.from c.last_of-last.result)
    c.ask_again-answer.result.made c.ask_again-answer.result.response c.got_of.result c.end_told.result c.got_of.new.out s t
    (c.as_str.ensures.value ∙ c.in-Ok.ensures, refl, refl) c.last_of-last.ensures c.got_of.ensures.room c.got_of.ensures.got c.end_told.ensures)
