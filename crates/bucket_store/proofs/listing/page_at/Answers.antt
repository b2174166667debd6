use Rattle.std.proofs.Common.{refl}
use Rattle.signed_call.specs.declared.call.Call.TheVariants as call
use Rattle.bucket_store.proofs.Knowing.{known_as}
use Rattle.bucket_store.proofs.listing.page_at.Goals as goal

pub returns-in-Some : goal.returns-in-Some
returns-in-Some g c =
    known_as c.ask_again-answer.ensures
    (λ s t came. (
      c.ask_again-answer.result.made,
      c.ask_again-answer.result.response,
      (call.List c.args.front c.text_or_none.result, (refl, c.text_or_none.ensures), came),
      c.in-Some.ensures.fine refl,
      c.in-Some.ensures.read,
    ))

pub returns-in-None : goal.returns-in-None
returns-in-None g c =
    known_as c.ask_again-answer.ensures
    (λ s t came. (c.ask_again-answer.result.made, c.ask_again-answer.result.response, (call.List c.args.front c.text_or_none.result, (refl, c.text_or_none.ensures), came)))
