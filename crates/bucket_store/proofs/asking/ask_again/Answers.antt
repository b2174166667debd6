use Rattle.std.proofs.Common.{◌∙◌, sym}
use Rattle.bucket_store.proofs.Again.{asked_once, asked_thrice, asked_twice}
use Rattle.bucket_store.proofs.Knowing.{known_as, known_then, known_thrice}
use Rattle.bucket_store.proofs.asking.ask_again.Goals as goal

pub returns-then-not-goes_on : goal.returns-then-not-goes_on
returns-then-not-goes_on g c =
    known_as c.ask-first.ensures
    (λ s t. asked_once c.args.place.now c.args.call.now c.ask-first.result s t (sym c.goes_on.ensures ∙ c.if-not-goes_on.true))

pub returns-then-not-goes_on-2 : goal.returns-then-not-goes_on-2
returns-then-not-goes_on-2 g c =
    known_then c.ask-first.ensures c.ask-second.ensures
    (λ s t u. asked_twice c.args.place.now c.args.call.now c.ask-first.result c.ask-second.result s t u
    (sym c.goes_on.ensures ∙ c.if-not-goes_on.false) (sym c.goes_on-2.ensures ∙ c.if-not-goes_on-2.true))

pub returns : goal.returns
returns g c =
    known_thrice c.ask-first.ensures c.ask-second.ensures c.ask-third.ensures
    (λ s t u v. asked_thrice c.args.place.now c.args.call.now c.ask-first.result c.ask-second.result c.ask-third.result s t u v
    (sym c.goes_on.ensures ∙ c.if-not-goes_on.false) (sym c.goes_on-2.ensures ∙ c.if-not-goes_on-2.false))
