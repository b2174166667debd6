use Rattle.std.proofs.Common.{◌≡◌, ◌<◌, ◌++◌, Some, Ok, length, sym, ap, ◌∙◌, subst, arith, length-append}
use Rattle.std.proofs.lemmas.Result.{err_from_is_err_and}
use Rattle.http_message.specs.declared.framing.Form.TheVariants as form
use Rattle.http_message.specs.ResponseMessages.{ReadsResponseBody}
use Rattle.http_message.specs.Bodies.{whole}
use Rattle.http_wire.specs.Bodies.{IsBodyShort}
use Rattle.http_wire.proofs.Streams.{draws_weaken}
use Rattle.http_wire.proofs.Whole.{sized_short, sized_whole}
use Rattle.http_wire.proofs.body.sized.Goals as goal

pub returns-in_err-take_bytes-clause-read : goal.returns-in_err-take_bytes-clause-read
returns-in_err-take_bytes-clause-read g c =
    let p = err_from_is_err_and c.from_residual.result c.from_residual.ensures.1 in
    let took = c.in_err-take_bytes.ensures.took in
    rw p.1 (took.0, took.1, draws_weaken g.S.Source.left (IsBodyShort c.args.most (Some (form.Length c.args.size))) (λ y. length y < c.args.size) _ _ _ _ _ _ (sized_short c.args.most c.args.size) took.2, tt)

pub returns-in-Enough-clause-read : goal.returns-in-Enough-clause-read
returns-in-Enough-clause-read g c =
    let took = rw c.in-Enough.is at c.in_ok-take_bytes.ensures.took in
    let same : c.take_bytes.new.body.items ≡ took.1 = took.3.0.grown ∙ ap (λ x. x ++ took.1) c.requires in (
      took.0,
      took.1,
      draws_weaken g.S.Source.left (IsBodyShort c.args.most (Some (form.Length c.args.size))) (λ y. length y < c.args.size) _ _ _ _ _ _ (sized_short c.args.most c.args.size) took.2,
      (λ ys. subst (λ x. ReadsResponseBody c.args.most (Ok (Some (form.Length c.args.size))) (took.1 ++ ys) (whole x ys)) (sym same) (sized_whole c.args.most c.args.size took.1 ys took.3.1)),
    )

pub returns-in-Ended-clause-read : goal.returns-in-Ended-clause-read
returns-in-Ended-clause-read g c =
    let took = rw c.in-Ended.is at c.in_ok-take_bytes.ensures.took in
    let found = took.3.1 in (
      took.0,
      took.1,
      draws_weaken g.S.Source.left (IsBodyShort c.args.most (Some (form.Length c.args.size))) (λ y. length y < c.args.size) _ _ _ _ _ _ (sized_short c.args.most c.args.size) took.2,
      (found.0, sized_short c.args.most c.args.size (took.1 ++ c.take_bytes.new.inbox.0) (omega (arith, length-append took.1 c.take_bytes.new.inbox.0, ap length found.1, found.2))),
    )
