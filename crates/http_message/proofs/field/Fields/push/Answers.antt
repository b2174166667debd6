use Rattle.std.proofs.Common.{◌++◌, length, ap, ◌∙◌, arith}
use Rattle.http_message.proofs.FieldFacts.{by_err, fields_more, kept, pushed}
use Rattle.http_message.proofs.field.Fields.push.Goals as goal

pub returns-in_err-extend_from_slice-2-clause-err :
    goal.returns-in_err-extend_from_slice-2-clause-err
returns-in_err-extend_from_slice-2-clause-err c =
    by_err c.from_residual-in_err-extend_from_slice-2.result _
    (rw (c.in_err-extend_from_slice-2.ensures.items, c.in_ok-extend_from_slice.ensures.items, ← c.self.view_is)
    (fields_more c.self.inside.text.items c.args.name.now c.self.inside.places.items c.self.invariant))

pub returns-in_err-push-clause-err : goal.returns-in_err-push-clause-err
returns-in_err-push-clause-err c =
    by_err c.from_residual-in_err-push.result _
    (rw (c.in_ok-extend_from_slice-2.ensures.items, c.in_ok-extend_from_slice.ensures.items, c.in_err-push.ensures.items, ← c.self.view_is)
    (kept c.self.inside.text.items c.args.name.now c.args.value.now c.self.inside.places.items c.self.invariant))

pub returns-clause-ok : goal.returns-clause-ok
returns-clause-ok c =
    let named = ap length c.in_ok-extend_from_slice.ensures.items in
    let valued = ap length c.in_ok-extend_from_slice-2.ensures.items ∙ ap (λ t. length (t ++ c.args.value.now)) c.in_ok-extend_from_slice.ensures.items in
    rw (c.in_ok-extend_from_slice-2.ensures.items, c.in_ok-extend_from_slice.ensures.items, c.in_ok-push.ensures.items, ← c.self.view_is)
    (pushed c.self.inside.text.items c.args.name.now c.args.value.now c.self.inside.places.items _ c.self.invariant
    (omega arith) (omega (arith, named)) (omega (arith, valued)))
