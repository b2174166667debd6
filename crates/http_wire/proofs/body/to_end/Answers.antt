use Rattle.std.proofs.Common.{◌≡◌, ◌≤◌, [], ◌++◌, None, Ok, Err, length, sym, ap, ◌∙◌, subst, arith, rules}
use Rattle.std.proofs.lemmas.List.{append-nil}
use Rattle.std.proofs.lemmas.Result.{err_from_is_err_and}
use Rattle.http_message.specs.Bodies.{whole}
use Rattle.http_message.specs.ResponseMessages.{ReadsResponseBody}
use Rattle.http_wire.specs.declared.inbox.Filled.TheVariants as filled
use Rattle.http_wire.proofs.Takes.{opening_more}
use Rattle.http_wire.proofs.Whole.{open_whole}
use Rattle.http_wire.proofs.body.to_end.Goals as goal

pub returns-in_err-move_some-clause-read : goal.returns-in_err-move_some-clause-read
returns-in_err-move_some-clause-read g c =
    let room : length c.pieces.body.items ≤ c.args.most = search rules in
    let p = err_from_is_err_and c.from_residual.result c.from_residual.ensures.1 in
    let d = opening_more g.S.Source.left c.args.most _ c.pieces.body.items c.move_some.new.body.items _ _ _ _ _ _ (Err c.in_err-move_some.field-0.0) room c.pieces.invariant.took c.in_err-move_some.ensures.moved in
    rw p.1 (d.0, d.1, d.2, tt)

pub pieces-preserved : goal.pieces-preserved
pieces-preserved g c =
    let room : length c.pieces.body.items ≤ c.args.most = search rules in
    let d = opening_more g.S.Source.left c.args.most _ c.pieces.body.items c.move_some.new.body.items _ _ _ _ _ _ (Ok c.in_ok-move_some.field-0) room c.pieces.invariant.took c.in_ok-move_some.ensures.moved in
    record { later = omega (arith, c.pieces.invariant.later, c.in_ok-move_some.ensures.later); took = (d.0, d.1, d.2, d.3.0) }

pub returns-in-End-clause-read : goal.returns-in-End-clause-read
returns-in-End-clause-read g c =
    let room : length c.pieces.body.items ≤ c.args.most = search rules in
    let d = opening_more g.S.Source.left c.args.most _ c.pieces.body.items c.move_some.new.body.items _ _ _ _ _ _ (Ok filled.End) room c.pieces.invariant.took (rw c.in-End.is at c.in_ok-move_some.ensures.moved) in
    let none = d.3.3 in
    let same : c.move_some.new.body.items ≡ c.pieces.body.items = d.3.0 ∙ d.3.2 ∙ ap (λ x. c.pieces.body.items ++ x) none.0 ∙ append-nil c.pieces.body.items in
    let all : d.1 ++ c.move_some.new.self.0 ≡ c.move_some.new.body.items = ap (λ x. d.1 ++ x) none.1 ∙ append-nil d.1 ∙ sym d.3.0 in
    (d.0, d.1, d.2, (none.2, none.1, subst (λ x. ReadsResponseBody c.args.most (Ok None) x (whole c.move_some.new.body.items [])) (sym all) (open_whole c.args.most c.move_some.new.body.items (omega (arith, ap length same, room)))))
