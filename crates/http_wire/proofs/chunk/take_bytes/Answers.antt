use Rattle.std.proofs.Common.{◌<◌, Ok, Err, length, ap, arith, rules}
use Rattle.std.proofs.lemmas.Result.{err_from_is_err_and}
use Rattle.http_wire.specs.declared.inbox.Filled.TheVariants as filled
use Rattle.http_wire.proofs.Takes.{taking_none, taking_more}
use Rattle.http_wire.proofs.chunk.take_bytes.Goals as goal

pub pieces-init : goal.pieces-init
pieces-init g c = record { later = omega arith; took = taking_none g.S.Source.left c.args.size c.args.body.now.items c.args.inbox.now c.args.source.now }

pub returns-in_err-move_some-clause-took : goal.returns-in_err-move_some-clause-took
returns-in_err-move_some-clause-took g c =
    let some : 0 < c.pieces.left = search rules in
    let p = err_from_is_err_and c.from_residual.result c.from_residual.ensures.1 in
    let d = taking_more g.S.Source.left c.args.size c.pieces.left c.args.body.now.items c.pieces.body.items c.move_some.new.body.items _ _ _ _ _ _ (Err c.in_err-move_some.field-0.0) some c.pieces.invariant.took c.in_err-move_some.ensures.moved in
    rw p.1 (d.0, d.1, d.2, (record { grown = d.3.0; fits = d.3.2 }, tt))

pub returns-in-End-clause-took : goal.returns-in-End-clause-took
returns-in-End-clause-took g c =
    let some : 0 < c.pieces.left = search rules in
    let moved = rw c.in-End.is at c.in_ok-move_some.ensures.moved in
    let d = taking_more g.S.Source.left c.args.size c.pieces.left c.args.body.now.items c.pieces.body.items c.move_some.new.body.items _ _ _ _ _ _ (Ok filled.End) some c.pieces.invariant.took moved in
    let none = d.3.6 in
    (d.0, d.1, d.2, (record { grown = d.3.0; fits = d.3.2 }, (none.2, none.1, omega (arith, d.3.5, ap length none.0, d.3.3, some))))

pub pieces-preserved : goal.pieces-preserved
pieces-preserved g c =
    let some : 0 < c.pieces.left = search rules in
    let d = taking_more g.S.Source.left c.args.size c.pieces.left c.args.body.now.items c.pieces.body.items c.move_some.new.body.items _ _ _ _ _ _ (Ok c.in_ok-move_some.field-0) some c.pieces.invariant.took c.in_ok-move_some.ensures.moved in
    record { later = omega (arith, c.pieces.invariant.later, c.in_ok-move_some.ensures.later); took = (d.0, d.1, d.2, (d.3.0, omega (arith, d.3.1, d.3.2, d.3.3, d.3.5))) }
