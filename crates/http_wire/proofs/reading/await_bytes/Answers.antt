use Rattle.std.proofs.Common.{◌<◌, length, arith, rules}
use Rattle.http_wire.specs.Parts.{IsFewer}
use Rattle.http_wire.proofs.Streams.{awaits_read, awaits_more}
use Rattle.http_wire.proofs.reading.await_bytes.Goals as goal

pub turns-preserved : goal.turns-preserved
turns-preserved g c =
    let few : length c.turns.inbox.0 < c.args.size = search rules in
    let before = awaits_more g.S.Source.left _ _ _ _ _ c.turns.invariant.draws in
    let short : IsFewer c.args.size c.args.inbox.now.0 c.turns.inbox.0 = (before.0, before.1, few) in
    record { draws = awaits_read g.S.Source.left (IsFewer c.args.size c.args.inbox.now.0) _ _ _ _ _ _ c.turns.invariant.draws short c.in_ok-fill.ensures.draws; later = omega (arith, c.turns.invariant.later, c.in_ok-fill.ensures.later) }

pub returns-in_err-fill-clause-draws : goal.returns-in_err-fill-clause-draws
returns-in_err-fill-clause-draws g c =
    let few : length c.turns.inbox.0 < c.args.size = search rules in
    let before = awaits_more g.S.Source.left _ _ _ _ _ c.turns.invariant.draws in
    let short : IsFewer c.args.size c.args.inbox.now.0 c.turns.inbox.0 = (before.0, before.1, few) in
    awaits_read g.S.Source.left (IsFewer c.args.size c.args.inbox.now.0) _ _ _ _ _ _ c.turns.invariant.draws short c.in_err-fill.ensures.draws

pub returns-in-End-clause-draws : goal.returns-in-End-clause-draws
returns-in-End-clause-draws g c =
    let few : length c.turns.inbox.0 < c.args.size = search rules in
    let before = awaits_more g.S.Source.left _ _ _ _ _ c.turns.invariant.draws in
    let short : IsFewer c.args.size c.args.inbox.now.0 c.turns.inbox.0 = (before.0, before.1, few) in
    awaits_read g.S.Source.left (IsFewer c.args.size c.args.inbox.now.0) _ _ _ _ _ _ c.turns.invariant.draws short c.in_ok-fill.ensures.draws
