use Rattle.std.proofs.Common.{arith, rules}
use Rattle.http_message.specs.Lines.{IsOpenLine}
use Rattle.http_wire.proofs.Streams.{awaits_read}
use Rattle.http_wire.proofs.reading.await_line.Goals as goal

pub turns-preserved : goal.turns-preserved
turns-preserved g c =
    let short : IsOpenLine c.turns.inbox.0 = search rules in
    record { draws = awaits_read g.S.Source.left IsOpenLine _ _ _ _ _ _ c.turns.invariant.draws short c.in_ok-fill.ensures.draws; later = omega (arith, c.turns.invariant.later, c.in_ok-fill.ensures.later) }

pub returns-in_err-fill-clause-draws : goal.returns-in_err-fill-clause-draws
returns-in_err-fill-clause-draws g c =
    let short : IsOpenLine c.turns.inbox.0 = search rules in
    awaits_read g.S.Source.left IsOpenLine _ _ _ _ _ _ c.turns.invariant.draws short c.in_err-fill.ensures.draws

pub returns-in-End-clause-draws : goal.returns-in-End-clause-draws
returns-in-End-clause-draws g c =
    let short : IsOpenLine c.turns.inbox.0 = search rules in
    awaits_read g.S.Source.left IsOpenLine _ _ _ _ _ _ c.turns.invariant.draws short c.in_ok-fill.ensures.draws
