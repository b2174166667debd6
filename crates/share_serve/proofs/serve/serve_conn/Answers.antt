use Rattle.std.proofs.Common.{◌+◌, [], ◌∷◌, ◌++◌, arith}
use Rattle.share_serve.specs.Sessions.{opening}
use Rattle.share_serve.specs.Sides.{held, side, state_at}
use Rattle.share_serve.proofs.Causes.{has_cause}
use Rattle.share_serve.proofs.Holds.{grew_on}
use Rattle.share_serve.proofs.Runs.{runs_more, session_join}
use Rattle.share_serve.proofs.serve.serve_conn.Goals as goal

pub returns-in-Some-clause-session : goal.returns-in-Some-clause-session
returns-in-Some-clause-session g c =
    let l = c.loop-served in
    let first = side (g.C.Clock.coming c.args.clock.now) (held g.W.Store.objects g.W.Store.alone g.W.Store.faults g.W.Store.stored c.args.pass.now c.args.store.now) (g.K.Sink.holds c.args.sink.now) (g.K.Sink.kept c.args.sink.now) in
    let here = state_at l.wire.buffer (g.S.Source.left l.source) l.served (side (g.C.Clock.coming l.clock) (held g.W.Store.objects g.W.Store.alone g.W.Store.faults g.W.Store.stored l.pass l.store) (g.K.Sink.holds l.sink) (g.K.Sink.kept l.sink)) in
    let last = side (g.C.Clock.coming c.serve_next.new.clock) (held g.W.Store.objects g.W.Store.alone g.W.Store.faults g.W.Store.stored c.serve_next.new.pass c.serve_next.new.store) (g.K.Sink.holds c.serve_next.new.sink) (g.K.Sink.kept c.serve_next.new.sink) in
    session_join c.args.server.now (opening (g.S.Source.left c.args.source.now) first) here l.invariant.runs.0 c.in-Some.end (g.S.Source.left c.serve_next.new.source) last l.invariant.runs.1 c.in-Some.ensures.steps

pub returns-in-Some-clause-grew : goal.returns-in-Some-clause-grew
returns-in-Some-clause-grew g c =
    let l = c.loop-served in
    grew_on (held g.W.Store.objects g.W.Store.alone g.W.Store.faults g.W.Store.stored c.args.pass.now c.args.store.now) (held g.W.Store.objects g.W.Store.alone g.W.Store.faults g.W.Store.stored l.pass l.store)
    (held g.W.Store.objects g.W.Store.alone g.W.Store.faults g.W.Store.stored c.serve_next.new.pass c.serve_next.new.store) l.invariant.grew c.in-Some.ensures.grew

pub loop-served-preserved : goal.loop-served-preserved
loop-served-preserved g c =
    let l = c.loop-served in
    let e = c.in-None.ensures in
    let before = held g.W.Store.objects g.W.Store.alone g.W.Store.faults g.W.Store.stored c.args.pass.now c.args.store.now in
    let now = held g.W.Store.objects g.W.Store.alone g.W.Store.faults g.W.Store.stored l.pass l.store in
    let then = held g.W.Store.objects g.W.Store.alone g.W.Store.faults g.W.Store.stored c.serve_next.new.pass c.serve_next.new.store in
    let first = side (g.C.Clock.coming c.args.clock.now) before (g.K.Sink.holds c.args.sink.now) (g.K.Sink.kept c.args.sink.now) in
    let here = state_at l.wire.buffer (g.S.Source.left l.source) l.served (side (g.C.Clock.coming l.clock) now (g.K.Sink.holds l.sink) (g.K.Sink.kept l.sink)) in
    let next = state_at c.serve_next.new.wire.buffer (g.S.Source.left c.serve_next.new.source) (l.served + 1) (side (g.C.Clock.coming c.serve_next.new.clock) then (g.K.Sink.holds c.serve_next.new.sink) (g.K.Sink.kept c.serve_next.new.sink)) in
    record {
      grew = grew_on before now then l.invariant.grew e.grew;
      is_open = e.goes.0;
      few = e.goes.1;
      later = (
        (let a = l.invariant.later.0 in let b = e.later.0 in omega arith),
        ((let a = l.invariant.later.1.0 in let b = e.later.1 in omega arith), (let a = l.invariant.later.1.1 in let b = e.later.2 in omega arith)),
      );
      runs = (
        l.invariant.runs.0 ++ e.steps.0 ∷ [],
        runs_more c.args.server.now (opening (g.S.Source.left c.args.source.now) first) here next l.invariant.runs.0 e.steps.0 l.invariant.runs.1 e.steps.1,
      );
    }

pub returns-in-Some-clause-cause : goal.returns-in-Some-clause-cause
returns-in-Some-clause-cause g c =
    let l = c.loop-served.invariant in
    has_cause c.in-Some.end (g.S.Source.faults c.args.source.now) (g.S.Source.faults c.loop-served.source) (g.S.Source.faults c.serve_next.new.source) (g.K.Sink.faults c.args.sink.now) (g.K.Sink.faults c.loop-served.sink)
    (g.K.Sink.faults c.serve_next.new.sink) (g.W.Store.objects c.args.store.now) (g.W.Store.objects c.loop-served.store) (g.W.Store.faults c.args.store.now) (g.W.Store.faults c.loop-served.store) (g.W.Store.faults c.serve_next.new.store)
    l.later.0 l.later.1.0 l.grew.objects l.grew.faults c.in-Some.ensures.goes
