use Rattle.std.proofs.Common.{◌≡◌, ◌<◌, ◌≤◌, true, List}
use Rattle.share_serve.specs.Sessions.{opening}
use Rattle.share_serve.specs.Sides.{held, side, state_at}
use Rattle.share_serve.specs.Turns.{Grew, Runs, Turn}
use Rattle.share_serve.proofs.serve.serve_conn.Given as goal

abbrev pub invariant-loop-served : goal.invariant-loop-served
invariant-loop-served g l =
    let before = held g.W.Store.objects g.W.Store.alone g.W.Store.faults g.W.Store.stored l.initial.pass l.initial.store in
    let now = held g.W.Store.objects g.W.Store.alone g.W.Store.faults g.W.Store.stored l.pass l.store in
    let first = side (g.C.Clock.coming l.initial.clock) before (g.K.Sink.holds l.initial.sink) (g.K.Sink.kept l.initial.sink) in
    let here = side (g.C.Clock.coming l.clock) now (g.K.Sink.holds l.sink) (g.K.Sink.kept l.sink) in record {
      grew : Grew before now;
      is_open : l.wire.is_open ≡ true;
      few : l.served < 10000;
      later : (g.S.Source.faults l.initial.source ≤ g.S.Source.faults l.source) × ((g.K.Sink.faults l.initial.sink ≤ g.K.Sink.faults l.sink) × (g.C.Clock.faults l.initial.clock ≤ g.C.Clock.faults l.clock));
      runs : (turns : List Turn) × Runs l.server (opening (g.S.Source.left l.initial.source) first) turns (state_at l.wire.buffer (g.S.Source.left l.source) l.served here);
    }
