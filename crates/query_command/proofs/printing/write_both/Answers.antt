use Rattle.query_command.proofs.Flows.{Wrote-on, whole, short}
use Rattle.std.proofs.Common.{refl}
use Rattle.query_command.proofs.printing.write_both.Goals as goal

pub returns-then-not-write_text : goal.returns-then-not-write_text
returns-then-not-write_text g c =
    short (g.K.Sink.holds c.args.sink.now) (g.K.Sink.holds c.write_text.new.sink) (g.K.Sink.faults c.args.sink.now) (g.K.Sink.faults c.write_text.new.sink)
    c.args.first.now c.args.first.now c.args.second.now c.write_text.result refl c.if-not-write_text.true c.write_text.ensures

pub returns : goal.returns
returns g c =
    Wrote-on (g.K.Sink.holds c.args.sink.now) (g.K.Sink.holds c.write_text.new.sink) (g.K.Sink.holds c.write_text-2.new.sink) (g.K.Sink.faults c.args.sink.now) (g.K.Sink.faults c.write_text.new.sink) (g.K.Sink.faults c.write_text-2.new.sink)
    c.args.first.now c.args.second.now c.write_text-2.result
    (whole (g.K.Sink.holds c.args.sink.now) (g.K.Sink.holds c.write_text.new.sink) (g.K.Sink.faults c.args.sink.now) (g.K.Sink.faults c.write_text.new.sink)
    c.args.first.now c.args.first.now c.write_text.result refl c.if-not-write_text.false c.write_text.ensures)
    c.write_text-2.ensures
