use Rattle.std.proofs.Common.{◌++◌, codes, refl}
use Rattle.query_command.proofs.Flows.{Wrote-on, whole, short}
use Rattle.query_command.proofs.printing.write_word.Goals as goal

pub returns-then-not-write_space : goal.returns-then-not-write_space
returns-then-not-write_space g c =
    short (g.K.Sink.holds c.args.sink.now) (g.K.Sink.holds c.write_space.new.sink) (g.K.Sink.faults c.args.sink.now) (g.K.Sink.faults c.write_space.new.sink)
    (codes " ") (codes " ") (c.args.word.now ++ codes "\n") c.write_space.result refl c.if-not-write_space.true c.write_space.ensures

pub returns : goal.returns
returns g c =
    Wrote-on (g.K.Sink.holds c.args.sink.now) (g.K.Sink.holds c.write_space.new.sink) (g.K.Sink.holds c.write_end.new.sink) (g.K.Sink.faults c.args.sink.now) (g.K.Sink.faults c.write_space.new.sink) (g.K.Sink.faults c.write_end.new.sink)
    (codes " ") (c.args.word.now ++ codes "\n") c.write_end.result
    (whole (g.K.Sink.holds c.args.sink.now) (g.K.Sink.holds c.write_space.new.sink) (g.K.Sink.faults c.args.sink.now) (g.K.Sink.faults c.write_space.new.sink)
    (codes " ") (codes " ") c.write_space.result refl c.if-not-write_space.false c.write_space.ensures)
    c.write_end.ensures
