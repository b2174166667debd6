use Rattle.std.proofs.Common.{◌++◌, codes, refl}
use Rattle.std.specs.Prelude.{decimal}
use Rattle.query_command.proofs.Flows.{Wrote-on, whole, short}
use Rattle.query_command.proofs.printing.write_status.Goals as goal

pub returns-then-not-write_digits : goal.returns-then-not-write_digits
returns-then-not-write_digits g c =
    short (g.K.Sink.holds c.args.sink.now) (g.K.Sink.holds c.write_digits.new.sink) (g.K.Sink.faults c.args.sink.now) (g.K.Sink.faults c.write_digits.new.sink)
    (decimal c.args.status) (decimal c.args.status) (codes " " ++ (c.args.word.now ++ codes "\n")) c.write_digits.result refl c.if-not-write_digits.true c.write_digits.ensures

pub returns : goal.returns
returns g c =
    Wrote-on (g.K.Sink.holds c.args.sink.now) (g.K.Sink.holds c.write_digits.new.sink) (g.K.Sink.holds c.write_word.new.sink) (g.K.Sink.faults c.args.sink.now) (g.K.Sink.faults c.write_digits.new.sink) (g.K.Sink.faults c.write_word.new.sink)
    (decimal c.args.status) (codes " " ++ (c.args.word.now ++ codes "\n")) c.write_word.result
    (whole (g.K.Sink.holds c.args.sink.now) (g.K.Sink.holds c.write_digits.new.sink) (g.K.Sink.faults c.args.sink.now) (g.K.Sink.faults c.write_digits.new.sink)
    (decimal c.args.status) (decimal c.args.status) c.write_digits.result refl c.if-not-write_digits.false c.write_digits.ensures)
    c.write_word.ensures
