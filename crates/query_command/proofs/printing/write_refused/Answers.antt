use Rattle.std.proofs.Common.{◌++◌, codes, refl}
use Rattle.std.specs.Prelude.{decimal}
use Rattle.query_command.proofs.Flows.{Wrote-on, whole, short}
use Rattle.query_command.proofs.printing.write_refused.Goals as goal

pub returns-then-not-write_refusal : goal.returns-then-not-write_refusal
returns-then-not-write_refusal g c =
    short (g.K.Sink.holds c.args.sink.now) (g.K.Sink.holds c.write_refusal.new.sink) (g.K.Sink.faults c.args.sink.now) (g.K.Sink.faults c.write_refusal.new.sink)
    (codes "share: refused ") (codes "share: refused ") (decimal c.args.status ++ (codes " " ++ (c.args.word.now ++ codes "\n"))) c.write_refusal.result refl c.if-not-write_refusal.true c.write_refusal.ensures

pub returns : goal.returns
returns g c =
    Wrote-on (g.K.Sink.holds c.args.sink.now) (g.K.Sink.holds c.write_refusal.new.sink) (g.K.Sink.holds c.write_status.new.sink) (g.K.Sink.faults c.args.sink.now) (g.K.Sink.faults c.write_refusal.new.sink) (g.K.Sink.faults c.write_status.new.sink)
    (codes "share: refused ") (decimal c.args.status ++ (codes " " ++ (c.args.word.now ++ codes "\n"))) c.write_status.result
    (whole (g.K.Sink.holds c.args.sink.now) (g.K.Sink.holds c.write_refusal.new.sink) (g.K.Sink.faults c.args.sink.now) (g.K.Sink.faults c.write_refusal.new.sink)
    (codes "share: refused ") (codes "share: refused ") c.write_refusal.result refl c.if-not-write_refusal.false c.write_refusal.ensures)
    c.write_status.ensures
