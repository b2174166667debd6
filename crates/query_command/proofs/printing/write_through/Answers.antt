use Rattle.query_command.proofs.Flows.{kept_back}
use Rattle.query_command.proofs.printing.write_through.Goals as goal

pub returns-in-Failed : goal.returns-in-Failed
returns-in-Failed g c =
    kept_back (g.K.Sink.holds c.args.sink.now) (g.K.Sink.holds c.write_text.new.sink) (g.K.Sink.holds c.flush.new.self) (g.K.Sink.faults c.args.sink.now) (g.K.Sink.faults c.write_text.new.sink) (g.K.Sink.faults c.flush.new.self)
    c.args.bytes.now c.write_text.result c.if-not-write_text.false c.write_text.ensures c.in-Failed.ensures.held c.in-Failed.ensures.cause.rose c.in-Failed.ensures.cause.later
