use Rattle.std.proofs.Common.{◌<◌, arith, length}
use Rattle.share_serve.proofs.Lines.{line_in_part, line_sent}
use Rattle.share_serve.proofs.send.send_each.Goals as goal

pub loop-n-preserved : goal.loop-n-preserved
loop-n-preserved g c =
    let within : c.loop-n.n < length c.args.lines.now = omega arith in record {
      end = c.loop-n.invariant.end;
      later = (let a = c.loop-n.invariant.later in let b = c.in-Whole.ensures.later in omega arith);
      written = line_sent c.args.lines.now c.loop-n.n (g.K.Sink.holds c.args.sink.now) (g.K.Sink.holds c.loop-n.sink) (g.K.Sink.holds c.send_line.new.sink) within c.loop-n.invariant.written c.in-Whole.ensures.sent;
    }

pub returns-in-WriteFault-clause-sent : goal.returns-in-WriteFault-clause-sent
returns-in-WriteFault-clause-sent g c =
    let within : c.loop-n.n < length c.args.lines.now = omega arith in
    line_in_part c.args.lines.now c.loop-n.n (g.K.Sink.holds c.args.sink.now) (g.K.Sink.holds c.loop-n.sink) (g.K.Sink.holds c.send_line.new.sink) within c.loop-n.invariant.written c.in-WriteFault.ensures.sent

pub returns-in-NoMemory-clause-sent : goal.returns-in-NoMemory-clause-sent
returns-in-NoMemory-clause-sent g c =
    let within : c.loop-n.n < length c.args.lines.now = omega arith in
    line_in_part c.args.lines.now c.loop-n.n (g.K.Sink.holds c.args.sink.now) (g.K.Sink.holds c.loop-n.sink) (g.K.Sink.holds c.send_line.new.sink) within c.loop-n.invariant.written c.in-NoMemory.ensures.sent
