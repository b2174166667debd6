use Rattle.std.proofs.Common.{arith, ◌≡◌, ◌-◌, suc}
use Rattle.edge_core.proofs.Limits.{limited_comes}
use Rattle.edge_core.proofs.limited.LimitedListener.accept.Goals as goal

pub returns-in-Line-clause-line : goal.returns-in-Line-clause-line
returns-in-Line-clause-line g c =
    let lines = c.args.self.now.lines in
    let more : lines ≡ suc (lines - 1) = omega (arith, c.if-self-eq0.false) in
    (limited_comes lines (lines - 1) more _ _ _ _ c.in-Line.ensures.line.0, c.in-Line.ensures.line.1, c.in-Line.ensures.line.2)
