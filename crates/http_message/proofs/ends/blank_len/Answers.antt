use Rattle.std.proofs.Common.{arith}
use Rattle.http_message.proofs.BlankLemmas.{blank_at_lf, blank_at_crlf, blank_at_end, blank_at_other}
use Rattle.http_message.proofs.ends.blank_len.Goals as goal
use Rattle.http_message.proofs.ends.blank_len.Goals.{else-bytes-at-eq13-via-then-bytes-at-eq13+then-at-bytes+else-bytes-at-eq10-2, else-bytes-at-eq13-via-then-bytes-at-eq13+else-at-bytes, else-bytes-at-eq13-via-else-bytes-at-eq13}

pub loop-at-preserved-then-bytes-at-eq10 : goal.loop-at-preserved-then-bytes-at-eq10
loop-at-preserved-then-bytes-at-eq10 c =
    let step = blank_at_lf c.args.bytes.now c.loop-at.at (omega arith) c.if-bytes-at-eq10.true in
    (omega arith, omega (arith, c.loop-at.invariant.1, step))

pub loop-at-preserved : goal.loop-at-preserved
loop-at-preserved c =
    let step = blank_at_crlf c.args.bytes.now c.loop-at.at (omega arith) c.if-bytes-at-eq13.true c.if-bytes-at-eq10-2.true in
    (omega arith, omega (arith, c.loop-at.invariant.1, step))

pub returns-after-loop-at-clause-value : goal.returns-after-loop-at-clause-value
returns-after-loop-at-clause-value c =
    let none = blank_at_end c.args.bytes.now c.loop-at.at (omega arith) in
    omega (arith, c.loop-at.invariant.1, none)

pub returns-else-bytes-at-eq13-clause-value : goal.returns-else-bytes-at-eq13-clause-value
returns-else-bytes-at-eq13-clause-value c =
    let none = blank_at_other c.args.bytes.now c.loop-at.at (omega arith) c.if-bytes-at-eq10.false (λ cr some.
    elim c.else-bytes-at-eq13.branch [
      | else-bytes-at-eq13-via-then-bytes-at-eq13+then-at-bytes+else-bytes-at-eq10-2 w ↦ w.if-bytes-at-eq10-2.false
      | else-bytes-at-eq13-via-then-bytes-at-eq13+else-at-bytes w ↦ absurd (omega arith)
      | else-bytes-at-eq13-via-else-bytes-at-eq13 w ↦ absurd (w.if-bytes-at-eq13.false cr)
    ]) in
    omega (arith, c.loop-at.invariant.1, none)
