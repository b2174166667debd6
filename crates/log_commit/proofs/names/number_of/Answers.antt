use Rattle.std.proofs.Common.{arith}
use Rattle.log_commit.proofs.NameLemmas.{number_more, number_least}
use Rattle.log_commit.proofs.names.number_of.Goals as goal

pub returns-in_err-checked_mul : goal.returns-in_err-checked_mul
returns-in_err-checked_mul c =
    let least = number_least c.args.digits.now c.loop-digit.digit-index c.loop-digit.number (omega arith) c.requires c.loop-digit.invariant in
    rw c.from_residual.ensures (omega (arith, c.in_err-checked_mul.ensures))

pub returns-in_err-number : goal.returns-in_err-number
returns-in_err-number c =
    let least = number_least c.args.digits.now c.loop-digit.digit-index c.loop-digit.number (omega arith) c.requires c.loop-digit.invariant in
    rw c.from_residual-in_err-number.ensures (omega (arith, c.in_err-number.ensures))

pub loop-digit-preserved : goal.loop-digit-preserved
loop-digit-preserved c =
    let more = number_more c.args.digits.now c.loop-digit.digit-index c.loop-digit.number (omega arith) c.requires c.loop-digit.invariant in
    omega (arith, c.in_ok-number.ensures, c.in_ok-checked_mul.ensures)
