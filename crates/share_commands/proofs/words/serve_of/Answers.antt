use Rattle.std.proofs.Common.{◌≤◌, arith, sym, subst}
use Rattle.std.specs.Prelude.{IfSome}
use Rattle.share_commands.proofs.Numbers.{number_within}
use Rattle.share_commands.proofs.words.serve_of.Goals as goal

pub overflow_cast-result : goal.overflow_cast-result
overflow_cast-result c =
    let within = subst (λ o. IfSome o (λ n. (1 ≤ n) × (n ≤ 65535))) (sym c.in_ok-port.ensures) (number_within 1 65535 c.args.port.now) in
    omega (arith, within.1)
