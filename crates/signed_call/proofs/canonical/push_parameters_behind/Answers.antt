use Rattle.std.proofs.Common.{string_bytes, arith}
use Rattle.signed_call.specs.Signing.{parameter_behind}
use Rattle.signed_call.proofs.Lists.{piece_more}
use Rattle.signed_call.proofs.canonical.push_parameters_behind.Goals as goal

pub loop-item-preserved : goal.loop-item-preserved
loop-item-preserved c =
    piece_more parameter_behind (string_bytes c.args.out.now) _ _ c.args.parameters.now c.loop-item.item-index c.item-item.result (omega arith) c.item-item.is c.loop-item.invariant c.in_ok-push_parameter_behind.ensures
