use Rattle.std.proofs.Common.{string_bytes, arith}
use Rattle.signed_call.specs.Signing.{name_behind}
use Rattle.signed_call.proofs.Lists.{piece_more}
use Rattle.signed_call.proofs.canonical.push_names_behind.Goals as goal

pub loop-field-preserved : goal.loop-field-preserved
loop-field-preserved c =
    piece_more name_behind (string_bytes c.args.out.now) _ _ c.args.fields.now c.loop-field.field-index c.field-item.result (omega arith) c.field-item.is c.loop-field.invariant c.in_ok-push_name_behind.ensures
