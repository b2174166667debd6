use Rattle.signed_call.proofs.Order.{in_order}
use Rattle.signed_call.proofs.laws.names_are_in_order.Goals as goal

pub returns : goal.returns
returns c = in_order
