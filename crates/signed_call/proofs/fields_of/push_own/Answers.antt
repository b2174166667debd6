use Rattle.std.proofs.Common.{◌∙◌}
use Rattle.signed_call.proofs.fields_of.push_own.Goals as goal

pub returns-in-PutAbsent : goal.returns-in-PutAbsent
returns-in-PutAbsent c = rw c.in-PutAbsent.is c.push-in-PutAbsent.ensures

pub returns-in_ok-value-in-Get : goal.returns-in_ok-value-in-Get
returns-in_ok-value-in-Get c = rw c.in-Get.is (rw (c.deref.ensures ∙ c.in_ok-value-in-Get.ensures) at c.push.ensures)
