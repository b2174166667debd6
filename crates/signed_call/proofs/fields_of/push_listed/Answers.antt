use Rattle.std.proofs.Common.{append_assoc}
use Rattle.signed_call.proofs.fields_of.push_listed.Goals as goal

pub returns : goal.returns
returns c =
    simp append_assoc at (rw (c.in_ok-push-4.ensures, c.in_ok-push-3.ensures, c.in_ok-push-2.ensures, c.in_ok-push.ensures) at c.push-5.ensures)
