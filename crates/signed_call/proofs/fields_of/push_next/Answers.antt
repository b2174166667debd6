use Rattle.signed_call.proofs.fields_of.push_next.Goals as goal

pub returns-in-Some : goal.returns-in-Some
returns-in-Some c = rw c.in-Some.is c.push.ensures
