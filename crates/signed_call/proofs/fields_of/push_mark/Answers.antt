use Rattle.signed_call.proofs.fields_of.push_mark.Goals as goal

pub returns-in-PutAbsent : goal.returns-in-PutAbsent
returns-in-PutAbsent c = rw c.in-PutAbsent.is c.push.ensures
