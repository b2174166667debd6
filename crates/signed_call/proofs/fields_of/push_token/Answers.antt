use Rattle.signed_call.proofs.fields_of.push_token.Goals as goal

pub returns-in-Some : goal.returns-in-Some
returns-in-Some c = rw c.in-Some.is (rw c.as_str.ensures at c.push.ensures)
