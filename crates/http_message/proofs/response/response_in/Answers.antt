use Rattle.http_message.proofs.ResponseFacts.{lacks_response, told_response}
use Rattle.http_message.proofs.response.response_in.Goals as goal

pub returns-in-Ok : goal.returns-in-Ok
returns-in-Ok c =
    rw c.then_some.ensures (told_response c.args.text.now c.in-Ok.head c.in-Ok.len c.in-Ok.ensures.0 c.in-Ok.ensures.1 c.is_whole.result c.is_whole.ensures)

pub returns-in-Err-NoHead : goal.returns-in-Err-NoHead
returns-in-Err-NoHead c = lacks_response c.args.text.now (rw c.in-Err-NoHead.field-0-is at c.in-Err-NoHead.ensures)
