use Rattle.std.proofs.Common.{take, drop}
use Rattle.std.proofs.lemmas.List.{take-append-drop}
use Rattle.share_serve.proofs.send.send_text.Goals as goal

pub returns-in-Err-clause-sent : goal.returns-in-Err-clause-sent
returns-in-Err-clause-sent g c =
    (take c.in-Err.field-0 c.args.text.now, (drop c.in-Err.field-0 c.args.text.now, take-append-drop c.in-Err.field-0 c.args.text.now), c.in-Err.ensures.wrote.1)
