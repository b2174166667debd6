use Rattle.std.proofs.Common.{refl, take, drop}
use Rattle.std.proofs.lemmas.List.{take-append-drop}
use Rattle.client_calls.proofs.call.send.Goals as goal

pub returns-in-Err-clause-sends : goal.returns-in-Err-clause-sends
returns-in-Err-clause-sends g c =
    let n = c.in-Err.field-0 in
    let text = c.args.text.now in
    (refl, c.in-Err.ensures.wrote.2, (take n text, (drop n text, take-append-drop n text), c.in-Err.ensures.wrote.1))
