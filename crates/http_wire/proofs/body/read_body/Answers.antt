use Rattle.std.proofs.Common.{◌≡◌, Some, rules}
use Rattle.http_message.specs.declared.framing.Form.TheVariants as form
use Rattle.http_wire.proofs.body.read_body.Goals as goal

pub returns-in-Some-Length-clause-read : goal.returns-in-Some-Length-clause-read
returns-in-Some-Length-clause-read g c =
    let e : c.args.form ≡ Some (form.Length c.in-Some-Length.size) = search rules in
    rw e c.sized.ensures.read

pub returns-in-Some-Chunked-clause-read : goal.returns-in-Some-Chunked-clause-read
returns-in-Some-Chunked-clause-read g c =
    let e : c.args.form ≡ Some form.Chunked = search rules in
    rw e c.chunked.ensures.read

pub returns-in-None-clause-read : goal.returns-in-None-clause-read
returns-in-None-clause-read g c =
    rw c.in-None.is c.to_end.ensures.read
