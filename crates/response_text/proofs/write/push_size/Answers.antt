use Rattle.std.proofs.Common.{◌≤◌, length, length-append, codes, decimal, ap, arith}
use Rattle.std.proofs.lemmas.Fmt.{length-decimal-le}
use Rattle.std.proofs.lemmas.Result.{on_ok_weaker}
use Rattle.response_text.proofs.write.push_size.Goals as goal

pub returns-clause-size : goal.returns-clause-size
returns-clause-size c =
    let size = c.in-Some.size in
    let digits : length (decimal size) ≤ 20 = length-decimal-le 20 size (omega arith) (omega arith) (omega arith) in
    let text = ap length c.in_ok-value.ensures.ok in
    on_ok_weaker c.push_field.result (λ last. omega (arith, last, digits, text, length-append (codes "bytes */") (decimal size), c.as_bytes.ensures.len)) c.push_field.ensures.size
