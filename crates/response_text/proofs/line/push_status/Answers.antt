use Rattle.std.proofs.Common.{◌≤◌, length, decimal, arith, ap}
use Rattle.std.proofs.lemmas.Fmt.{length-decimal-le}
use Rattle.std.proofs.lemmas.Result.{on_ok_weaker}
use Rattle.response_text.proofs.line.push_status.Goals as goal

pub returns-clause-size : goal.returns-clause-size
returns-clause-size c =
    let small = c.code.ensures.short in
    let digits : length (decimal c.code.result) ≤ 3 = length-decimal-le 3 c.code.result (omega arith) (omega arith) (omega arith) in
    let text = ap length c.format.ensures.text in
    on_ok_weaker c.push_end.result (λ last. omega (arith, last, digits, text, c.as_bytes.ensures.len, c.as_bytes-2.ensures.len, c.reason.ensures.short, c.in_ok-extend_from_slice.ensures.len, c.in_ok-extend_from_slice-2.ensures.len, c.in_ok-extend_from_slice-3.ensures.len, c.in_ok-extend_from_slice-4.ensures.len)) c.push_end.ensures.size
