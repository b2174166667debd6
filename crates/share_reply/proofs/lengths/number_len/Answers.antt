use Rattle.std.proofs.Common.{◌≡◌, ◌+◌, ◌≤◌, ◌∷◌, [], length, decimal, subst, ap, arith}
use Rattle.std.proofs.lemmas.Fmt.{length-decimal-le}
use Rattle.json.specs.Token as token
use Rattle.json_print.specs.Lengths.{Counts, capped}
use Rattle.json_print.specs.declared.lengths.Length.{Length}
use Rattle.share_reply.proofs.lengths.number_len.Goals as goal

pub returns : goal.returns
returns c =
    let n = c.args.number in
    let counted = subst (λ l. Counts l c.u64.new.self (token.number (decimal n) ∷ [])) c.new-length.ensures c.in-Ok.ensures in
    let bytes : c.u64.new.self.bytes ≡ capped (0 + length (decimal n)) = ap (λ (l : Length). l.bytes) counted in
    let few : length (decimal n) ≤ 20 = length-decimal-le 20 n (omega arith) (omega arith) (omega arith) in
    record { counted = omega arith; few = omega arith }
