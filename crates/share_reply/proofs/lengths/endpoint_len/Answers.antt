use Rattle.std.proofs.Common.{◌≡◌, ◌+◌, ◌*◌, ◌≤◌, ◌∷◌, [], length, length-append, leb-true, subst, ap, arith}
use Rattle.std.proofs.lemmas.Bool.{and_parts}
use Rattle.json.specs.Print.{escape, quoted}
use Rattle.json.specs.Token as token
use Rattle.json_print.specs.Lengths.{Counts, capped}
use Rattle.json_print.specs.declared.lengths.Length.{Length}
use Rattle.share_reply.proofs.PrintedLengths.{escape_few}
use Rattle.share_reply.proofs.lengths.endpoint_len.Goals as goal

pub returns : goal.returns
returns c =
    let endpoint = c.args.endpoint.now in
    let counted = subst (λ l. Counts l c.string.new.self (token.string c.as_str.result.now ∷ [])) c.new-length.ensures c.in-Ok.ensures in
    let bytes : c.string.new.self.bytes ≡ capped (0 + length (quoted c.as_str.result.now)) = ap (λ (l : Length). l.bytes) counted in
    let same : length (quoted c.as_str.result.now) ≡ length (quoted endpoint) = ap (λ t. length (quoted t)) c.as_str.ensures.value in
    let marks = length-append (escape endpoint) (34 ∷ []) in
    let short : length endpoint ≤ 512 = leb-true _ _ (and_parts _ _ c.as_str.ensures.good).0 in
    let few : length (escape endpoint) ≤ 6 * length endpoint = escape_few endpoint in
    record { counted = omega arith; few = omega arith }
