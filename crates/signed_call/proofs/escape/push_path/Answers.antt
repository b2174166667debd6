use Rattle.std.proofs.Common.{◌≡◌, ◌∙◌, arith}
use Rattle.std.proofs.lemmas.List.Elements.{All-from_get_or}
use Rattle.percent_encoding.specs.Iter.{encoded_text}
use Rattle.percent_encoding.proofs.PercentLemmas.{IsByte}
use Rattle.signed_call.specs.Paths.{escaped_path}
use Rattle.signed_call.proofs.Escapes.{percent_encode-escaped_path}
use Rattle.signed_call.proofs.escape.push_path.Goals as goal

pub returns : goal.returns
returns c =
    let text : encoded_text c.percent_encode.result ≡ escaped_path c.args.bytes.now =
    c.percent_encode.ensures.text ∙ percent_encode-escaped_path c.args.bytes.now (All-from_get_or IsByte c.args.bytes.now 0 (λ i within. omega (arith, c.type_inv.bytes i))) in
    rw text at c.append_to.ensures.ok
