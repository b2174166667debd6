use Rattle.std.proofs.Common.{◌≡◌, ◌++◌, ap, ◌∙◌}
use Rattle.percent_encoding.specs.Iter.{decoded_bytes}
use Rattle.text_forms.specs.Escape.{escaped}
use Rattle.share_request.specs.Targets.{one_spelling}
use Rattle.share_request.proofs.target.push_spelling.Goals as goal

pub returns : goal.returns
returns c =
    let bytes : c.append_to.new.out.items ≡ decoded_bytes c.percent_decode_str.result =
    c.in_ok-append_to.ensures.ok ∙ ap (λ x. x ++ decoded_bytes c.percent_decode_str.result) c.new-bytes.ensures.items in
    let spelling : escaped c.deref.result.now ≡ one_spelling c.args.part.now =
    ap escaped (c.deref.ensures.value ∙ bytes ∙ c.percent_decode_str.ensures.bytes) in
    rw spelling at c.push_escaped.ensures
