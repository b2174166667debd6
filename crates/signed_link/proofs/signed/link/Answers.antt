use Rattle.std.proofs.Common.{◌++◌, ap, ◌∙◌}
use Rattle.signed_link.specs.Link.{signed}
use Rattle.signed_link.proofs.signed.link.Goals as goal

pub returns : goal.returns
returns c = record {
  value = c.in_ok-push_signed.ensures.value;
  in_range = c.in_ok-push_signed.ensures.in_range;
  spelt =
      c.of.ensures
      ∙ c.in_ok-push_signed.ensures.text
      ∙ ap (λ x. x ++ signed c.args.key.now c.args.parts.now) c.in_ok-push_str.ensures.bytes
      ∙ ap (λ x. (x ++ c.args.endpoint.now) ++ signed c.args.key.now c.args.parts.now) c.in_ok-text.ensures.bytes;
}
