use Rattle.std.proofs.Common.{refl, ◌∙◌}
use Rattle.signed_call.specs.Texts.{head_text}
use Rattle.signed_call.proofs.head.head_text.Goals as goal

pub returns : goal.returns
unfolding head_text
returns c =
    c.of.ensures
    ∙ c.in_ok-push_str.ensures.bytes
    ∙ rw (
      c.in_ok-push_length.ensures,
      c.in_ok-push_line.ensures,
      c.as_str-2.ensures,
      c.in_ok-proof.ensures,
      c.as_str.ensures,
      c.in_ok-push_lines.ensures,
      c.items.ensures,
      c.in_ok-push_first_line.ensures,
      c.new-text.ensures.bytes,
      c.in_ok-asked.ensures,
    )
    refl
