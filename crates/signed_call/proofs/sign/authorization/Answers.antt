use Rattle.std.proofs.Common.{refl, ◌∙◌}
use Rattle.signed_call.specs.Signing.{authorization, signature}
use Rattle.signed_call.proofs.sign.authorization.Goals as goal

pub returns : goal.returns
unfolding authorization signature
returns c =
    c.of.ensures
    ∙ c.in_ok-push_digits.ensures
    ∙ rw (
      c.in_ok-push_str-4.ensures.bytes,
      c.in_ok-push_names.ensures,
      c.items.ensures,
      c.in_ok-push_str-3.ensures.bytes,
      c.in_ok-push_scope.ensures,
      c.in_ok-push_str-2.ensures.bytes,
      c.in_ok-push_str.ensures.bytes,
      c.as_str-2.ensures,
      c.in_ok-text.ensures.ok,
      c.in_ok-signing.ensures c.as_bytes.result.now,
      c.as_str.ensures,
      c.as_bytes.ensures.value,
      c.in_ok-signed.ensures,
    )
    refl
