use Rattle.std.proofs.Common.{Some, sym, ap, ◌∙◌}
use Rattle.hex.specs.Hex.{encode_lower}
use Rattle.hmac_core.specs.Hmac.{hmac}
use Rattle.page_token.proofs.Signed.{parts_again, decoded, same_parts, same_payload}
use Rattle.page_token.proofs.token.signed_payload.Goals as goal

pub returns-in_default-clause-every : goal.returns-in_default-clause-every
returns-in_default-clause-every c = λ p h e.
    let parts = parts_again c.args.key.now p c.args.text.now e in
    let none = rw (c.in_default.is, c.as_bytes.ensures.value) at c.parts_of.ensures in
    absurd cc

pub returns-in-Err-DecodeError-clause-every : goal.returns-in-Err-DecodeError-clause-every
returns-in-Err-DecodeError-clause-every c = λ p h e.
    let parts = (rw (c.in-Some.is, c.as_bytes.ensures.value) at c.parts_of.ensures) ∙ parts_again c.args.key.now p c.args.text.now e in
    let good = decoded p _ h (same_parts _ _ _ _ parts).0 in
    let failed = rw c.in-Err-DecodeError.field-0-is at c.in-Err-DecodeError.ensures.err in
    absurd cc

pub returns-then-agrees_with_digits-clause-every : goal.returns-then-agrees_with_digits-clause-every
returns-then-agrees_with_digits-clause-every c = λ p h e.
    let parts = (rw (c.in-Some.is, c.as_bytes.ensures.value) at c.parts_of.ensures) ∙ parts_again c.args.key.now p c.args.text.now e in
    let good = decoded p _ h (same_parts _ _ _ _ parts).0 in
    ap (λ x. Some x) (same_payload _ _ _ c.in-Ok.ensures.ok good)

pub returns-else-agrees_with_digits-clause-every : goal.returns-else-agrees_with_digits-clause-every
returns-else-agrees_with_digits-clause-every c = λ p h e.
    let parts = (rw (c.in-Some.is, c.as_bytes.ensures.value) at c.parts_of.ensures) ∙ parts_again c.args.key.now p c.args.text.now e in
    let both = same_parts _ _ _ _ parts in
    let good = decoded p _ h both.0 in
    let same = same_payload _ _ _ c.in-Ok.ensures.ok good in
    let yes = c.if-agrees_with_digits.ensures.1
    (both.1 ∙ ap (λ x. encode_lower (hmac c.args.key.now x)) (sym (c.deref.ensures.value ∙ same))) in
    absurd cc
