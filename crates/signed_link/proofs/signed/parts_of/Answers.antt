use Rattle.std.proofs.Common.{◌≡◌, ◌++◌, None, sym, ap, ◌∙◌}
use Rattle.hex.specs.Hex.{encode_lower}
use Rattle.hmac_core.specs.Hmac.{hmac}
use Rattle.signed_link.specs.Link.{endpoint_path, unsigned}
use Rattle.signed_link.specs.Reading.{parts_in}
use Rattle.signed_link.proofs.Read.{link_again, same_parts}
use Rattle.signed_link.proofs.PartsOf.{link_cut, link_from, none_is, same_two, spellings_are_read}
use Rattle.signed_link.proofs.signed.parts_of.Goals as goal

pub returns-in_default : goal.returns-in_default
returns-in_default c = none_is c.args.key.now c.args.target.now (λ p h.
    let cut = link_cut c.args.key.now c.args.target.now p h.spelt in
    let none = rw (c.in_default.is, c.as_bytes.ensures.value) at c.cut_tail.ensures.value in
    absurd cc)

pub returns-in-Err-NotSpelt : goal.returns-in-Err-NotSpelt
returns-in-Err-NotSpelt c = none_is c.args.key.now c.args.target.now (λ p h.
    let none : parts_in endpoint_path c.args.target.now ≡ None = rw c.in-Err-NotSpelt.field-0-is at c.in-Err-NotSpelt.ensures in
    let again = link_again c.args.key.now endpoint_path c.args.target.now p h in
    absurd cc)

pub returns-then-branch : goal.returns-then-branch
returns-then-branch c =
    let signed = c.in_ok-is_signed.ensures.spelt.0 c.if-branch.true in
    let text = link_from c.args.key.now c.args.target.now _ _ c.in-Ok.parts (sym c.as_bytes.ensures.value ∙ c.in-Some.ensures.joined) signed.0 signed.1 in
    sym (spellings_are_read c.args.key.now c.args.target.now c.in-Ok.parts
    (record { value = c.in_ok-is_signed.ensures.value; in_range = c.in_ok-is_signed.ensures.in_range; spelt = text }))

pub returns-else-branch : goal.returns-else-branch
returns-else-branch c = none_is c.args.key.now c.args.target.now (λ p h.
    let same = same_parts _ _ (sym c.in-Ok.ensures ∙ link_again c.args.key.now endpoint_path c.args.target.now p h) in
    let cut = (rw c.as_bytes.ensures.value at c.in-Some.ensures.value) ∙ link_cut c.args.key.now c.args.target.now p h.spelt in
    let both = same_two _ _ _ _ cut in
    let yes = c.in_ok-is_signed.ensures.spelt.1
    (both.0 ∙ ap (λ q. endpoint_path ++ unsigned q) (sym same), both.1 ∙ ap (λ q. encode_lower (hmac c.args.key.now (unsigned q))) (sym same)) in
    let no = c.if-branch.false in
    absurd cc)
