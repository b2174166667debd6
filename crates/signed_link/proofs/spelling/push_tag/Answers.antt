use Rattle.hmac_core.proofs.Facts.{digits_are_text}
use Rattle.signed_link.proofs.spelling.push_tag.Goals as goal

pub unreachable-requires : goal.unreachable-requires
unreachable-requires c =
    c.in_default.ensures.cases.0 (rw c.tag_digits-digits.ensures (digits_are_text c.args.key.now _))
