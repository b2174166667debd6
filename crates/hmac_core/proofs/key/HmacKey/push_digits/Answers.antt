use Rattle.hmac_core.proofs.Facts.{digits_are_text}
use Rattle.hmac_core.proofs.key.HmacKey.push_digits.Goals as goal

pub unreachable-requires : goal.unreachable-requires
unreachable-requires c =
    c.in_default.ensures.cases.0 (rw c.tag_digits-digits.ensures (digits_are_text c.args.self.now c.args.text.now))
