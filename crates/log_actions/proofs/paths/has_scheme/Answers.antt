use Rattle.std.proofs.Common.{◌∙◌, refl}
use Rattle.log_actions.proofs.PathLemmas.{first_byte, no_byte}
use Rattle.log_actions.proofs.paths.has_scheme.Goals as goal

pub returns-in-Some : goal.returns-in-Some
returns-in-Some c =
    let first = first_byte 58 c.args.bytes.now c.in-Some.at c.memchr.result c.in-Some.is c.memchr.ensures in
    c.is_scheme.ensures ∙ rw (first.passes, first.place) refl

pub returns-in-None : goal.returns-in-None
returns-in-None c = rw (no_byte 58 c.args.bytes.now c.memchr.result c.in-None.is c.memchr.ensures) refl
