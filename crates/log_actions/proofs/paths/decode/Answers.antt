use Rattle.std.proofs.Common.{◌≡◌, subst, false}
use Rattle.std.specs.List.{list_any}
use Rattle.memchr.specs.Find.{is_byte}
use Rattle.log_actions.proofs.PathLemmas.{no_byte, plain_text}
use Rattle.log_actions.proofs.paths.decode.Goals as goal

pub returns-in-None : goal.returns-in-None
returns-in-None c =
    let none : list_any (is_byte 37) c.as_bytes.result.now ≡ false = no_byte 37 c.as_bytes.result.now c.memchr.result c.in-None.is c.memchr.ensures in
    plain_text c.args.path.now (subst (λ path. list_any (is_byte 37) path ≡ false) c.as_bytes.ensures.value none) c.utf8.path
