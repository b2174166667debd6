use Rattle.std.proofs.Common.{sym, subst}
use Rattle.std.specs.Str.{IsUtf8}
use Rattle.client_calls.specs.Bodies.{or_object}
use Rattle.client_calls.proofs.Fetching.{no_text}
use Rattle.client_calls.proofs.body.body_of.Goals as goal

pub returns-in-Err : goal.returns-in-Err
returns-in-Err c = sym (no_text (or_object c.args.bytes.now) (subst (λ bytes. ¬ (IsUtf8 bytes)) c.or_object.ensures c.in-Err.ensures.cases.0))
