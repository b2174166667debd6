use Rattle.http_wire.proofs.Following.{follows, ends}
use Rattle.http_wire.proofs.law.calls_follow.Goals as goal

pub returns : goal.returns
returns c = record { more = follows; last = ends }
