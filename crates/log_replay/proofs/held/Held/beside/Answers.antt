use Rattle.std.proofs.Common.{subst}
use Rattle.log_replay.specs.Applied.{Holds}
use Rattle.log_replay.proofs.AppliedLemmas.{Holds-append}
use Rattle.log_replay.proofs.BesideLemmas.{bare_is}
use Rattle.log_replay.proofs.held.Held.beside.Goals as goal

pub returns : goal.returns
returns c =
    subst (Holds c.put_txns.new.self) (bare_is c.args.base.now _ _ _ c.protocol.ensures c.meta.ensures c.txns.ensures)
    (Holds-append c.under-held.result c.put_txns.new.self _ _ c.under-held.ensures c.in_ok-put_txns.ensures)
