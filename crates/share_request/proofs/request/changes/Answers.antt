use Rattle.std.proofs.Common.{subst}
use Rattle.share_request.specs.Asked.{changes_from}
use Rattle.share_request.specs.Stops.{Gives}
use Rattle.share_request.proofs.request.changes.Goals as goal

pub returns : goal.returns
returns c = subst (λ token. Gives c.changes_from.result (changes_from c.args.names.now c.args.pairs.now token)) c.in_ok-token.ensures c.changes_from.ensures
