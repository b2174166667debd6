use Rattle.share_serve.proofs.Takes.{offers_taken}
use Rattle.share_serve.proofs.law.offers_are_taken.Goals as goal

pub returns : goal.returns
returns c = offers_taken c.offers_are_committed.ensures
