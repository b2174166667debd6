use Rattle.share_request.proofs.CallerLemmas.{heads_tell}
use Rattle.share_request.proofs.law.heads_tell_callers.Goals as goal

pub returns : goal.returns
returns c = heads_tell
