use Rattle.share_reply.proofs.FormatLemmas.{formats_are_alike}
use Rattle.share_reply.proofs.law.formats_agree.Goals as goal

pub returns : goal.returns
returns c = formats_are_alike
