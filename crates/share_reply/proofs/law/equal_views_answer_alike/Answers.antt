use Rattle.share_reply.proofs.LawLemmas.{equal_views_answer_alike}
use Rattle.share_reply.proofs.law.equal_views_answer_alike.Goals as goal

pub returns : goal.returns
returns c = equal_views_answer_alike
