use Rattle.std.proofs.Common.{map, ap}
use Rattle.share_core.specs.Answers.{reply_to}
use Rattle.share_core.proofs.law.worlds_answer_alike.Goals as goal

pub returns : goal.returns
returns c = λ keys recipient a b same. ap (map (reply_to keys)) same
