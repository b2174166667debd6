use Rattle.std.proofs.Common.{◌≡◌, ◌∙◌, List, map, ap}
use Rattle.std.proofs.lemmas.Result.{IfOk-weaker}
use Rattle.share_core.specs.Answers.{replies_of, reply_to}
use Rattle.share_core.specs.Asks.{Asked, asks_of}
use Rattle.share_core.proofs.Lists.{all_chosen}
use Rattle.share_core.proofs.machine.run.Goals as goal

pub returns : goal.returns
returns c = IfOk-weaker c.replies_in.result _ (λ v. v.items ≡ replies_of c.args.keys.now c.args.events.now) (λ v is. is ∙ ap (λ (xs : List Asked). map (reply_to c.args.keys.now) xs) (all_chosen (asks_of c.args.keys.now c.args.events.now))) c.replies_in.ensures
