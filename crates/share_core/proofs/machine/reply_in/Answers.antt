use Rattle.std.proofs.Common.{◌≡◌, Option, option_map, ap, ◌∙◌}
use Rattle.std.proofs.lemmas.Result.{IfOk-weaker}
use Rattle.std.specs.Prelude.{option_to_list}
use Rattle.share_core.specs.Answers.{chosen_replies}
use Rattle.share_core.specs.Asks.{asked_by}
use Rattle.share_core.specs.Seen.{chosen_reply}
use Rattle.share_core.specs.declared.reply.Reply.{Reply}
use Rattle.share_core.proofs.Replying.{reply_seen}
use Rattle.share_core.proofs.machine.reply_in.Goals as goal
use Rattle.share_world.specs.declared.event.Event.TheVariants as event

pub returns-clause-reply : goal.returns-clause-reply
returns-clause-reply c = λ before s.
    let keys = c.args.keys.now in
    let request = c.args.request.now in
    let recipient = option_map (λ r. r.now) c.args.recipient in
    let shows = reply_seen keys before request c.args.now recipient c.in_ok-seen.seen (c.in_ok-seen.ensures.seen before s) in
    IfOk-weaker c.chosen_reply.result
    (λ (r : Option Reply). r ≡ chosen_reply keys recipient request c.args.now c.in_ok-seen.seen)
    (λ (r : Option Reply). option_to_list r ≡ chosen_replies keys recipient (option_to_list (asked_by keys before (event.Ask request c.args.now))))
    (λ r is. ap option_to_list is ∙ shows) c.chosen_reply.ensures
