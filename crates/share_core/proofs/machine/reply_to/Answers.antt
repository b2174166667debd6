use Rattle.std.proofs.Common.{◌≡◌, sym, subst, option_map}
use Rattle.std.specs.Prelude.{IfOk, option_to_list}
use Rattle.share_core.specs.Answers.{chosen_replies}
use Rattle.share_core.specs.Asks.{asked_by}
use Rattle.share_world.specs.declared.event.Event.{Event}
use Rattle.share_core.proofs.machine.reply_to.Goals as goal

pub returns-in-Ask-clause-reply : goal.returns-in-Ask-clause-reply
returns-in-Ask-clause-reply c = λ before s.
    subst (λ (e : Event). IfOk c.reply_in.result (λ r. option_to_list r ≡ chosen_replies c.args.keys.now (option_map (λ r. r.now) c.args.recipient) (option_to_list (asked_by c.args.keys.now before e))))
    (sym c.in-Ask.is) (c.reply_in.ensures.reply before s)
