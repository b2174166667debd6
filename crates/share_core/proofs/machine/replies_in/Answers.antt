use Rattle.std.proofs.Common.{List, take, sym, subst, option_map}
use Rattle.share_world.specs.Standing.{Stands}
use Rattle.share_world.specs.declared.event.Event.{Event}
use Rattle.share_world.proofs.Lists.{take_next}
use Rattle.share_core.proofs.Lists.{replies_more}
use Rattle.share_core.proofs.machine.replies_in.Goals as goal

pub loop-at-preserved : goal.loop-at-preserved
loop-at-preserved c =
    let events = c.args.events.now in
    let at = c.loop-at.at in
    let e = c.index-events-at.result in
    record {
      stands = subst (λ (xs : List Event). Stands c.take.new.self xs) (sym (take_next events at e c.loop-at-test.true c.index-events-at.is)) c.in_ok-take.ensures;
      replies =
          replies_more c.args.keys.now (option_map (λ r. r.now) c.args.recipient) events at e c.loop-at.replies.items c.push.new.replies.items c.in_ok-reply.reply
          c.loop-at-test.true c.index-events-at.is c.loop-at.invariant.replies (c.in_ok-reply.ensures.reply (take at events) c.loop-at.invariant.stands) c.in_ok-push.ensures;
    }
