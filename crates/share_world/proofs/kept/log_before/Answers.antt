use Rattle.std.proofs.Common.{◌∙◌, List, take, ap, sym}
use Rattle.log_actions.specs.declared.actions.Action.{Action}
use Rattle.share_world.specs.Worlds.{commits_of, commits_with}
use Rattle.share_world.specs.declared.event.Event.{Event}
use Rattle.share_world.proofs.Lists.{commits_more, take_next}
use Rattle.share_world.proofs.kept.log_before.Goals as goal

pub loop-event-preserved : goal.loop-event-preserved
loop-event-preserved c =
    let l = c.args.location.now in
    let events = c.args.events.now in
    let i = c.loop-event.event-index in
    let e = c.event-item.result in
    c.in_ok-add.ensures ∙ ap (λ (log : List (List Action)). commits_with c.as_str.result.now log e) c.loop-event.invariant ∙ ap (λ (x : _). commits_with x (commits_of (take i events) l) e) c.as_str.ensures
    ∙ sym (commits_more (take i events) e l) ∙ ap (λ (xs : List Event). commits_of xs l) (sym (take_next events i e c.loop-event-test.true c.event-item.is))
